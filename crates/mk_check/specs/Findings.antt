-- What a reader should know of a message (own; each definition names the RFC that asks for it).
use Rattle.std.specs.Prelude.{◌≡◌, ◌⊎◌, ◌==◌, ◌&&◌, ◌||◌, ◌+◌, ◌++◌, if◌then◌else◌, ℕ, Bool, true, false, List, [], ◌∷◌, Option, None, Some, codes, is_some, unwrap_or}
use Rattle.std.specs.List.{flat_map}
use Rattle.std.specs.Option.{option_map, option_map_or}
use Rattle.std.specs.Str.{bytes_eq}
use Rattle.mk_line.specs.Lines.{TextLine, cut, is_nil}
use Rattle.mk_head.specs.Split.{head_lines}
use Rattle.mk_head.specs.Types.{boundary_of, field_value}
use Rattle.mk_head.specs.Values.{MediaType, param_of}
use Rattle.mk_code.specs.declared.decoding.CodeError.TheVariants as code
use Rattle.mk_tree.specs.declared.shapes.Kind.{Kind}
use Rattle.mk_tree.specs.declared.shapes.Kind.TheVariants.{Leaf, Multi, Message}
use Rattle.mk_tree.specs.Forms.{kind_in}
use Rattle.mk_tree.specs.Sections.{Placed, children, head_text, raw_of}
use Rattle.mk_tree.specs.Spans.{size}
use Rattle.mk_tree.specs.Tree.{entity_head, field_lines, print}
use Rattle.mk_view.specs.Extracts.{IsContentOf, IsRefusedOf}
use Rattle.mk_view.specs.Listing.{type_of}
use Rattle.mk_check.specs.declared.faults.Fault.{Fault}
use Rattle.mk_check.specs.declared.faults.Fault.TheVariants.{NotAscii, LongLine, HasNul, Repeated, MissingSemicolon, ExtendedBoundary, NoBoundary, NoPart, NotClosed, UnknownEncoding, BadBase64}
use Rattle.mk_check.specs.Places.{begins_named, has_nul, is_not_ascii, is_too_long, line_place}
use Rattle.mk_check.specs.SideBySide.{has_words_beside}

-- something found: where, in bytes from the start of the message, what, and the field that it is about, if it is about one
pub record FoundFault : Type 0 where
  pub place : ℕ
  pub fault : Fault
  pub field : List ℕ

-- a fault is found where it has a place
abbrev pub found_at : Fault → List ℕ → Option ℕ → List FoundFault
found_at fault field None = []
found_at fault field (Some place) = record { place = place; fault = fault; field = field } ∷ []

-- the place, where a condition holds
abbrev pub place_if : Bool → ℕ → Option ℕ
place_if holds place = if holds then Some place else None

-- where the first line of a kind begins in a text of a section, in bytes from the start of the message
abbrev pub first_place : Placed → (TextLine → Bool) → List ℕ → Option ℕ
first_place p kind text = option_map (λ place. p.start + place) (line_place kind true (cut text))

-- the text of a section that no section below it holds: a leaf whole, and else its fields
abbrev pub own_text_by : Kind → Placed → List ℕ
own_text_by Leaf p = raw_of p
own_text_by Multi p = head_text p
own_text_by Message p = head_text p

abbrev pub own_text : Placed → List ℕ
own_text p = own_text_by (kind_in p.entity) p

-- the first line of the fields that isn't ASCII (RFC 5322, 2.2), and the first of the section's own lines that is too long (2.1.1), and
-- that has a NUL
abbrev pub line_faults : Placed → List FoundFault
line_faults p =
    found_at NotAscii [] (first_place p is_not_ascii (head_text p))
    ++ (found_at LongLine [] (first_place p is_too_long (own_text p))
    ++ found_at HasNul [] (first_place p has_nul (own_text p)))

-- the names of fields that a header has once at most (RFC 5322, 3.6; RFC 2045, 3; RFC 2183, 2)
abbrev pub single_names : List (List ℕ)
single_names =
    codes "Date" ∷ codes "From" ∷ codes "Sender" ∷ codes "Reply-To" ∷ codes "To" ∷ codes "Cc" ∷ codes "Bcc"
    ∷ codes "Message-ID" ∷ codes "In-Reply-To" ∷ codes "References" ∷ codes "Subject" ∷ codes "MIME-Version"
    ∷ codes "Content-Type" ∷ codes "Content-Transfer-Encoding" ∷ codes "Content-ID" ∷ codes "Content-Description"
    ∷ codes "Content-Disposition" ∷ []

-- a field of this name that comes after another one of it
abbrev pub repeated_field : Placed → List ℕ → List FoundFault
repeated_field p name = found_at Repeated name (option_map (λ place. p.start + place) (line_place (begins_named name) false (cut (head_text p))))

-- where the first field of a name begins; where the section begins, if there is none
abbrev pub field_place : Placed → List ℕ → ℕ
field_place p name = unwrap_or (first_place p (begins_named name) (head_text p)) p.start

-- two words stand side by side in the first field of a name
abbrev pub unseparated : Placed → List ℕ → List FoundFault
unseparated p name = found_at MissingSemicolon name (place_if (option_map_or has_words_beside (field_value name (field_lines p.entity)) false) (field_place p name))

-- a type has a boundary as RFC 2231, 3 and 4.1 write long parameters and those with a charset, which isn't read as one
abbrev pub has_extended_boundary : MediaType → Bool
has_extended_boundary media =
    is_some (param_of (codes "boundary*") media.params)
    || (is_some (param_of (codes "boundary*0") media.params) || is_some (param_of (codes "boundary*0*") media.params))

-- a type is a multipart without a boundary that is read (RFC 2046, 5.1.1)
abbrev pub lacks_boundary : MediaType → Bool
lacks_boundary media = bytes_eq media.main (codes "multipart") && is_nil (boundary_of media)

-- what is wrong with a boundary, at the field that says it
abbrev pub boundary_faults : Placed → List FoundFault
boundary_faults p =
    found_at ExtendedBoundary (codes "Content-Type") (place_if (has_extended_boundary (type_of p)) (field_place p (codes "Content-Type")))
    ++ found_at NoBoundary (codes "Content-Type") (place_if (lacks_boundary (type_of p)) (field_place p (codes "Content-Type")))

-- where a section ends
abbrev pub section_end : Placed → ℕ
section_end p = p.start + size (print p.entity)

-- where the last of some sections ends; what was found before, if there is none
abbrev pub last_end : Option ℕ → List Placed → Option ℕ
last_end before [] = before
last_end before (p ∷ ps) = last_end (Some (section_end p)) ps

-- what is wrong with the parts of a multipart, of which the last ends at a place: there are none, or nothing closes the last one,
-- which ends where the multipart does (RFC 2046, 5.1.1)
abbrev pub part_faults : ℕ → ℕ → Option ℕ → List FoundFault
part_faults body end None = found_at NoPart [] (Some body)
part_faults body end (Some last) = found_at NotClosed [] (place_if (last == end) end)

-- the same for a section of a kind: only a multipart has parts
abbrev pub multi_faults_by : Kind → Placed → List FoundFault
multi_faults_by Leaf p = []
multi_faults_by Multi p = part_faults (p.start + size (head_lines (entity_head p.entity))) (section_end p) (last_end None (children p))
multi_faults_by Message p = []

-- what is found in a section but for its content
abbrev pub plain_faults : Placed → List FoundFault
plain_faults p =
    line_faults p
    ++ (flat_map (repeated_field p) single_names
    ++ (unseparated p (codes "Content-Type")
    ++ (unseparated p (codes "Content-Disposition")
    ++ (boundary_faults p
    ++ multi_faults_by (kind_in p.entity) p))))

-- what is found in the content of a section: it is decoded, or nobody knows its encoding, or it isn't base64 (RFC 2045, 6)
abbrev pub AreContentFaults : Placed → List FoundFault → Type 0
AreContentFaults p faults =
    ((bytes : List ℕ) × IsContentOf p bytes × (faults ≡ []))
    ⊎ (IsRefusedOf p code.UnknownEncoding × (faults ≡ found_at UnknownEncoding (codes "Content-Transfer-Encoding") (Some (field_place p (codes "Content-Transfer-Encoding")))))
    ⊎ (IsRefusedOf p code.BadBase64 × (faults ≡ found_at BadBase64 [] (Some (p.start + size (head_lines (entity_head p.entity))))))

-- all that is found in a section
pub record AreFaults (p : Placed) (faults : List FoundFault) : Type 0 where
  pub content : List FoundFault
  pub in_content : AreContentFaults p content
  pub all : faults ≡ plain_faults p ++ content
