-- Sections of a document: the root, and below each its parts or its message (own).
use Rattle.std.specs.Prelude.{drop, is_some, ◌==◌, ◌+◌, ◌++◌, ◌||◌, if◌then◌else◌, ℕ, Bool, true, false, Option, None, Some, List, [], ◌∷◌, option_and_then}
use Rattle.mk_line.specs.Lines.{TextLine, text_of, text_line}
use Rattle.mk_line.specs.declared.cutting.Ending.TheVariants.{Missing}
use Rattle.mk_head.specs.Split.{head_lines}
use Rattle.std.specs.Option.{option_to_list}
use Rattle.mk_head.specs.Fields.{FieldText, fields_of, counted}
use Rattle.mk_tree.specs.Cutting.{tail_lines}
use Rattle.mk_tree.specs.Tree.{Entity, leaf, message, multi, Parts, no_parts, part, print, print_parts, entity_head}
use Rattle.mk_tree.specs.Documents.{Document}
use Rattle.mk_tree.specs.Spans.{size, digest_below}

-- an entity in its place: where it begins, in bytes; whether lines stand after it; whether a missing type means a message
pub record Placed : Type 0 where
  pub start : ℕ
  pub followed : Bool
  pub digest : Bool
  pub entity : Entity

-- some part is there
abbrev pub has_part : Parts → Bool
has_part no_parts = false
has_part (part l e ps) = true

-- parts in their places, the first delimiter at a place; `followed`: whether lines stand after the last
abbrev pub parts_placed : ℕ → Bool → Bool → Parts → List Placed
parts_placed place followed digest no_parts = []
parts_placed place followed digest (part l e ps) =
    record { start = place + size (l ∷ []); followed = has_part ps || followed; digest = digest; entity = e }
    ∷ parts_placed (place + size (l ∷ []) + size (print e)) followed digest ps

-- the sections directly below one whose entity is given
abbrev pub children_of : Placed → Entity → List Placed
children_of p (leaf h ls) = []
children_of p (message h e) = record { start = p.start + size (head_lines h); followed = p.followed; digest = false; entity = e } ∷ []
children_of p (multi h b pre ps t) = parts_placed (p.start + size (head_lines h) + size pre) (is_some t || p.followed) (digest_below p.digest h) ps

-- the sections directly below a section, in order
abbrev pub children : Placed → List Placed
children p = children_of p p.entity

-- the root of a document
abbrev pub root_of : Document → Placed
root_of t = record { start = size (option_to_list t.envelope); followed = false; digest = false; entity = t.root }

-- the section at the numbers after a section's own; each counts from 1
abbrev pub section_below : List ℕ → Placed → Option Placed
section_below [] p = Some p
section_below (k ∷ ks) p = option_and_then (section_below ks) (counted k (children p))

-- the section at a path; the root's is 1
abbrev pub section_at : List ℕ → Document → Option Placed
section_at [] t = None
section_at (k ∷ ks) t = if k == 1 then section_below ks (root_of t) else None

-- its bytes
abbrev pub raw_of : Placed → List ℕ
raw_of p = text_of (print p.entity)

-- the bytes of its fields
abbrev pub head_text : Placed → List ℕ
head_text p = text_of (entity_head p.entity).fields

-- the lines of an entity after its head
abbrev pub body_lines : Entity → List TextLine
body_lines (leaf h ls) = ls
body_lines (message h e) = print e
body_lines (multi h b pre ps t) = (pre ++ (print_parts ps ++ tail_lines t))

-- the bytes after its head
abbrev pub body_text : Placed → List ℕ
body_text p = text_of (body_lines p.entity)

-- lines whose last has lost its ending
abbrev pub unended : List TextLine → List TextLine
unended [] = []
unended (l ∷ []) = text_line l.content Missing ∷ []
unended (l ∷ m ∷ ls) = l ∷ unended (m ∷ ls)

-- the bytes of its content: the line ending before a delimiter or close line belongs to that line (RFC 2046, 5.1.1)
abbrev pub content_text : Placed → List ℕ
content_text p = text_of (if p.followed then unended (body_lines p.entity) else body_lines p.entity)

-- the lines before the first delimiter of a multipart
abbrev pub preamble_lines : Entity → List TextLine
preamble_lines (leaf h ls) = []
preamble_lines (message h e) = []
preamble_lines (multi h b pre ps t) = pre

-- the lines after the close line of a multipart
abbrev pub epilogue_lines : Entity → List TextLine
epilogue_lines (leaf h ls) = []
epilogue_lines (message h e) = []
epilogue_lines (multi h b pre ps t) = drop 1 (tail_lines t)

-- the boundary of a multipart
abbrev pub boundary_in : Entity → Option (List ℕ)
boundary_in (leaf h ls) = None
boundary_in (message h e) = None
boundary_in (multi h b pre ps t) = Some b

-- its fields
abbrev pub section_fields : Placed → List FieldText
section_fields p = fields_of (entity_head p.entity).fields
