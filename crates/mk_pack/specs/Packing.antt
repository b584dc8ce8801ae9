-- A message packed from fields and files (own).
use Rattle.std.specs.List.{position}
use Rattle.std.specs.Option.{option_map}
use Rattle.std.specs.Prelude.{◌≡◌, ◌++◌, if◌then◌else◌, ℕ, Bool, true, false, Option, None, Some, unwrap_or, List, [], ◌∷◌, codes, decimal, length, map, not}
use Rattle.mk_line.specs.Ascii.{line_feed, space}
use Rattle.mk_line.specs.Lines.{TextLine, cut, eol_of, is_nil}
use Rattle.mk_head.specs.Split.{after_head, fields_from}
use Rattle.mk_head.specs.Fields.{fields_of}
use Rattle.mk_line.specs.declared.cutting.Ending.{Ending}
use Rattle.mk_script.specs.Endings.{turned_to}
use Rattle.mk_build.specs.declared.attachment.Attach.{Attach}
use Rattle.mk_build.specs.declared.building.BuildError.{BuildError}
use Rattle.mk_build.specs.declared.building.BuildError.TheVariants as refused
use Rattle.mk_build.specs.BuildViews.{attached_of, written_in}
use Rattle.mk_build.specs.Building.{Attached, is_free_field}
use Rattle.mk_build.specs.Forwards.{Forwarded, build_refusal, built, built_with, refusal_with}
use Rattle.mk_build.specs.Multiparts.{Multipart}
use Rattle.mk_pack.specs.declared.packing.PackOptions.{PackOptions}
use Rattle.mk_pack.specs.FreeBoundary.{free_boundary}
use Rattle.mk_pack.specs.Parts.{is_text}
use Rattle.mk_transfer.specs.Said.{Run, shown}

-- the fields at the start of lines, each with all its bytes
abbrev pub fields_in_front : List TextLine → List (List ℕ)
fields_in_front ls = map (λ f. f.raw) (fields_of (fields_from false ls))

-- more than a separator stands after the fields
abbrev pub has_body : List TextLine → Bool
has_body ls = not (is_nil (after_head ls))

-- what lines give for fields: those at the start and, where they have a body, an empty text for it, which is no field
abbrev pub fields_given : List TextLine → List (List ℕ)
fields_given ls = fields_in_front ls ++ (if has_body ls then [] ∷ [] else [])

-- the name under which a reason is reported
abbrev pub build_name : BuildError → List ℕ
build_name (refused.BadField index) = codes "BadField"
build_name (refused.BadType index) = codes "BadType"
build_name (refused.BadName index) = codes "BadName"
build_name refused.BadSubtype = codes "BadSubtype"
build_name refused.BadCharset = codes "BadCharset"
build_name refused.BadBoundary = codes "BadBoundary"
build_name (refused.HoldsBoundary index) = codes "HoldsBoundary"
build_name refused.Memory = codes "Memory"

-- the index that a reason names, of a field, a part or a message
abbrev pub index_of : BuildError → Option ℕ
index_of (refused.BadField index) = Some index
index_of (refused.BadType index) = Some index
index_of (refused.BadName index) = Some index
index_of refused.BadSubtype = None
index_of refused.BadCharset = None
index_of refused.BadBoundary = None
index_of (refused.HoldsBoundary index) = Some index
index_of refused.Memory = None

-- an index after a name, where there is one
abbrev pub after_name : Option ℕ → List ℕ
after_name None = []
after_name (Some index) = space ∷ decimal index

-- the line that reports why no message is built
abbrev pub pack_line : BuildError → List ℕ
pack_line error = codes "pack: " ++ (build_name error ++ (after_name (index_of error) ++ line_feed ∷ []))

-- the message goes out where there is no reason against it, and else the reason to the errors
abbrev pub told : List ℕ → Option BuildError → Run
told message None = shown message []
told message (Some error) = shown [] (pack_line error)

-- the message of the fields that a text gives and of these parts, with the line ending of the text
abbrev pub packed : List ℕ → List Attached → List ℕ → Run
packed boundary parts text =
    let fields = fields_given (cut text) in
    told (built (eol_of (cut text)) fields parts boundary) (build_refusal fields parts boundary)

-- the same as a fact
abbrev pub IsPacked : List ℕ → List Attached → List ℕ → Run → Type 0
IsPacked boundary parts text run = run ≡ packed boundary parts text

-- how a message is packed: whether names in UTF-8 are written a second time as they are, the subtype of its multipart, the charset
-- and the boundary where they are given, and whether the lines of texts end as those of the fields do
pub record Manner : Type 0 where
  pub utf8_names : Bool
  pub subtype : List ℕ
  pub charset : Option (List ℕ)
  pub boundary : Option (List ℕ)
  pub turned : Bool

-- what is in memory
abbrev pub manner_of : PackOptions → Manner
manner_of o = record { utf8_names = o.utf8_names; subtype = o.subtype.now; charset = option_map (λ c. c.now) o.charset; boundary = option_map (λ b. b.now) o.boundary; turned = o.turned }

-- where nothing is asked for: a multipart/mixed with a boundary that is made, and texts as they are
abbrev pub usual_manner : Manner
usual_manner = record { utf8_names = false; subtype = codes "mixed"; charset = None; boundary = None; turned = false }

-- a part whose lines, where it is a text, end so (own)
abbrev pub turned_part : Ending → Attached → Attached
turned_part eol a = record { media = a.media; name = a.name; said = a.said; text = if is_text a.media then turned_to eol a.text else a.text; base64 = a.base64 }

-- such parts, where that is asked for
abbrev pub turned_parts : Bool → Ending → List Attached → List Attached
turned_parts turned eol parts = if turned then map (turned_part eol) parts else parts

-- the multipart of a manner, with a boundary
abbrev pub multipart_with : Manner → List ℕ → Multipart
multipart_with m boundary = record { subtype = m.subtype; charset = m.charset; boundary = boundary }

-- the message of the fields that a text gives, of these parts and of messages, packed in a manner with the line ending of the text:
-- between the boundary that is given, or else one that is made of the fields, the files under their names, and the messages
abbrev pub packed_in : Manner → List Attach → List Forwarded → List ℕ → Run
packed_in m parts messages text =
    let eol = eol_of (cut text) in
    let fields = fields_given (cut text) in
    let files = turned_parts m.turned eol (map attached_of parts) in
    let written = turned_parts m.turned eol (map (written_in m.utf8_names) parts) in
    let multipart = multipart_with m (unwrap_or m.boundary (free_boundary fields files messages)) in
    told (built_with eol fields written messages multipart) (refusal_with fields written messages multipart)

-- the same as a fact
abbrev pub IsPackedWith : Manner → List Attach → List Forwarded → List ℕ → Run → Type 0
IsPackedWith m parts messages text run = run ≡ packed_in m parts messages text

-- a text with a body is never packed: the reason names its first field that can't stand at the start, or their number where all can
abbrev pub BodiesAreRefused : Type 0
BodiesAreRefused = (text : List ℕ) (parts : List Attached) (boundary : List ℕ) → has_body (cut text) ≡ true →
    let fields = fields_in_front (cut text) in
    build_refusal (fields_given (cut text)) parts boundary ≡ Some (refused.BadField (unwrap_or (position (λ f. not (is_free_field f)) fields) (length fields)))
