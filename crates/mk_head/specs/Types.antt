-- What fields say of a body: its content type and its encoding (RFC 2045, 5.1, 5.2 and 6; RFC 2046, 5.1.5 for digests).
use Rattle.std.specs.Option.{option_map_or}
use Rattle.std.specs.Prelude.{◌&&◌, ◌++◌, if◌then◌else◌, ℕ, Bool, true, false, Option, None, Some, List, [], ◌∷◌, codes, unwrap_or}
use Rattle.mk_line.specs.declared.cutting.Ending.{Ending}
use Rattle.mk_line.specs.Lines.{TextLine, text_line}
use Rattle.mk_line.specs.Marks.{trimmed}
use Rattle.mk_head.specs.declared.encodings.Encoding.{Encoding}
use Rattle.mk_head.specs.declared.encodings.Encoding.TheVariants.{Identity}
use Rattle.mk_head.specs.Split.{is_start}
use Rattle.mk_head.specs.Fields.{continuations, field_text, is_named}
use Rattle.mk_head.specs.Unfolding.{value_in}
use Rattle.mk_head.specs.Values.{MediaType, media_type, content_type_of, param_of}
use Rattle.mk_head.specs.Encodings.{encoding_of}

-- the value of the first field of a name among the lines of a header
abbrev pub field_value : List ℕ → List TextLine → Option (List ℕ)
field_value name [] = None
field_value name (l ∷ ls) = if is_start l && is_named name (field_text l []) then Some (value_in (l ∷ continuations ls)) else field_value name ls

-- the type that a value says; without a Content-Type field it is the default: text/plain, and message/rfc822 for the parts of a
-- digest
abbrev pub type_by : Bool → Option (List ℕ) → MediaType
type_by digest (Some value) = content_type_of value
type_by true None = media_type (codes "message") (codes "rfc822") []
type_by false None = media_type (codes "text") (codes "plain") []

-- the content type of a header
abbrev pub header_type : Bool → List TextLine → MediaType
header_type digest fields = type_by digest (field_value (codes "Content-Type") fields)

-- the transfer encoding of a header
abbrev pub header_encoding : List TextLine → Encoding
header_encoding fields = option_map_or encoding_of (field_value (codes "Content-Transfer-Encoding") fields) Identity

-- the boundary of a content type: the parameter without the blanks at its end; an empty one is none (own)
abbrev pub boundary_of : MediaType → List ℕ
boundary_of t = trimmed (unwrap_or (param_of (codes "boundary") t.params) [])

-- the field that says a multipart and its boundary (RFC 2046, 5.1.1)
abbrev pub type_line : Ending → List ℕ → List ℕ → TextLine
type_line eol subtype boundary = text_line (codes "Content-Type: multipart/" ++ (subtype ++ (codes "; boundary=\"" ++ (boundary ++ codes "\"")))) eol
