-- Messages built as multiparts of any kind, whose texts may name a charset (RFC 2045, 5.1; RFC 2046, 4.1.2 and 5.1).
use Rattle.std.specs.Prelude.{◌&&◌, ◌++◌, if◌then◌else◌, ℕ, Bool, true, is_some, Option, None, Some, List, [], codes}
use Rattle.std.specs.Option.{option_map, option_map_or}
use Rattle.std.specs.Str.{bytes_eq}
use Rattle.mk_line.specs.declared.cutting.Ending.{Ending}
use Rattle.mk_line.specs.Ascii.{slash}
use Rattle.mk_line.specs.Lines.{ending_bytes}
use Rattle.mk_line.specs.Parting.{before, following}
use Rattle.mk_head.specs.Boundaries.{is_boundary}
use Rattle.mk_head.specs.Values.{is_token, lowered}
use Rattle.mk_build.specs.declared.building.BuildError.{BuildError}
use Rattle.mk_build.specs.declared.building.BuildError.TheVariants as build
use Rattle.mk_build.specs.declared.multipart.Multipart as declared
use Rattle.mk_build.specs.Building.{Attached, disposition_line, encoded, encoding_line}

-- the multipart of a message: its subtype, the charset that its texts name, where they name one, and its boundary
pub record Multipart : Type 0 where
  pub subtype : List ℕ
  pub charset : Option (List ℕ)
  pub boundary : List ℕ

-- what is in memory
abbrev pub multipart_of : declared.Multipart → Multipart
multipart_of m = record { subtype = m.subtype.now; charset = option_map (λ c. c.now) m.charset; boundary = m.boundary.now }

-- parts that have nothing to do with each other, and no charset (RFC 2046, 5.1.3)
abbrev pub mixed : List ℕ → Multipart
mixed boundary = record { subtype = codes "mixed"; charset = None; boundary = boundary }

-- a media type of texts, in any case: `text` before a slash (RFC 2046, 4.1)
abbrev pub is_text : List ℕ → Bool
is_text media = is_some (following slash media) && bytes_eq (lowered (before slash media)) (codes "text")

-- the charset in a type (RFC 2046, 4.1.2)
abbrev pub charset_param : Option (List ℕ) → List ℕ
charset_param None = []
charset_param (Some charset) = codes "; charset=" ++ charset

-- the media type, the charset of a text (RFC 2046, 4.1.2), and the name, which the line after it says again as the name of a file
abbrev pub type_line_as : Ending → Option (List ℕ) → Attached → List ℕ
type_line_as eol charset a =
    codes "Content-Type: "
    ++ (a.media ++ (charset_param (if is_text a.media then charset else None) ++ (option_map_or (λ name. codes "; name=\"" ++ (name ++ codes "\"")) a.name [] ++ ending_bytes eol)))

-- what is attached as a part, a text with the charset: three fields, an empty line, the encoded bytes
abbrev pub attached_as : Ending → Option (List ℕ) → Attached → List ℕ
attached_as eol charset a = type_line_as eol charset a ++ (disposition_line eol a.name a.said ++ (encoding_line eol a.base64 ++ (ending_bytes eol ++ encoded eol a)))

-- the same without a charset
abbrev pub attached : Ending → Attached → List ℕ
attached eol a = attached_as eol None a

-- why a multipart can't be made: its subtype, its charset, its boundary (RFC 2045, 5.1; RFC 2046, 5.1.1)
abbrev pub multipart_refusal : Multipart → Option BuildError
multipart_refusal m =
    if is_token m.subtype then (if option_map_or is_token m.charset true then (if is_boundary m.boundary then None else Some build.BadBoundary) else Some build.BadCharset)
    else Some build.BadSubtype

-- a part: its delimiter, what is attached, and the ending that belongs to the next delimiter
abbrev pub part_as : Ending → Multipart → Attached → List ℕ
part_as eol m a = codes "--" ++ (m.boundary ++ (ending_bytes eol ++ (attached_as eol m.charset a ++ ending_bytes eol)))
