-- Messages built from files: what is attached, and the fields at the start (RFC 2045, 5 and 6; RFC 2183; RFC 2231).
use Rattle.std.specs.Option.{option_map_or, option_map}
use Rattle.std.specs.Prelude.{◌==◌, ◌&&◌, ◌||◌, ◌++◌, if◌then◌else◌, ℕ, Bool, true, false, not, Option, None, Some, List, [], codes, length, map, nat_eq, nat_le, option_and_then, take}
use Rattle.std.specs.List.{list_all, slice_get, starts_with}
use Rattle.std.specs.Str.{bytes_eq, is_utf8}
use Rattle.mk_line.specs.declared.cutting.Ending.{Ending}
use Rattle.mk_line.specs.Lines.{cut, ending_bytes, is_nil}
use Rattle.mk_head.specs.Fields.{is_one_field, name_of}
use Rattle.mk_head.specs.Values.{is_token, lowered}
use Rattle.mk_line.specs.Ascii.{backslash, quote, slash, underscore}
use Rattle.mk_line.specs.Parting.{before, following}
use Rattle.mk_line.specs.Lines.{ends_open}
use Rattle.mk_code.specs.Base64Text.{base64_encoded}
use Rattle.mk_code.specs.EncodedWords.{is_shown}
use Rattle.mk_code.specs.QuotedPrintable.{qp_encoded}
use Rattle.mk_param.specs.Percents.{percent_encoded}
use Rattle.mk_build.specs.declared.attaching.AttachError.{AttachError}
use Rattle.mk_build.specs.declared.attaching.AttachError.TheVariants as attach

-- what is attached: its media type, a name, the name as people write it where that is another one, its bytes, and whether they
-- go as base64, not as quoted-printable
pub record Attached : Type 0 where
  pub media : List ℕ
  pub name : Option (List ℕ)
  pub said : Option (List ℕ)
  pub text : List ℕ
  pub base64 : Bool

-- the most bytes of a media type and of a name (own)
abbrev pub longest : ℕ
longest = 100

-- a type of one body: no multipart and no message, in any case
abbrev pub is_single : List ℕ → Bool
is_single main = not (bytes_eq (lowered main) (codes "multipart")) && not (bytes_eq (lowered main) (codes "message"))

-- a media type that may be attached: token, slash, token (RFC 2045, 5.1)
abbrev pub is_media : List ℕ → Bool
is_media media = nat_le (length media) longest && (is_token (before slash media) && (option_map_or is_token (following slash media) false && is_single (before slash media)))

-- a byte of a name: 32 to 126, no quote and no backslash (own)
abbrev pub is_name_byte : ℕ → Bool
is_name_byte byte = nat_le 32 byte && (nat_le byte 126 && (not (byte == quote) && not (byte == backslash)))

-- a name that may be written
abbrev pub is_name : List ℕ → Bool
is_name name = not (is_nil name) && (nat_le (length name) longest && list_all is_name_byte name)

-- the most bytes of a name as people write it: a file has no longer one on the systems of today (own)
abbrev pub longest_said : ℕ
longest_said = 255

-- what is left of a name in a quoted string: its first bytes, with `_` for each that can't stand there as it is
abbrev pub plain_name : List ℕ → List ℕ
plain_name name = take longest (map (λ byte. if is_name_byte byte then byte else underscore) name)

-- a name that is written as people write it: a text in UTF-8 that isn't printable ASCII, and isn't too long
abbrev pub is_said : List ℕ → Bool
is_said name = nat_le (length name) longest_said && (is_utf8 name && not (list_all is_shown name))

-- what is attached under names as people write them: those that are said get a plain one beside them
abbrev pub named_in_utf8 : Attached → Attached
named_in_utf8 a = record {
  media = a.media;
  name = option_map (λ name. if is_said name then plain_name name else name) a.name;
  said = option_and_then (λ name. if is_said name then Some name else None) a.name;
  text = a.text;
  base64 = a.base64;
}

-- why something can't be attached, the media type first
abbrev pub attach_refusal : Attached → Option AttachError
attach_refusal a = if is_media a.media then (if option_map_or is_name a.name true then None else Some attach.BadName) else Some attach.BadType

-- an attachment under a name (RFC 2183, 2.3), and the name as people write it, in UTF-8 with percent signs (RFC 2231, 4)
abbrev pub disposition_line : Ending → Option (List ℕ) → Option (List ℕ) → List ℕ
disposition_line eol None said = []
disposition_line eol (Some name) said =
    codes "Content-Disposition: attachment; filename=\"" ++ (name ++ (codes "\"" ++ (option_map_or (λ text. codes "; filename*=utf-8''" ++ percent_encoded text) said [] ++ ending_bytes eol)))

-- the line that says which of the two encodings that are used (RFC 2045, 6.1)
abbrev pub encoding_line : Ending → Bool → List ℕ
encoding_line eol base64 = codes "Content-Transfer-Encoding: " ++ ((if base64 then codes "base64" else codes "quoted-printable") ++ ending_bytes eol)

-- the bytes as they go
abbrev pub encoded : Ending → Attached → List ℕ
encoded eol a = if a.base64 then base64_encoded eol a.text else qp_encoded eol a.text

-- whether a field describes a content or says the MIME version, without regard to ASCII case
abbrev pub is_made_name : List ℕ → Bool
is_made_name name = bytes_eq (lowered name) (lowered (codes "MIME-Version")) || starts_with nat_eq (lowered name) (codes "content-")

-- a field that a built message may begin with: exactly one, which isn't made
abbrev pub is_free_field : List ℕ → Bool
is_free_field text = is_one_field (cut text) && option_map_or (λ l. not (is_made_name (name_of l))) (slice_get (cut text) 0) false

-- a field whose last line has an ending
abbrev pub closed_field : Ending → List ℕ → List ℕ
closed_field eol field = if ends_open field then field ++ ending_bytes eol else field
