-- Messages that are forwarded: each a part message/rfc822 after the others, which no encoding hides (RFC 2046, 5.2.1; RFC 2045, 6.4).
use Rattle.std.specs.Prelude.{◌++◌, if◌then◌else◌, ℕ, Bool, true, false, not, Option, List, [], codes, drop, nat_eq, nat_le}
use Rattle.std.specs.List.{flat_map, list_all, list_any, position, slice_get, starts_with}
use Rattle.std.specs.Option.{option_map, option_map_or, option_or}
use Rattle.mk_line.specs.declared.cutting.Ending.{Ending}
use Rattle.mk_line.specs.declared.cutting.Ending.TheVariants.{Crlf}
use Rattle.mk_line.specs.Kinds.{is_from_line}
use Rattle.mk_line.specs.Lines.{cut, ending_bytes, ends_in_return, printed_line, text_of}
use Rattle.mk_line.specs.Marks.{close_line, dashed}
use Rattle.mk_build.specs.declared.building.BuildError.{BuildError}
use Rattle.mk_build.specs.declared.building.BuildError.TheVariants as build
use Rattle.mk_build.specs.Building.{Attached, closed_field, is_free_field, is_media, is_name}
use Rattle.mk_build.specs.Multiparts.{Multipart, mixed, multipart_refusal, part_as}

-- a message that is forwarded, and whether its part has no disposition
pub record Forwarded : Type 0 where
  pub text : List ℕ
  pub inline : Bool

-- a text without the line that a mailbox puts before a message, where it is there (own)
abbrev pub without_envelope : List ℕ → List ℕ
without_envelope text = if option_map_or (λ l. is_from_line l.content) (slice_get (cut text) 0) false then text_of (drop 1 (cut text)) else text

-- some byte is 128 or more (RFC 2045, 2.8)
abbrev pub is_8bit : List ℕ → Bool
is_8bit text = list_any (λ byte. nat_le 128 byte) text

-- the line that tells of such bytes, where there are any (RFC 2045, 6.4)
abbrev pub eight_bit_line : Ending → Bool → List ℕ
eight_bit_line eol wide = if wide then codes "Content-Transfer-Encoding: 8bit" ++ ending_bytes eol else []

-- an attachment, where it isn't to be shown inline (RFC 2183, 2.2)
abbrev pub attachment_line : Ending → Bool → List ℕ
attachment_line eol inline = if inline then [] else codes "Content-Disposition: attachment" ++ ending_bytes eol

-- the ending between a message and the next delimiter: CR LF after a CR, with which a line feed would be read as one ending (own)
abbrev pub ending_after : Ending → List ℕ → Ending
ending_after eol text = if ends_in_return text then Crlf else eol

-- its part: the delimiter, the fields, an empty line, the message as it is, and the ending that belongs to the next delimiter
abbrev pub forwarded_part : Ending → List ℕ → Forwarded → List ℕ
forwarded_part eol boundary f =
    codes "--"
    ++ (boundary
    ++ (ending_bytes eol
    ++ (codes "Content-Type: message/rfc822"
    ++ (ending_bytes eol
    ++ (attachment_line eol f.inline ++ (eight_bit_line eol (is_8bit f.text) ++ (ending_bytes eol ++ (f.text ++ ending_bytes (ending_after eol f.text)))))))))

-- no line of a text begins with two hyphens and the boundary, as its delimiter does (RFC 2046, 5.1.1)
abbrev pub is_clear : List ℕ → List ℕ → Bool
is_clear boundary text = list_all (λ l. not (starts_with nat_eq l.content (dashed boundary))) (cut text)

-- why a message can't be built: fields first, then types, then names, then the multipart, then the messages, and of each the first
abbrev pub refusal_with : List (List ℕ) → List Attached → List Forwarded → Multipart → Option BuildError
refusal_with fields parts messages m =
    option_or (option_map build.BadField (position (λ f. not (is_free_field f)) fields))
    (option_or (option_map build.BadType (position (λ a. not (is_media a.media)) parts))
    (option_or (option_map build.BadName (position (λ a. not (option_map_or is_name a.name true)) parts))
    (option_or (multipart_refusal m)
    (option_map build.HoldsBoundary (position (λ f. not (is_clear m.boundary f.text)) messages)))))

-- the lines between the fields and the parts: the version, the type with its subtype and boundary, the line of bytes of 128 or more
-- where a message, and so the multipart, has such (RFC 2045, 6.4), an empty line
abbrev pub head_with : Ending → Bool → Multipart → List ℕ
head_with eol wide m =
    codes "MIME-Version: 1.0"
    ++ (ending_bytes eol
    ++ (codes "Content-Type: multipart/"
    ++ (m.subtype ++ (codes "; boundary=\"" ++ (m.boundary ++ (codes "\"" ++ (ending_bytes eol ++ (eight_bit_line eol wide ++ ending_bytes eol))))))))

-- a message of fields, parts and forwarded messages, as a multipart
abbrev pub built_with : Ending → List (List ℕ) → List Attached → List Forwarded → Multipart → List ℕ
built_with eol fields parts messages m =
    flat_map (closed_field eol) fields
    ++ (head_with eol (list_any (λ f. is_8bit f.text) messages) m
    ++ (flat_map (part_as eol m) parts ++ (flat_map (forwarded_part eol m.boundary) messages ++ printed_line (close_line eol m.boundary))))

-- a message of fields and parts alone, as a multipart/mixed
abbrev pub built : Ending → List (List ℕ) → List Attached → List ℕ → List ℕ
built eol fields parts boundary = built_with eol fields parts [] (mixed boundary)

-- why it can't be built
abbrev pub build_refusal : List (List ℕ) → List Attached → List ℕ → Option BuildError
build_refusal fields parts boundary = refusal_with fields parts [] (mixed boundary)
