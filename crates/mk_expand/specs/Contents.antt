-- Bytes as the content of a leaf: in its transfer encoding, and apart from the line after it (own; RFC 2045, 6; RFC 2046, 5.1.1).
use Rattle.std.specs.Prelude.{◌==◌, ◌&&◌, ◌++◌, if◌then◌else◌, ℕ, Bool, not, nat_le, length, Option, None, Some, List}
use Rattle.std.specs.List.{list_all}
use Rattle.mk_line.specs.declared.cutting.Ending.{Ending}
use Rattle.mk_line.specs.declared.cutting.Ending.TheVariants.{Crlf}
use Rattle.mk_line.specs.Lines.{cut, ending_bytes, ends_in_return}
use Rattle.mk_head.specs.declared.encodings.Encoding.{Encoding}
use Rattle.mk_head.specs.declared.encodings.Encoding.TheVariants.{Identity, Qp, Base64, Other}
use Rattle.mk_code.specs.Base64Text.{base64_encoded}
use Rattle.mk_code.specs.QuotedPrintable.{qp_encoded}

-- bytes in a transfer encoding; there is none that is unknown
abbrev pub encoded_in : Encoding → Ending → List ℕ → Option (List ℕ)
encoded_in Identity eol bytes = Some bytes
encoded_in Qp eol bytes = Some (qp_encoded eol bytes)
encoded_in Base64 eol bytes = Some (base64_encoded eol bytes)
encoded_in Other eol bytes = None

-- a text with the ending between it and a line after it: CR LF after a CR, of which LF alone would make an ending
abbrev pub divided : Ending → List ℕ → List ℕ
divided eol text = text ++ ending_bytes (if ends_in_return text then Crlf else eol)

-- a body whose content is a text: where a line follows, the ending before it isn't content (RFC 2046, 5.1.1)
abbrev pub body_with : Ending → Bool → List ℕ → List ℕ
body_with eol followed text = if followed then divided eol text else text

-- the most bytes of a line that stands unencoded, without its ending (RFC 2045, 2.8)
abbrev pub longest_line : ℕ
longest_line = 998

-- bytes that may stand unencoded: no NUL, and no line that is too long (RFC 2045, 2.8)
abbrev pub are_eight_bit : List ℕ → Bool
are_eight_bit bytes = list_all (λ byte. not (byte == 0)) bytes && list_all (λ l. nat_le (length l.content) longest_line) (cut bytes)
