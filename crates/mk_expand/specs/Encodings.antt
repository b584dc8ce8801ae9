-- A content in another transfer encoding (own; RFC 2045, 6).
use Rattle.std.specs.Prelude.{◌++◌, if◌then◌else◌, ℕ, Bool, true, nat_lt, Result, Ok, Err, List, [], ◌∷◌, Option, None, Some, codes}
use Rattle.std.specs.List.{list_all}
use Rattle.base64.specs.declared.decode.DecodeError.{DecodeError}
use Rattle.base64.specs.Engines.{standard_no_pad}
use Rattle.base64.specs.GeneralPurpose.{decode_of}
use Rattle.mk_line.specs.declared.cutting.Ending.{Ending}
use Rattle.mk_line.specs.Lines.{ending_bytes}
use Rattle.mk_head.specs.declared.encodings.Encoding.{Encoding}
use Rattle.mk_head.specs.declared.encodings.Encoding.TheVariants.{Identity, Qp, Base64, Other}
use Rattle.mk_code.specs.Base64Text.{base64_encoded, letters}
use Rattle.mk_code.specs.QuotedPrintable.{qp_decoded, qp_encoded}
use Rattle.mk_tree.specs.declared.shapes.Kind.{Kind}
use Rattle.mk_tree.specs.declared.shapes.Kind.TheVariants.{Leaf, Message, Multi}
use Rattle.mk_tree.specs.Forms.{kind_in}
use Rattle.mk_tree.specs.Sections.{Placed, content_text}
use Rattle.mk_decide.specs.Edits.{PlainEdit, SetBody}
use Rattle.mk_view.specs.Listing.{encoding_in}
use Rattle.mk_script.specs.declared.script.ChosenEncoding.{ChosenEncoding}
use Rattle.mk_script.specs.declared.script.ChosenEncoding.TheVariants.{Qp as ToQp, QuotedPrintable, Base64 as ToBase64, EightBit, Identity as ToIdentity}
use Rattle.mk_expand.specs.Contents.{are_eight_bit, body_with}
use Rattle.mk_expand.specs.FieldWords.{put}
use Rattle.mk_expand.specs.Meanings.{Meaning, WordFault, BadBase64, BinaryContent, UnknownEncoding}

-- a number that a byte holds
abbrev pub is_byte : ℕ → Bool
is_byte number = nat_lt number 256

-- what base64 was decoded to
abbrev pub base64_read : Result (List ℕ) DecodeError → Result (List ℕ) WordFault
base64_read (Ok bytes) = if list_all is_byte bytes then Ok bytes else Err BadBase64
base64_read (Err error) = Err BadBase64

-- the bytes that a text in a transfer encoding stands for, where it is known and stands for any
abbrev pub decoded_in : Encoding → List ℕ → Result (List ℕ) WordFault
decoded_in Identity text = Ok text
decoded_in Qp text = Ok (qp_decoded text)
decoded_in Base64 text = base64_read (decode_of standard_no_pad (letters text))
decoded_in Other text = Err UnknownEncoding

-- the value that says a transfer encoding
abbrev pub encoding_value : ChosenEncoding → List ℕ
encoding_value ToQp = codes "quoted-printable"
encoding_value QuotedPrintable = codes "quoted-printable"
encoding_value ToBase64 = codes "base64"
encoding_value EightBit = codes "8bit"
encoding_value ToIdentity = codes "8bit"

-- the field that says it (RFC 2045, 6.1)
abbrev pub encoding_field : Ending → ChosenEncoding → List ℕ
encoding_field eol to = codes "Content-Transfer-Encoding: " ++ (encoding_value to ++ ending_bytes eol)

-- bytes in a transfer encoding that was chosen
abbrev pub encoded_as : ChosenEncoding → Ending → List ℕ → List ℕ
encoded_as ToQp eol bytes = qp_encoded eol bytes
encoded_as QuotedPrintable eol bytes = qp_encoded eol bytes
encoded_as ToBase64 eol bytes = base64_encoded eol bytes
encoded_as EightBit eol bytes = bytes
encoded_as ToIdentity eol bytes = bytes

-- whether bytes may be written in an encoding that was chosen
abbrev pub may_be_encoded : ChosenEncoding → List ℕ → Bool
may_be_encoded ToQp bytes = true
may_be_encoded QuotedPrintable bytes = true
may_be_encoded ToBase64 bytes = true
may_be_encoded EightBit bytes = are_eight_bit bytes
may_be_encoded ToIdentity bytes = are_eight_bit bytes

-- a content in another encoding: first the field that says it is put, and then the body
abbrev pub recoded_to : Ending → List ℕ → ChosenEncoding → Placed → List ℕ → List PlainEdit
recoded_to eol path to p bytes = put path (encoding_field eol to) (Some p) ++ SetBody path (body_with eol p.followed (encoded_as to eol bytes)) ∷ []

-- a content that was decoded, in another encoding, where it may be in that
abbrev pub recoded : Ending → List ℕ → ChosenEncoding → Placed → Result (List ℕ) WordFault → Meaning
recoded eol path to p (Err fault) = Err fault
recoded eol path to p (Ok bytes) = if may_be_encoded to bytes then Ok (recoded_to eol path to p bytes) else Err BinaryContent

-- only a leaf has a content that is encoded
abbrev pub encoding_set_by : Kind → Ending → List ℕ → ChosenEncoding → Placed → Meaning
encoding_set_by Leaf eol path to p = recoded eol path to p (decoded_in (encoding_in p) (content_text p))
encoding_set_by Multi eol path to p = Ok (SetBody path [] ∷ [])
encoding_set_by Message eol path to p = Ok (SetBody path [] ∷ [])

-- `encode`: the content of a leaf in another transfer encoding
abbrev pub encoding_set : Ending → List ℕ → ChosenEncoding → Option Placed → Meaning
encoding_set eol path to None = Ok (SetBody path [] ∷ [])
encoding_set eol path to (Some p) = encoding_set_by (kind_in p.entity) eol path to p
