-- What base64 is read as is what it is the encoding of.
use Rattle.std.proofs.Common.{◌≡◌, ◌==◌, ◌↔◌, ℕ, zero, suc, true, not, nat_lt, Result, Ok, Err, List, [], ◌∷◌, refl, ap, sym, ◌∙◌, subst, take_while, arith, inl, inr}
use Rattle.std.proofs.lemmas.Bool.{and_parts, cases_Bool, lt-ltb, ltb-true}
use Rattle.std.specs.List.{list_all}
use Rattle.base64.specs.declared.decode.DecodeError.{DecodeError}
use Rattle.base64.specs.Engines.{standard_no_pad}
use Rattle.base64.specs.GeneralPurpose.{IsBytes, decode_of}
use Rattle.base64.proofs.EngineFacts.{decode_of-encode_of, decode_of_strict}
use Rattle.mk_line.specs.Ascii.{equals_sign}
use Rattle.mk_head.specs.declared.encodings.Encoding.{Encoding}
use Rattle.mk_head.specs.declared.encodings.Encoding.TheVariants.{Identity, Qp, Base64, Other}
use Rattle.mk_code.specs.Base64Text.{IsBase64Of, letters}
use Rattle.mk_code.specs.Contents.{IsContent}
use Rattle.mk_code.proofs.Base64Words.{letters_are_bytes}
use Rattle.mk_expand.specs.Encodings.{base64_read, decoded_in, is_byte}
use Rattle.mk_expand.specs.Meanings.{BadBase64, UnknownEncoding, WordFault}
use Rattle.mk_code.specs.QuotedPrintable.{qp_decoded}

all_bytes : (bytes : List ℕ) → IsBytes bytes → list_all is_byte bytes ≡ true
all_bytes [] h = refl
all_bytes (x ∷ xs) h = let first : nat_lt x 256 ≡ true = lt-ltb x 256 (h 0) in rw first (all_bytes xs (λ i. h (suc i)))

are_bytes : (bytes : List ℕ) → list_all is_byte bytes ≡ true → IsBytes bytes
are_bytes [] h i = omega arith
are_bytes (x ∷ xs) h zero = ltb-true x 256 (and_parts (is_byte x) (list_all is_byte xs) h).0
are_bytes (x ∷ xs) h (suc i) = are_bytes xs (and_parts (is_byte x) (list_all is_byte xs) h).1 i

-- the content that the letters are the encoding of is read
pub base64_is_read : (text bytes : List ℕ) → IsBase64Of text bytes → decoded_in Base64 text ≡ Ok bytes
base64_is_read text bytes h =
    let whole = all_bytes bytes h.0 in
    ap base64_read (ap (decode_of standard_no_pad) h.1 ∙ decode_of-encode_of standard_no_pad bytes refl h.0) ∙ rw whole refl

refused_by : (text : List ℕ) (o : Result (List ℕ) DecodeError) → decode_of standard_no_pad (letters text) ≡ o → ((bytes : List ℕ) → IsBase64Of text bytes → ⊥) → base64_read o ≡ Err BadBase64
refused_by text (Err error) d h = refl
refused_by text (Ok bytes) d h = elim (cases_Bool (list_all is_byte bytes)) [
  | inl whole ↦ absurd (h bytes (are_bytes bytes whole, decode_of_strict standard_no_pad (letters text) bytes (refl, refl) (letters_are_bytes (take_while (λ byte. not (byte == equals_sign)) text)) d))
  | inr odd ↦ rw odd refl
]

-- where they are none, that is the fault
pub base64_is_refused : (text : List ℕ) → ((bytes : List ℕ) → IsBase64Of text bytes → ⊥) → decoded_in Base64 text ≡ Err BadBase64
base64_is_refused text h = refused_by text (decode_of standard_no_pad (letters text)) refl h

-- what is a content of a text is read
pub content_is_read : (encoding : Encoding) (text bytes : List ℕ) → IsContent encoding text bytes → decoded_in encoding text ≡ Ok bytes
content_is_read Identity text bytes h = ap Ok (sym h)
content_is_read Qp text bytes h = ap Ok (sym h)
content_is_read Base64 text bytes h = base64_is_read text bytes h
content_is_read Other text bytes h = absurd h

fault_is_none : {A : Type 0} (bytes : List ℕ) → ◌≡◌ {A = Result (List ℕ) WordFault} (Err BadBase64) (Ok bytes) → A
fault_is_none bytes h = cc

read_by : (text bytes : List ℕ) (o : Result (List ℕ) DecodeError) → decode_of standard_no_pad (letters text) ≡ o → base64_read o ≡ Ok bytes → IsBase64Of text bytes
read_by text bytes (Err error) d h = fault_is_none bytes h
read_by text bytes (Ok read) d h = elim (cases_Bool (list_all is_byte read)) [
  | inl whole ↦
      let same : read ≡ bytes = (let is : ◌≡◌ {A = Result (List ℕ) WordFault} (Ok read) (Ok bytes) = rw whole at h in cc) in
      subst (IsBase64Of text) same (are_bytes read whole, decode_of_strict standard_no_pad (letters text) read (refl, refl) (letters_are_bytes (take_while (λ byte. not (byte == equals_sign)) text)) d)
  | inr odd ↦ fault_is_none bytes (rw odd at h)
]

ok_same : (xs ys : List ℕ) → ◌≡◌ {A = Result (List ℕ) WordFault} (Ok xs) (Ok ys) → xs ≡ ys
ok_same xs ys h = cc

unknown_is_none : {A : Type 0} (bytes : List ℕ) → ◌≡◌ {A = Result (List ℕ) WordFault} (Err UnknownEncoding) (Ok bytes) → A
unknown_is_none bytes h = cc

read_is_content : (encoding : Encoding) (text bytes : List ℕ) → decoded_in encoding text ≡ Ok bytes → IsContent encoding text bytes
read_is_content Identity text bytes h = sym (ok_same text bytes h)
read_is_content Qp text bytes h = sym (ok_same (qp_decoded text) bytes h)
read_is_content Base64 text bytes h = read_by text bytes (decode_of standard_no_pad (letters text)) refl h
read_is_content Other text bytes h = unknown_is_none bytes h

-- just the content of a text is read
pub contents_are_decoded : (encoding : Encoding) (text bytes : List ℕ) → (decoded_in encoding text ≡ Ok bytes) ↔ IsContent encoding text bytes
contents_are_decoded encoding text bytes = (read_is_content encoding text bytes, content_is_read encoding text bytes)
