-- Encoded texts in lines that end in LF hold no carriage return.
use Rattle.std.proofs.Common.{◌≡◌, ◌==◌, ◌&&◌, ◌+◌, ◌/◌, ◌%◌, ◌++◌, if◌then◌else◌, ℕ, zero, suc, Bool, true, false, not, List, [], ◌∷◌, refl, ap, ◌∙◌, length, replicate, nat_le, nat_lt, arith, inl, inr}
use Rattle.std.proofs.lemmas.Bool.{and_parts, cases_Bool, ne_eqb}
use Rattle.std.proofs.lemmas.List.Folds.{list_all-append}
use Rattle.std.specs.List.{flat_map, list_all, join_by}
use Rattle.base64.specs.Rfc4648.{encode_symbols, padding_len}
use Rattle.base64.specs.GeneralPurpose.{IsBytes, encode_of}
use Rattle.base64.specs.Engines.{standard}
use Rattle.mk_line.specs.declared.cutting.Ending.TheVariants.{Lf}
use Rattle.mk_line.specs.Lines.{is_nil}
use Rattle.mk_code.specs.Base64Text.{lined, base64_encoded}
use Rattle.mk_code.specs.QuotedPrintable.{hex_digit, escaped, is_quiet, is_plain, form, limit, packed, logical_lines, qp_encoded}
use Rattle.mk_code.proofs.Base64Laws.{symbols_pass}
use Rattle.mk_code.proofs.QpBack.{plain_quiet}
use Rattle.mk_code.proofs.OutputCuts.{differs}

-- no carriage return
abbrev pub is_other : ℕ → Bool
is_other byte = not (byte == 13)

all_both : (a b : Bool) → a ≡ true → b ≡ true → (a && b) ≡ true
all_both a b h k = rw (h, k) refl

-- of texts one after another
pub others_joined : (xs ys : List ℕ) → list_all is_other xs ≡ true → list_all is_other ys ≡ true → list_all is_other (xs ++ ys) ≡ true
others_joined xs ys h k = list_all-append is_other xs ys ∙ all_both (list_all is_other xs) (list_all is_other ys) h k

pub other_by : (f : ℕ → Bool) (byte : ℕ) → f byte ≡ true → f 13 ≡ false → is_other byte ≡ true
other_by f byte h k = ap not (differs f byte 13 k h)

-- base64
others_lined : (eol : List ℕ) (left : ℕ) (xs : List ℕ) → list_all is_other eol ≡ true → list_all is_other xs ≡ true → list_all is_other (lined eol left xs) ≡ true
unfolding lined
others_lined eol left [] e h = refl
others_lined eol zero (byte ∷ bytes) e h =
    let p = and_parts (is_other byte) (list_all is_other bytes) h in
    others_joined eol (byte ∷ lined eol 75 bytes) e (all_both (is_other byte) (list_all is_other (lined eol 75 bytes)) p.0 (others_lined eol 75 bytes e p.1))
others_lined eol (suc left) (byte ∷ bytes) e h =
    let p = and_parts (is_other byte) (list_all is_other bytes) h in
    all_both (is_other byte) (list_all is_other (lined eol left bytes)) p.0 (others_lined eol left bytes e p.1)

padding_others : (n : ℕ) → list_all is_other (replicate n 61) ≡ true
padding_others zero = refl
padding_others (suc n) = padding_others n

pub base64_others : (bytes : List ℕ) → IsBytes bytes → list_all is_other (base64_encoded Lf bytes) ≡ true
base64_others bytes small =
    others_lined (10 ∷ []) 76 (encode_of standard bytes) refl
    (others_joined (encode_symbols standard.encode_table bytes) (replicate (padding_len (length bytes)) 61) (symbols_pass is_other bytes refl small) (padding_others (padding_len (length bytes))))

-- quoted-printable
digit_by : (t : Bool) (value : ℕ) → is_other (if t then 48 + value else 55 + value) ≡ true
digit_by true value = ap not (ne_eqb (48 + value) 13 (λ e. absurd (omega (arith, e))))
digit_by false value = ap not (ne_eqb (55 + value) 13 (λ e. absurd (omega (arith, e))))

others_escaped : (byte : ℕ) → list_all is_other (escaped byte) ≡ true
others_escaped byte = all_both (is_other (hex_digit (byte / 16))) (list_all is_other (hex_digit (byte % 16) ∷ [])) (digit_by (nat_lt (byte / 16) 10) (byte / 16)) (all_both (is_other (hex_digit (byte % 16))) true (digit_by (nat_lt (byte % 16) 10) (byte % 16)) refl)

others_by : (t : Bool) (byte : ℕ) → (t ≡ true → is_other byte ≡ true) → list_all is_other (if t then byte ∷ [] else escaped byte) ≡ true
others_by true byte h = all_both (is_other byte) true (h refl) refl
others_by false byte h = others_escaped byte

others_form : (column byte : ℕ) (more : List ℕ) → list_all is_other (form column byte more) ≡ true
others_form column byte more =
    others_by (is_plain (column == 0) (is_nil more) byte) byte (λ h. other_by is_quiet byte (plain_quiet (column == 0) (is_nil more) byte h) refl)

others_packed : (eol : List ℕ) (column : ℕ) (bytes : List ℕ) → list_all is_other eol ≡ true → list_all is_other (packed eol column bytes) ≡ true
others_packed eol column [] e = refl
others_packed eol column (byte ∷ more) e =
    elim (cases_Bool (nat_le (column + length (form column byte more)) (limit more))) [
      | inl fits ↦ rw fits (others_joined (form column byte more) (packed eol (column + length (form column byte more)) more) (others_form column byte more) (others_packed eol (column + length (form column byte more)) more e))
      | inr full ↦
          rw full (others_joined eol (form 0 byte more ++ packed eol (length (form 0 byte more)) more) e
          (others_joined (form 0 byte more) (packed eol (length (form 0 byte more)) more) (others_form 0 byte more) (others_packed eol (length (form 0 byte more)) more e)))
    ]

others_after : (eol : List ℕ) (lines : List (List ℕ)) → list_all is_other eol ≡ true → list_all is_other (flat_map (λ line. eol ++ packed eol 0 line) lines) ≡ true
others_after eol [] e = refl
others_after eol (line ∷ lines) e =
    others_joined (eol ++ packed eol 0 line) (flat_map (λ other. eol ++ packed eol 0 other) lines)
    (others_joined eol (packed eol 0 line) e (others_packed eol 0 line e))
    (others_after eol lines e)

others_lines : (eol : List ℕ) (lines : List (List ℕ)) → list_all is_other eol ≡ true → list_all is_other (join_by (packed eol 0) eol lines) ≡ true
others_lines eol [] e = refl
others_lines eol (line ∷ lines) e =
    others_joined (packed eol 0 line) (flat_map (λ other. eol ++ packed eol 0 other) lines) (others_packed eol 0 line e) (others_after eol lines e)

pub qp_others : (bytes : List ℕ) → list_all is_other (qp_encoded Lf bytes) ≡ true
qp_others bytes = others_lines (10 ∷ []) (logical_lines Lf bytes) refl
