-- Base64 comes back, and its lines are safe.
use Rattle.std.proofs.Common.{◌≡◌, ◌≢◌, ◌==◌, ◌<◌, ◌+◌, ◌*◌, ◌/◌, ◌%◌, ℕ, Bool, suc, zero, true, false, not, List, [], ◌∷◌, ◌++◌, refl, ap, sym, ◌∙◌, length, replicate, arith, slice_index}
use Rattle.std.proofs.lemmas.Bool.{and_parts, agree_below, agree_below_at}
use Rattle.std.proofs.lemmas.List.{append-nil}
use Rattle.std.proofs.lemmas.List.Sums.{take_while-cons}
use Rattle.std.specs.List.{filter, list_all}
use Rattle.base64.specs.Rfc4648.{encode_symbols, padding_len}
use Rattle.std.specs.Prelude.{Ok}
use Rattle.base64.proofs.EngineFacts.{decode_of-encode_of}
use Rattle.base64.specs.GeneralPurpose.{IsBytes, decode_of}
use Rattle.base64.specs.Engines.{standard, standard_no_pad}
use Rattle.mk_line.specs.declared.cutting.Ending.{Ending}
use Rattle.mk_line.specs.declared.cutting.Ending.TheVariants.{Crlf, Lf, Missing}
use Rattle.mk_line.specs.Lines.{ending_bytes}
use Rattle.mk_line.specs.Ascii.{equals_sign}
use Rattle.mk_code.specs.Base64Text.{letters, lined, IsBase64Of, base64_encoded, is_letter}
use Rattle.mk_code.proofs.OutputCuts.{differs}

-- a test that each symbol passes, the symbols of any bytes pass
symbol_passes : (p : ℕ → Bool) (i : ℕ) → agree_below (λ k. p (slice_index standard.encode_table k)) (λ _. true) 64 ≡ true → i < 64 → p (slice_index standard.encode_table i) ≡ true
symbol_passes p i h l = agree_below_at (λ k. p (slice_index standard.encode_table k)) (λ _. true) 64 i h l

pub symbols_pass : (p : ℕ → Bool) (bytes : List ℕ) → agree_below (λ k. p (slice_index standard.encode_table k)) (λ _. true) 64 ≡ true → IsBytes bytes → list_all p (encode_symbols standard.encode_table bytes) ≡ true
unfolding encode_symbols
symbols_pass p [] h small = refl
symbols_pass p (a ∷ []) h small =
    let first : a < 256 = small 0 in
    rw (symbol_passes p (a / 4) h (omega arith), symbol_passes p (a % 4 * 16) h (omega arith)) refl
symbols_pass p (a ∷ b ∷ []) h small =
    let first : a < 256 = small 0 in
    let second : b < 256 = small 1 in
    rw (symbol_passes p (a / 4) h (omega arith), symbol_passes p (a % 4 * 16 + b / 16) h (omega arith), symbol_passes p (b % 16 * 4) h (omega arith)) refl
symbols_pass p (a ∷ b ∷ c ∷ rest) h small =
    let first : a < 256 = small 0 in
    let second : b < 256 = small 1 in
    let third : c < 256 = small 2 in
    rw (symbol_passes p (a / 4) h (omega arith), symbol_passes p (a % 4 * 16 + b / 16) h (omega arith), symbol_passes p (b % 16 * 4 + c / 64) h (omega arith), symbol_passes p (c % 64) h (omega arith))
    (symbols_pass p rest h (λ i. small (suc (suc (suc i)))))

-- letters of a text, one byte at a time
pub letters_equals : (bytes : List ℕ) → letters (61 ∷ bytes) ≡ []
letters_equals bytes = ap (filter is_letter) (take_while-cons (λ byte. not (byte == equals_sign)) 61 bytes)

pub letters_letter : (byte : ℕ) (bytes : List ℕ) → is_letter byte ≡ true → letters (byte ∷ bytes) ≡ byte ∷ letters bytes
letters_letter byte bytes h =
    rw (take_while-cons (λ b. not (b == equals_sign)) byte bytes, differs is_letter byte 61 refl h, h) refl

pub letters_other : (byte : ℕ) (bytes : List ℕ) → is_letter byte ≡ false → (byte == 61) ≡ false → letters (byte ∷ bytes) ≡ letters bytes
letters_other byte bytes h e = rw (take_while-cons (λ b. not (b == equals_sign)) byte bytes, e, h) refl

letters_after : (eol : Ending) (bytes : List ℕ) → letters (ending_bytes eol ++ bytes) ≡ letters bytes
letters_after Crlf bytes = letters_other 13 (10 ∷ bytes) refl refl ∙ letters_other 10 bytes refl refl
letters_after Lf bytes = letters_other 10 bytes refl refl
letters_after Missing bytes = refl

-- the letters of lines are the letters
padding_lined : (eol : Ending) (left n : ℕ) → letters (lined (ending_bytes eol) left (replicate n 61)) ≡ []
unfolding lined
padding_lined eol left zero = refl
padding_lined eol zero (suc n) = letters_after eol (61 ∷ lined (ending_bytes eol) 75 (replicate n 61)) ∙ letters_equals (lined (ending_bytes eol) 75 (replicate n 61))
padding_lined eol (suc left) (suc n) = letters_equals (lined (ending_bytes eol) left (replicate n 61))

letters_lined : (eol : Ending) (xs : List ℕ) (left n : ℕ) → list_all is_letter xs ≡ true → letters (lined (ending_bytes eol) left (xs ++ replicate n 61)) ≡ xs
unfolding lined
letters_lined eol [] left n h = padding_lined eol left n
letters_lined eol (x ∷ xs) zero n h =
    let both = and_parts (is_letter x) (list_all is_letter xs) h in
    letters_after eol (x ∷ lined (ending_bytes eol) 75 (xs ++ replicate n 61))
    ∙ (letters_letter x (lined (ending_bytes eol) 75 (xs ++ replicate n 61)) both.0 ∙ ap (λ ys. x ∷ ys) (letters_lined eol xs 75 n both.1))
letters_lined eol (x ∷ xs) (suc left) n h =
    let both = and_parts (is_letter x) (list_all is_letter xs) h in
    letters_letter x (lined (ending_bytes eol) left (xs ++ replicate n 61)) both.0 ∙ ap (λ ys. x ∷ ys) (letters_lined eol xs left n both.1)

-- text has no more than one content
pub content_only : (text a b : List ℕ) → IsBase64Of text a → IsBase64Of text b → a ≡ b
content_only text a b h k =
    let same : Ok a ≡ Ok b =
    sym (decode_of-encode_of standard_no_pad a refl h.0) ∙ (ap (decode_of standard_no_pad) (sym h.1 ∙ k.1) ∙ decode_of-encode_of standard_no_pad b refl k.0) in cc

pub base64_back : (eol : Ending) (bytes : List ℕ) → eol ≢ Missing → IsBytes bytes → IsBase64Of (base64_encoded eol bytes) bytes
base64_back eol bytes is small = (
  small,
  letters_lined eol (encode_symbols standard.encode_table bytes) 76 (padding_len (length bytes)) (symbols_pass is_letter bytes refl small)
      ∙ sym (append-nil (encode_symbols standard.encode_table bytes)),
)
