-- The lines of base64 are safe.
use Rattle.std.proofs.Common.{◌≡◌, ◌≢◌, ◌==◌, ◌||◌, ◌≤◌, ℕ, Bool, suc, zero, true, false, List, [], ◌∷◌, ◌++◌, refl, ap, sym, ◌∙◌, length, replicate, arith}
use Rattle.std.proofs.lemmas.Bool.{and_parts}
use Rattle.std.specs.List.{list_all}
use Rattle.base64.specs.Rfc4648.{encode_symbols, padding_len}
use Rattle.base64.specs.GeneralPurpose.{IsBytes, encode_of}
use Rattle.base64.specs.Engines.{standard}
use Rattle.mk_line.specs.declared.cutting.Ending.{Ending}
use Rattle.mk_line.specs.declared.cutting.Ending.TheVariants.{Crlf, Lf, Missing}
use Rattle.mk_line.specs.Lines.{TextLine, ending_bytes, cut, onto_first}
use Rattle.mk_line.proofs.Cuts.{cut_other}
use Rattle.mk_code.specs.OutputLines.{IsSafe, AreSafe, widest}
use Rattle.mk_code.specs.Base64Text.{lined, base64_encoded, is_letter}
use Rattle.mk_code.proofs.OutputCuts.{differs, with_other}
use Rattle.mk_code.proofs.SafeLines.{not_from}
use Rattle.mk_code.proofs.Base64Laws.{symbols_pass}

-- a character of encoded bytes
abbrev is_character : ℕ → Bool
is_character byte = is_letter byte || byte == 61

-- lines of characters, of which the first has so many at most
abbrev Narrow : ℕ → List TextLine → Type 0
Narrow left [] = Unit {0}
Narrow left (l ∷ ls) = (length l.content ≤ left) × (list_all is_character l.content ≡ true) × AreSafe ls

safe_characters : (content : List ℕ) → length content ≤ widest → list_all is_character content ≡ true → IsSafe content
safe_characters [] l h = record { short = l; no_hyphen = (λ e. cc); no_from = refl }
safe_characters (byte ∷ bytes) l h =
    let both = and_parts (is_character byte) (list_all is_character bytes) h in
    record {
      short = l;
      no_hyphen = (λ e. let bad : true ≡ false = sym both.0 ∙ ap is_character e in cc);
      no_from = not_from is_character (byte ∷ bytes) h refl;
    }

narrow_safe : (left : ℕ) (ls : List TextLine) → left ≤ widest → Narrow left ls → AreSafe ls
narrow_safe left [] l h = tt
narrow_safe left (line ∷ ls) l h = (safe_characters line.content (omega (arith, h.0)) h.1, h.2)

narrow_onto : (left byte : ℕ) (ls : List TextLine) → is_character byte ≡ true → Narrow left ls → Narrow (suc left) (onto_first byte ls)
narrow_onto left byte [] c h = (omega arith, rw c refl, tt)
narrow_onto left byte (l ∷ ls) c h = rw (with_other byte l (differs is_character byte 13 refl c)) (omega (arith, h.0), rw c h.1, h.2)

narrow_byte : (left byte : ℕ) (text : List ℕ) → is_character byte ≡ true → Narrow left (cut text) → Narrow (suc left) (cut (byte ∷ text))
narrow_byte left byte text c h = rw (cut_other byte text (differs is_character byte 10 refl c)) (narrow_onto left byte (cut text) c h)

narrow_ended : (eol : Ending) (text : List ℕ) → eol ≢ Missing → AreSafe (cut text) → Narrow 0 (cut (ending_bytes eol ++ text))
narrow_ended Crlf text is h = (omega arith, refl, h)
narrow_ended Lf text is h = (omega arith, refl, h)
narrow_ended Missing text is h = absurd (is refl)

narrow_lined : (eol : Ending) (text : List ℕ) (left : ℕ) → eol ≢ Missing → list_all is_character text ≡ true → Narrow left (cut (lined (ending_bytes eol) left text))
unfolding lined
narrow_lined eol [] left is h = tt
narrow_lined eol (byte ∷ bytes) zero is h =
    let both = and_parts (is_character byte) (list_all is_character bytes) h in
    narrow_ended eol (byte ∷ lined (ending_bytes eol) 75 bytes) is
    (narrow_safe 76 (cut (byte ∷ lined (ending_bytes eol) 75 bytes)) (omega arith) (narrow_byte 75 byte (lined (ending_bytes eol) 75 bytes) both.0 (narrow_lined eol bytes 75 is both.1)))
narrow_lined eol (byte ∷ bytes) (suc left) is h =
    let both = and_parts (is_character byte) (list_all is_character bytes) h in
    narrow_byte left byte (lined (ending_bytes eol) left bytes) both.0 (narrow_lined eol bytes left is both.1)

padding_characters : (n : ℕ) → list_all is_character (replicate n 61) ≡ true
padding_characters zero = refl
padding_characters (suc n) = padding_characters n

padded_characters : (xs : List ℕ) (n : ℕ) → list_all is_character xs ≡ true → list_all is_character (xs ++ replicate n 61) ≡ true
padded_characters [] n h = padding_characters n
padded_characters (x ∷ xs) n h =
    let both = and_parts (is_character x) (list_all is_character xs) h in
    rw both.0 (padded_characters xs n both.1)

pub base64_safe : (eol : Ending) (bytes : List ℕ) → eol ≢ Missing → IsBytes bytes → AreSafe (cut (base64_encoded eol bytes))
base64_safe eol bytes is small =
    narrow_safe 76 (cut (base64_encoded eol bytes)) (omega arith)
    (narrow_lined eol (encode_of standard bytes) 76 is (padded_characters (encode_symbols standard.encode_table bytes) (padding_len (length bytes)) (symbols_pass is_character bytes refl small)))
