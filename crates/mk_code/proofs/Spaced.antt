-- Values with a space before them, and values of which all words are decoded.
use Rattle.std.proofs.Common.{◌≡◌, if◌then◌else◌, ℕ, true, false, List, [], ◌∷◌, refl, ap, ◌∙◌}
use Rattle.std.specs.Str.{is_utf8}
use Rattle.mk_code.specs.declared.one_word.Readable.TheVariants.{All}
use Rattle.mk_code.specs.EncodedWords.{Run, Gap, Word, run_before, runs, shown, text_decoded, unfolded, words_decoded}
use Rattle.mk_code.proofs.WordsKept.{unfold_byte}

space_shown : (rs : List Run) → shown All false (run_before 32 rs) ≡ 32 ∷ shown All false rs
space_shown [] = refl
space_shown (Gap gap ∷ rs) = refl
space_shown (Word word ∷ rs) = refl

-- a space before a value stays before what it says
pub space_decoded : (value : List ℕ) → words_decoded (32 ∷ value) ≡ 32 ∷ words_decoded value
space_decoded value = ap (λ bytes. shown All false (runs bytes)) (unfold_byte 32 value refl refl) ∙ space_shown (runs (unfolded value))

whole : (all some : List ℕ) → is_utf8 all ≡ true → (if is_utf8 all then all else some) ≡ all
whole all some h = rw h refl

-- all words are decoded where that gives UTF-8
pub text_whole : (value : List ℕ) → is_utf8 (words_decoded value) ≡ true → text_decoded value ≡ words_decoded value
text_whole value h = whole (words_decoded value) _ h
