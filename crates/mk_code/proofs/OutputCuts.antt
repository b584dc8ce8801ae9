-- Encoded text cut into lines, byte by byte.
use Rattle.std.proofs.Common.{◌≡◌, ◌==◌, ◌&&◌, ℕ, Bool, true, false, ◌∷◌, refl, ap, sym, ◌∙◌}
use Rattle.std.proofs.lemmas.Bool.{ne_eqb, and_right}
use Rattle.mk_line.specs.Lines.{TextLine, text_line, with_byte, is_lf, is_nil}

-- a test that holds of one number tells it from those of which it doesn't
pub differs : (p : ℕ → Bool) (b n : ℕ) → p n ≡ false → p b ≡ true → (b == n) ≡ false
differs p b n fails holds = ne_eqb b n (λ e. let bad : true ≡ false = sym holds ∙ ap p e ∙ fails in cc)

-- a byte other than CR joins the content of the line
pub with_other : (byte : ℕ) (l : TextLine) → (byte == 13) ≡ false → with_byte byte l ≡ text_line (byte ∷ l.content) l.ending
with_other byte l h = rw (and_right (is_lf l.ending && is_nil l.content) (byte == 13) h) refl
