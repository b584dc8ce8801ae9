-- Quoted strings, byte by byte.
use Rattle.std.proofs.Common.{◌≡◌, ◌==◌, ◌<◌, ◌+◌, ℕ, Bool, true, false, List, ◌∷◌, refl, ap, sym, ◌∙◌, inl, inr, length, drop, get_or}
use Rattle.std.proofs.lemmas.List.{drop_more}
use Rattle.std.proofs.lemmas.Bool.{cases_Bool, eq-eqb, eqb-true}
use Rattle.mk_line.specs.Ascii.{backslash, quote}
use Rattle.mk_wording.specs.Parameters.{ends_quoted}

on : (text : List ℕ) (place : ℕ) (e n : Bool) → ends_quoted e (drop place text) ≡ ends_quoted n (drop (place + 1) text) → (f m : Bool) → f ≡ e → m ≡ n → ends_quoted f (drop place text) ≡ ends_quoted false text
    → ends_quoted m (drop (place + 1) text) ≡ ends_quoted false text
on text place e n s f m x y h =
    ap (λ t. ends_quoted t (drop (place + 1) text)) y ∙ (sym s ∙ (ap (λ t. ends_quoted t (drop place text)) (sym x) ∙ h))

-- a byte that is escaped
pub after_escaped : (text : List ℕ) (place : ℕ) (f m : Bool) → place < length text → f ≡ true → m ≡ false → ends_quoted f (drop place text) ≡ ends_quoted false text → ends_quoted m (drop (place + 1) text) ≡ ends_quoted false text
after_escaped text place f m l x y h = on text place true false (ap (ends_quoted true) (drop_more text place 0 l)) f m x y h

backslash_step : (b : ℕ) (rest : List ℕ) → b ≡ backslash → ends_quoted false (b ∷ rest) ≡ ends_quoted true rest
backslash_step b rest h = rw (eq-eqb b backslash h) refl

-- a backslash
pub after_backslash : (text : List ℕ) (place : ℕ) (f m : Bool) → place < length text → f ≡ false → get_or text place 0 ≡ backslash → m ≡ true → ends_quoted f (drop place text) ≡ ends_quoted false text
    → ends_quoted m (drop (place + 1) text) ≡ ends_quoted false text
after_backslash text place f m l x b y h =
    on text place false true (ap (ends_quoted false) (drop_more text place 0 l) ∙ backslash_step (get_or text place 0) (drop (place + 1) text) b) f m x y h

no_same : (b c : ℕ) → (b ≡ c → ⊥) → (b == c) ≡ false
no_same b c h = elim (cases_Bool (b == c)) [ inl t ↦ absurd (h (eqb-true b c t)) | inr f ↦ f ]

other_step : (b : ℕ) (rest : List ℕ) → (b ≡ backslash → ⊥) → (b ≡ quote → ⊥) → ends_quoted false (b ∷ rest) ≡ ends_quoted false rest
other_step b rest h q = rw (no_same b backslash h, no_same b quote q) refl

-- another byte
pub after_other : (text : List ℕ) (place : ℕ) (f m : Bool) → place < length text → f ≡ false → (get_or text place 0 ≡ backslash → ⊥) → (get_or text place 0 ≡ quote → ⊥) → m ≡ false
    → ends_quoted f (drop place text) ≡ ends_quoted false text → ends_quoted m (drop (place + 1) text) ≡ ends_quoted false text
after_other text place f m l x b q y h =
    on text place false false (ap (ends_quoted false) (drop_more text place 0 l) ∙ other_step (get_or text place 0) (drop (place + 1) text) b q) f m x y h
