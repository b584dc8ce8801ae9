-- Which contents are safe.
use Rattle.std.proofs.Common.{◌≡◌, ◌==◌, ◌&&◌, ◌≤◌, ℕ, Bool, suc, zero, true, false, not, List, [], ◌∷◌, refl, ap, sym, ◌∙◌, length, take, inl, inr}
use Rattle.std.specs.Prelude.{codes}
use Rattle.std.specs.List.{list_all, starts_with}
use Rattle.std.specs.Prelude.{nat_eq}
use Rattle.std.proofs.lemmas.Bool.{cases_Bool, ne_eqb, and_left, and_parts, eq-eqb, not-true}
use Rattle.std.proofs.lemmas.Slice.Eq.{bytes_eq-Decides}
use Rattle.mk_line.specs.Kinds.{is_from_line, is_field_start}
use Rattle.mk_code.specs.OutputLines.{IsSafe, widest}

pub all_taken : (p : ℕ → Bool) (xs : List ℕ) (n : ℕ) → list_all p xs ≡ true → list_all p (take n xs) ≡ true
all_taken p xs zero h = refl
all_taken p [] (suc n) h = refl
all_taken p (x ∷ xs) (suc n) h =
    let both = and_parts (p x) (list_all p xs) h in
    rw both.0 (all_taken p xs n both.1)

-- a content whose bytes all pass a test is no From-line where not all of `From ` do
pub not_from : (p : ℕ → Bool) (content : List ℕ) → list_all p content ≡ true → list_all p (codes "From ") ≡ false → is_from_line content ≡ false
not_from p content h f =
    elim (cases_Bool (starts_with nat_eq content (codes "From "))) [
      | inl t ↦
          let same : codes "From " ≡ take 5 content = (bytes_eq-Decides (codes "From ") (take 5 content)).0 t in
          let bad : true ≡ false = sym (all_taken p content 5 h) ∙ (ap (list_all p) (sym same) ∙ f) in cc
      | inr e ↦ and_left (starts_with nat_eq content (codes "From ")) (not (is_field_start content)) e
    ]

-- the first byte is neither `-` nor `F`
abbrev pub opens_well : List ℕ → Bool
opens_well [] = true
opens_well (byte ∷ bytes) = not (byte == 45) && not (byte == 70)

eqb_swapped : (a b : ℕ) → (a == b) ≡ false → (b == a) ≡ false
eqb_swapped a b h = ne_eqb b a (λ e. let bad : true ≡ false = sym (eq-eqb a b (sym e)) ∙ h in cc)

pub safe_opened : (content : List ℕ) → length content ≤ widest → opens_well content ≡ true → IsSafe content
safe_opened [] l h = record { short = l; no_hyphen = (λ e. cc); no_from = refl }
safe_opened (byte ∷ bytes) l h =
    let both = and_parts (not (byte == 45)) (not (byte == 70)) h in
    record {
      short = l;
      no_hyphen = (λ e. let bad : true ≡ false = sym (eq-eqb byte 45 e) ∙ not-true (byte == 45) both.0 in cc);
      no_from = and_left (starts_with nat_eq (byte ∷ bytes) (codes "From ")) (not (is_field_start (byte ∷ bytes))) (rw (eqb_swapped byte 70 (not-true (byte == 70) both.1)) refl);
    }
