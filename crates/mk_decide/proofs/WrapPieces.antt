-- The bytes of a section, apart, and the walk that asks for levels.
use Rattle.std.proofs.Common.{◌≡◌, ◌==◌, ◌||◌, ◌+◌, ◌-◌, ◌≤◌, ◌++◌, if◌then◌else◌, ℕ, Bool, false, List, [], ◌∷◌, refl, ap, ◌∙◌, length, take, drop, arith, length-append, inl, inr}
use Rattle.std.proofs.lemmas.Bool.{cases_Bool, eqb-true}
use Rattle.std.proofs.Math.Seq.{take-append_seam, drop-append_seam}
use Rattle.mk_line.specs.Lines.{text_of}
use Rattle.mk_line.proofs.Cuts.{text_append}
use Rattle.mk_head.specs.Split.{head_lines}
use Rattle.std.specs.Option.{option_to_list}
use Rattle.mk_tree.specs.Tree.{Entity, leaf, message, multi, Parts, no_parts, part, print, entity_head, field_lines}
use Rattle.mk_tree.specs.Sections.{Placed, parts_placed, children_of, raw_of, head_text, body_text, body_lines}
use Rattle.mk_tree.proofs.TreeNames.{has_tail}
use Rattle.mk_tree.specs.Spans.{size, digest_below}
use Rattle.mk_tree.proofs.HeadChanged.{after_fields, entity_lines}
use Rattle.mk_decide.specs.WrapAnswers.{is_leaf, separator_text, fits_levels, fit_levels, all_fit}

-- head, separator, body
pub raw_apart : (p : Placed) → raw_of p ≡ head_text p ++ (separator_text p ++ body_text p)
raw_apart p =
    ap text_of (entity_lines p.entity)
    ∙ (text_append (field_lines p.entity) (after_fields p.entity) ∙ ap (λ t. head_text p ++ t) (text_append (option_to_list (entity_head p.entity).separator) (body_lines p.entity)))

pub front_apart : (whole front rest : List ℕ) (n : ℕ) → whole ≡ front ++ rest → n ≡ length front → take n whole ≡ front
front_apart whole front rest n e h = ap (take n) e ∙ (ap (λ k. take k (front ++ rest)) h ∙ take-append_seam front rest)

pub rest_apart : (whole front rest : List ℕ) (n : ℕ) → whole ≡ front ++ rest → n ≡ length front → drop n whole ≡ rest
rest_apart whole front rest n e h = ap (drop n) e ∙ (ap (λ k. drop k (front ++ rest)) h ∙ drop-append_seam front rest)

pub front_size : (whole front rest : List ℕ) (n : ℕ) → whole ≡ front ++ rest → n ≡ length rest → length whole - n ≡ length front
front_size whole front rest n e h = omega (arith, ap length e, h, length-append front rest)

pub rest_within : (whole front rest : List ℕ) (n : ℕ) → whole ≡ front ++ rest → n ≡ length rest → n ≤ length whole
rest_within whole front rest n e h = omega (arith, ap length e, h, length-append front rest)

pub front_within : (whole front rest : List ℕ) (n : ℕ) → whole ≡ front ++ rest → n ≡ length front → n ≤ length whole
front_within whole front rest n e h = omega (arith, ap length e, h, length-append front rest)

-- the levels of what stands directly below
fit_parts : (left place : ℕ) (followed digest : Bool) (ps : Parts) → fit_levels left ps ≡ all_fit left (parts_placed place followed digest ps)
fit_parts left place followed digest no_parts = refl
fit_parts left place followed digest (part l e ps) = ap (λ t. if fits_levels left e then t else false) (fit_parts left (place + size (l ∷ []) + size (print e)) followed digest ps)

pub not_zero : (n : ℕ) → (n ≡ 0 → ⊥) → (n == 0) ≡ false
not_zero n h =
    elim (cases_Bool (n == 0)) [
      | inl e ↦ absurd (h (eqb-true n 0 e))
      | inr e ↦ e
    ]

fit_below : (left : ℕ) (p : Placed) (e : Entity) → is_leaf e ≡ false → (left == 0) ≡ false → fits_levels left e ≡ all_fit (left - 1) (children_of p e)
fit_below left p (leaf h ls) k n = cc
fit_below left p (message h e) k n = rw n refl
fit_below left p (multi h b pre ps t) k n = rw n (fit_parts (left - 1) (p.start + size (head_lines h) + size pre) (has_tail t || p.followed) (digest_below p.digest h) ps)

pub fit_children : (left : ℕ) (p : Placed) (e : Entity) → is_leaf e ≡ false → (left ≡ 0 → ⊥) → fits_levels left e ≡ all_fit (left - 1) (children_of p e)
fit_children left p e k n = fit_below left p e k (not_zero left n)
