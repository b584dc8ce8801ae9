-- Lines that begin with no two hyphens are passed over: none of them is a mark.
use Rattle.std.proofs.Common.{◌≡◌, ◌==◌, ◌&&◌, ◌<◌, ◌≤◌, ◌+◌, ◌-◌, ℕ, suc, zero, Bool, true, false, List, [], ◌∷◌, ◌++◌, refl, ap, sym, ◌∙◌, length, take, drop, slice_index, arith, inl, inr, None, Some, add-one, add-zero, nat_eq, append_assoc}
use Rattle.std.specs.List.{starts_with}
use Rattle.std.proofs.lemmas.Bool.{cases_Bool, and_parts, eqb-true}
use Rattle.std.proofs.lemmas.Bool.Decides.{eqb_tells}
use Rattle.std.proofs.Math.Seq.{drop-length}
use Rattle.std.proofs.lemmas.List.{take_rest}
use Rattle.memchr.specs.Find.{FindsNeedle, OccursAt}
use Rattle.mk_line.specs.Lines.{TextLine, text_of, ending_bytes, onto_first, cut}
use Rattle.mk_line.proofs.Cuts.{text_cut}
use Rattle.mk_tree.specs.Upto.{upto, beyond}
use Rattle.std.specs.Borrow.{Bor}
use Rattle.mk_tree.specs.Spans.{size}
use Rattle.mk_tree.specs.Steps.{boundaries_of}
use Rattle.mk_tree.proofs.Marked.{dashes, unmarked}
use Rattle.mk_tree.proofs.Descent.{size_beyond}

-- a line feed and two hyphens stand at a place
pub record IsDashed (text : List ℕ) (k : ℕ) : Type 0 where
  pub fits : k + 3 ≤ length text
  pub feed : slice_index text k ≡ 10
  pub one : slice_index text (suc k) ≡ 45
  pub two : slice_index text (suc (suc k)) ≡ 45

to_dashed : (text : List ℕ) (k : ℕ) → OccursAt text (10 ∷ dashes) k → IsDashed text k
to_dashed text k h =
    let second : k + 2 ≡ suc (suc k) = omega arith in
    record {
      fits = h.fits;
      feed = ap (slice_index text) (sym (add-zero k)) ∙ h.reads 0 (omega arith);
      one = ap (slice_index text) (sym (add-one k)) ∙ h.reads 1 (omega arith);
      two = ap (slice_index text) (sym second) ∙ h.reads 2 (omega arith);
    }

dash_reads : (text : List ℕ) (k : ℕ) → IsDashed text k → (j : ℕ) → j < 3 → slice_index text (k + j) ≡ slice_index (10 ∷ dashes) j
dash_reads text k h zero l = ap (slice_index text) (add-zero k) ∙ h.feed
dash_reads text k h (suc zero) l = ap (slice_index text) (add-one k) ∙ h.one
dash_reads text k h (suc (suc zero)) l =
    let second : k + 2 ≡ suc (suc k) = omega arith in
    ap (slice_index text) second ∙ h.two
dash_reads text k h (suc (suc (suc j))) l = absurd (omega (arith, l))

from_dashed : (text : List ℕ) (k : ℕ) → IsDashed text k → OccursAt text (10 ∷ dashes) k
from_dashed text k h = record { fits = h.fits; reads = dash_reads text k h }

dashed_later : (x : ℕ) (xs : List ℕ) (k : ℕ) → IsDashed xs k → IsDashed (x ∷ xs) (suc k)
dashed_later x xs k h = record { fits = omega (arith, h.fits); feed = h.feed; one = h.one; two = h.two }

dashed_here : (x a b : ℕ) (xs : List ℕ) → x ≡ 10 → starts_with nat_eq (a ∷ b ∷ xs) dashes ≡ true → IsDashed (x ∷ a ∷ b ∷ xs) 0
dashed_here x a b xs e h =
    let both = and_parts (nat_eq 45 a) (nat_eq 45 b && true) h in
    let second = and_parts (nat_eq 45 b) true both.1 in
    record { fits = omega arith; feed = e; one = sym (eqb-true 45 a both.0); two = sym (eqb-true 45 b second.0) }

and_false : (t : Bool) → (t && false) ≡ false
and_false true = refl
and_false false = refl

undashed_after : (x : ℕ) (xs : List ℕ) → x ≡ 10 → ¬ IsDashed (x ∷ xs) 0 → starts_with nat_eq xs dashes ≡ false
undashed_after x [] e h = refl
undashed_after x (a ∷ []) e h = and_false (nat_eq 45 a)
undashed_after x (a ∷ b ∷ xs) e h =
    elim (cases_Bool (starts_with nat_eq (a ∷ b ∷ xs) dashes)) [
      | inl t ↦ absurd (h (dashed_here x a b xs e t))
      | inr f ↦ f
    ]

-- what begins so goes on beginning so
prefix_kept : (p a b : List ℕ) → starts_with nat_eq a p ≡ true → starts_with nat_eq (a ++ b) p ≡ true
prefix_kept [] a b h = refl
prefix_kept (y ∷ p) [] b h = cc
prefix_kept (y ∷ p) (x ∷ a) b h =
    let both = and_parts (nat_eq y x) (starts_with nat_eq a p) h in
    rw (both.0, prefix_kept p a b both.1) refl

-- the lines but the first
abbrev later : List TextLine → List TextLine
later [] = []
later (l ∷ ls) = ls

pub content_undashed : (xs : List ℕ) (l : TextLine) (ls : List TextLine) → xs ≡ text_of (l ∷ ls) → starts_with nat_eq xs dashes ≡ false → starts_with nat_eq l.content dashes ≡ false
content_undashed xs l ls e h =
    elim (cases_Bool (starts_with nat_eq l.content dashes)) [
      | inl t ↦
          let whole : xs ≡ l.content ++ (ending_bytes l.ending ++ text_of ls) = e ∙ append_assoc l.content (ending_bytes l.ending) (text_of ls) in
          let there : starts_with nat_eq xs dashes ≡ true = ap (λ ys. starts_with nat_eq ys dashes) whole ∙ prefix_kept dashes l.content (ending_bytes l.ending ++ text_of ls) t in
          cc
      | inr f ↦ f
    ]

first_of_lines : (bs : List (List ℕ)) (xs : List ℕ) (ls : List TextLine) → xs ≡ text_of ls → starts_with nat_eq xs dashes ≡ false → beyond bs ls ≡ beyond bs (later ls)
first_of_lines bs xs [] e h = refl
first_of_lines bs xs (l ∷ ls) e h = rw (unmarked bs l (content_undashed xs l ls e h)) refl

first_passed : (bs : List (List ℕ)) (xs : List ℕ) → starts_with nat_eq xs dashes ≡ false → beyond bs (cut xs) ≡ beyond bs (later (cut xs))
first_passed bs xs h = first_of_lines bs xs (cut xs) (sym (text_cut xs)) h

later_onto : (x : ℕ) (ls : List TextLine) → later (onto_first x ls) ≡ later ls
later_onto x [] = refl
later_onto x (l ∷ ls) = refl

later_feed : (x : ℕ) (xs : List ℕ) → (x == 10) ≡ true → later (cut (x ∷ xs)) ≡ cut xs
later_feed x xs t = rw t refl

later_other : (x : ℕ) (xs : List ℕ) → (x == 10) ≡ false → later (cut (x ∷ xs)) ≡ later (cut xs)
later_other x xs f = rw f (later_onto x (cut xs))

passed_to : (bs : List (List ℕ)) (xs : List ℕ) (n : ℕ) → n < length xs → slice_index xs n ≡ 10 → ((k : ℕ) → k < n → ¬ IsDashed xs k) → beyond bs (later (cut xs)) ≡ beyond bs (cut (drop (suc n) xs))
passed_to bs [] n l e h = let none : n < 0 = l in absurd (omega arith)
passed_to bs (x ∷ xs) zero l e h =
    elim (eqb_tells x 10) [
      | inl t ↦ ap (beyond bs) (later_feed x xs t.0)
      | inr f ↦ let there : (x == 10) ≡ true = ap (λ y. y == 10) e in cc
    ]
passed_to bs (x ∷ xs) (suc n) l e h =
    let again = passed_to bs xs n (omega (arith, l)) e (λ k q d. h (suc k) (omega arith) (dashed_later x xs k d)) in
    elim (eqb_tells x 10) [
      | inl t ↦ ap (beyond bs) (later_feed x xs t.0) ∙ (first_passed bs xs (undashed_after x xs t.1 (h 0 (omega arith))) ∙ again)
      | inr f ↦ ap (beyond bs) (later_other x xs f.0) ∙ again
    ]

passed_all : (bs : List (List ℕ)) (xs : List ℕ) → ((k : ℕ) → ¬ IsDashed xs k) → beyond bs (later (cut xs)) ≡ []
passed_all bs [] h = refl
passed_all bs (x ∷ xs) h =
    let again = passed_all bs xs (λ k d. h (suc k) (dashed_later x xs k d)) in
    elim (eqb_tells x 10) [
      | inl t ↦ ap (beyond bs) (later_feed x xs t.0) ∙ (first_passed bs xs (undashed_after x xs t.1 (h 0)) ∙ again)
      | inr f ↦ ap (beyond bs) (later_other x xs f.0) ∙ again
    ]

-- what a search for a line feed and two hyphens says
pub found : (bs : List (List ℕ)) (text : List ℕ) (n : ℕ) → starts_with nat_eq text dashes ≡ false → FindsNeedle text (10 ∷ dashes) 0 (Some n) → beyond bs (cut text) ≡ beyond bs (cut (take (length text - (n + 1)) (drop (n + 1) text)))
found bs text n s h =
    let here = to_dashed text n h.1 in
    first_passed bs text s
    ∙ (passed_to bs text n (omega (arith, here.fits)) here.feed (λ k q d. h.0.before k (omega arith) q (from_dashed text k d))
    ∙ ap (λ xs. beyond bs (cut xs)) (ap (λ k. drop k text) (sym (add-one n)) ∙ sym (take_rest text (n + 1))))

pub unfound : (bs : List (List ℕ)) (text : List ℕ) → starts_with nat_eq text dashes ≡ false → FindsNeedle text (10 ∷ dashes) 0 None → beyond bs (cut text) ≡ []
unfound bs text s h =
    first_passed bs text s
    ∙ passed_all bs text (λ k d. h k (omega arith) (omega (arith, d.fits)) (from_dashed text k d))

-- the sizes of what stands before the first mark, by what follows it
pub fronts : (bs : List (List ℕ)) (text rest : List ℕ) → beyond bs (cut text) ≡ beyond bs (cut rest) → size (upto bs (cut text)) + length rest ≡ length text + size (upto bs (cut rest))
fronts bs text rest e =
    let a : size (upto bs (cut text)) + size (beyond bs (cut text)) ≡ length text = size_beyond bs (cut text) ∙ ap length (text_cut text) in
    let b : size (upto bs (cut rest)) + size (beyond bs (cut rest)) ≡ length rest = size_beyond bs (cut rest) ∙ ap length (text_cut rest) in
    let c : size (beyond bs (cut text)) ≡ size (beyond bs (cut rest)) = ap size e in
    omega arith

-- without an open boundary nothing is a mark
pub none_beyond : (ls : List TextLine) → beyond [] ls ≡ []
none_beyond [] = refl
none_beyond (l ∷ ls) = none_beyond ls

pub all_upto : (ls : List TextLine) → upto [] ls ≡ ls
all_upto [] = refl
all_upto (l ∷ ls) = ap (λ xs. l ∷ xs) (all_upto ls)

-- nothing follows the whole of a text
pub none_left : (text : List ℕ) → take (length text - length text) (drop (length text) text) ≡ []
none_left text = take_rest text (length text) ∙ drop-length text

no_boundary : (bs : List (Bor (List ℕ))) (t : Bool) → t ≡ (length bs == 0) → t ≡ true → boundaries_of bs ≡ []
no_boundary [] t e h = refl
no_boundary (b ∷ bs) t e h = let none : suc (length bs) ≡ 0 = eqb-true (suc (length bs)) 0 (sym e ∙ h) in absurd (omega arith)

pub none_opened : (bs : List (Bor (List ℕ))) (text rest : List ℕ) (t : Bool) → t ≡ (length bs == 0) → t ≡ true → rest ≡ [] → beyond (boundaries_of bs) (cut text) ≡ cut rest
none_opened bs text rest t e h r = ap (λ xs. beyond xs (cut text)) (no_boundary bs t e h) ∙ (none_beyond (cut text) ∙ ap cut (sym r))

pub whole_upto : (bs : List (Bor (List ℕ))) (text rest : List ℕ) (t : Bool) → t ≡ (length bs == 0) → t ≡ true → rest ≡ [] → length text ≡ size (upto (boundaries_of bs) (cut text)) + length rest
whole_upto bs text rest t e h r =
    let all : size (upto (boundaries_of bs) (cut text)) ≡ length text = ap (λ xs. size (upto xs (cut text))) (no_boundary bs t e h) ∙ (ap size (all_upto (cut text)) ∙ ap length (text_cut text)) in
    let none : length rest ≡ 0 = ap length r in
    omega arith
