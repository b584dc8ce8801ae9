-- One look at a line of a text.
use Rattle.std.proofs.Common.{◌≡◌, ◌+◌, ◌-◌, ◌≤◌, ◌<◌, ◌^◌, ◌++◌, ℕ, None, Some, List, [], ◌∷◌, refl, ap, sym, ◌∙◌, subst, length, take, drop, slice_get, nat_lt, arith, inl, inr}
use Rattle.std.proofs.lemmas.Bool.{cases_Bool, lt-ltb, ltb-true, le-ltb, ltb-false}
use Rattle.std.proofs.lemmas.List.{drop-drop, take-append-drop}
use Rattle.std.proofs.Math.Seq.{take-add, take-append_seam}
use Rattle.mk_line.specs.Lines.{TextLine, cut, text_of, printed_line}
use Rattle.mk_line.specs.Views.{BeginsLine}
use Rattle.mk_line.specs.Meters.{ticked}
use Rattle.mk_line.proofs.Cuts.{text_cut, append_nil}
use Rattle.mk_tree.specs.Tree.{Entity, print, field_lines, entity_head}
use Rattle.mk_tree.specs.Sections.{body_lines}
use Rattle.mk_tree.specs.Spans.{size}
use Rattle.std.specs.Option.{option_to_list}
use Rattle.mk_tree.proofs.OwnFields.{size_entity}
use Rattle.mk_decide.proofs.Walking.{first_is, none_is, begins_far, begins_next, cut_next, line_size}
use Rattle.mk_decide.specs.Looks.{IsNext, IsEnd, has_separator}

pub ticked_most : (n m : ℕ) → m ≡ ticked n → m ≤ n + 1
ticked_most n m e =
    elim (cases_Bool (nat_lt n (2 ^ 64 - 1))) [
      | inl h ↦ let p : m ≡ n + 1 = e ∙ rw h refl in omega (arith, p)
      | inr h ↦ let p : m ≡ n = e ∙ rw h refl in omega (arith, p)
    ]

-- the front of bytes whose front is known
pub taken_front : (front rest text : List ℕ) (place n : ℕ) → place ≤ length text → drop place text ≡ front ++ rest → n ≡ length front → take (place + n) text ≡ take place text ++ front
taken_front front rest text place n h e p = take-add place n text ∙ ap (λ xs. take place text ++ xs) (ap (take n) e ∙ (ap (λ k. take k (front ++ rest)) p ∙ take-append_seam front rest))

pub next_is : (text : List ℕ) (place n : ℕ) (l : TextLine) → BeginsLine text place → Some l ≡ slice_get (cut (drop place text)) 0 → n ≡ length (printed_line l) → IsNext text place l n
next_is text place n l b e p =
    let f = first_is (cut (drop place text)) l e in
    let more : 0 < n = omega (arith, p, line_size (drop place text) l f.rest f.is) in
    record {
      lines = f.is ∙ ap (λ ls. l ∷ ls) (sym (ap cut (sym (drop-drop n place text) ∙ ap (λ k. drop k (drop place text)) p) ∙ cut_next (drop place text) l f.rest f.is));
      front = taken_front (printed_line l) (text_of f.rest) text place n b.within (sym (text_cut (drop place text)) ∙ ap text_of f.is) p;
      begins = begins_far text place n b.within more (subst (BeginsLine (drop place text)) (sym p) (begins_next (drop place text) l f.rest f.is));
      more = more;
    }

no_bytes : (xs ys : List ℕ) → ys ≡ [] → xs ++ ys ≡ xs
no_bytes xs ys e = ap (λ zs. xs ++ zs) e ∙ append_nil xs

pub end_is : (text : List ℕ) (place : ℕ) → None ≡ slice_get (cut (drop place text)) 0 → IsEnd text place
end_is text place e = let none = none_is (cut (drop place text)) e in record { lines = none; front = sym (no_bytes (take place text) (drop place text) (sym (text_cut (drop place text)) ∙ ap text_of none)) ∙ take-append-drop place text }

-- the sizes of an entity's lines tell whether a separator is there
pub separator_by_size : (e : Entity) (whole fields body : ℕ) → whole ≡ size (print e) → fields ≡ size (field_lines e) → body ≡ size (body_lines e) → nat_lt body (whole - fields) ≡ has_separator (entity_head e).separator
separator_by_size e whole fields body p q r =
    let n = size (option_to_list (entity_head e).separator) in
    elim (cases_Bool (nat_lt 0 n)) [
      | inl h ↦ rw h (let some : 0 < n = ltb-true 0 n h in let all : body < whole - fields = omega (arith, some, p, q, r, size_entity e) in lt-ltb body (whole - fields) all)
      | inr h ↦ rw h (let none : n ≤ 0 = ltb-false 0 n h in let all : whole - fields ≤ body = omega (arith, none, p, q, r, size_entity e) in le-ltb body (whole - fields) all)
    ]

pub fields_within : (e : Entity) (whole fields : ℕ) → whole ≡ size (print e) → fields ≡ size (field_lines e) → fields ≤ whole
fields_within e whole fields p q = omega (arith, p, q, size_entity e)
