-- The look at the line after a section's fields tells whether new fields end there, and whether the first line is taken
-- for an envelope.
use Rattle.std.proofs.Common.{◌≡◌, ◌↔◌, ◌==◌, ◌<◌, ◌++◌, ◌&&◌, codes, nat_eq, ℕ, zero, suc, Bool, true, false, not, Option, None, Some, List, [], ◌∷◌, refl, sym, length, arith, inl, inr}
use Rattle.std.proofs.lemmas.Bool.{cases_Bool, eqb-true}
use Rattle.std.specs.List.{starts_with}
use Rattle.mk_line.specs.Lines.{TextLine, is_nil}
use Rattle.mk_line.specs.Kinds.{is_field_start, is_from_line}
use Rattle.mk_head.specs.Split.{is_empty}
use Rattle.std.specs.Option.{option_to_list}
use Rattle.mk_head.specs.Splits.{IsRun, Follows}
use Rattle.mk_tree.specs.Tree.{Entity, print}
use Rattle.mk_tree.specs.Spans.{size}
use Rattle.mk_tree.specs.Places.{Frame, lines_before}
use Rattle.mk_tree.specs.Locality.{BeginsPlain, RootFits}
use Rattle.mk_decide.proofs.PlanNames.{HeaderEnds}
use Rattle.mk_decide.specs.Looks.{has_separator, ends_there}
use Rattle.mk_decide.specs.LocalAnswers.{is_first}
use Rattle.mk_decide.proofs.Openings.{Each, some_text}
use Rattle.mk_decide.proofs.Runs.{belongs_start}
use Rattle.mk_decide.proofs.NewFields.{ends_follow, follow_ends}
use Rattle.mk_decide.proofs.LocalLooks.{ends_told, separator_there}

true_false : {A : Type 0} → true ≡ false → A
true_false e = cc

and_none : (a : Bool) → (a && false) ≡ false
and_none true = refl
and_none false = refl

-- a field start is no From-line
start_from : (content : List ℕ) → is_field_start content ≡ true → is_from_line content ≡ false
start_from content h = rw h (and_none (starts_with nat_eq content (codes "From ")))

-- lines that begin with a field, or with an empty line, begin with no From-line
nil_from : (content : List ℕ) → is_nil content ≡ true → is_from_line content ≡ false
nil_from [] h = refl
nil_from (b ∷ bs) h = cc

pub plain_some : (fields : List TextLine) (l : TextLine) (body : List TextLine) → IsRun false fields → is_empty l ≡ true → BeginsPlain (fields ++ (l ∷ body))
plain_some [] l body r h = nil_from l.content h
plain_some (f ∷ fields) l body r h = start_from f.content (belongs_start f r.0)

pub plain_none : (fields body : List TextLine) → IsRun false fields → (not (is_nil fields) ≡ false → BeginsPlain body) → BeginsPlain (fields ++ body)
plain_none [] body r h = h refl
plain_none (f ∷ fields) body r h = start_from f.content (belongs_start f r.0)

bare_plain : (fields body : List TextLine) → not (is_nil fields) ≡ false → BeginsPlain (fields ++ body) → BeginsPlain body
bare_plain [] body n h = h
bare_plain (f ∷ fields) body n h = true_false n

-- after a separator the look isn't needed
there_some : (none first : Bool) (l : TextLine) (body : List TextLine) → has_separator (Some l) ≡ true → ends_there none first (Some l) body ≡ true
there_some none first l body h = rw h refl

pub head_told : (fields : List TextLine) (o : Option TextLine) (body : List TextLine) (first old : Bool) → IsRun false fields → Follows old o body → Each (option_to_list o)
    → ((ends_there (not (not (is_nil fields))) first o body ≡ true) ↔ (HeaderEnds fields o body × (first ≡ true → BeginsPlain (fields ++ (option_to_list o ++ body)))))
head_told fields (Some l) body first old r f e = ((λ h. (tt, λ q. plain_some fields l body r f)), (λ k. there_some (not (not (is_nil fields))) first l body (separator_there l e.0)))
head_told fields None body first old r f e =
    let told = ends_told (not (is_nil fields)) first old body f in (
      (λ h. let t = told.0 h in (follow_ends fields None body r t.0, λ q. plain_none fields body r (λ n. t.1 n q))),
      (λ k. told.1 (ends_follow old fields None body body f k.0, λ n q. bare_plain fields body n (k.1 q))),
    )

-- what a document without an envelope begins with
abbrev pub begins_root : Option TextLine → List Frame → Bool
begins_root None [] = true
begins_root None (f ∷ fs) = false
begins_root (Some l) fs = false

pub root_told : (envelope : Option TextLine) (fs : List Frame) (e : Entity) → ((begins_root envelope fs ≡ true → BeginsPlain (print e)) ↔ RootFits envelope fs e)
root_told None [] e = ((λ h. h refl), (λ h q. h))
root_told None (f ∷ fs) e = ((λ h. tt), (λ h q. true_false (sym q)))
root_told (Some l) fs e = ((λ h. tt), (λ h q. true_false (sym q)))

none_more : {A : Type 0} (n : ℕ) → ◌≡◌ {A = ℕ} zero (suc n) → A
none_more n e = let none : 0 < 0 = omega (arith, e) in absurd (omega (arith, none))

some_start : (n : ℕ) → 0 < n → (n == 0) ≡ false
some_start n h =
    elim (cases_Bool (n == 0)) [
      | inl e ↦ let none : 0 < 0 = omega (arith, h, eqb-true n 0 e) in absurd (omega (arith, none))
      | inr e ↦ e
    ]

-- the section's numbers and its start tell it
pub first_is : (numbers : List ℕ) (envelope : Option TextLine) (fs : List Frame) → length fs ≡ length numbers → Each (option_to_list envelope) → is_first numbers (size (option_to_list envelope ++ lines_before fs)) ≡ begins_root envelope fs
first_is [] None [] h e = refl
first_is [] (Some l) [] h e = some_start (size (l ∷ [])) (some_text l [] e.0)
first_is [] o (f ∷ fs) h e = none_more (length fs) (sym h)
first_is (k ∷ ks) o [] h e = none_more (length ks) h
first_is (k ∷ ks) None (f ∷ fs) h e = refl
first_is (k ∷ ks) (Some l) (f ∷ fs) h e = refl
