-- Walking over the lines of a text by places.
use Rattle.std.proofs.Common.{◌≡◌, ◌+◌, ◌-◌, ◌≤◌, ◌<◌, ℕ, Option, None, Some, List, [], ◌∷◌, refl, ap, sym, ◌∙◌, subst, length, drop, slice_index, slice_get, arith, length-drop}
use Rattle.std.proofs.lemmas.List.{get_or-drop}
use Rattle.mk_line.specs.Lines.{TextLine, cut, text_of, printed_line, AreLines}
use Rattle.mk_line.specs.Views.{BeginsLine}
use Rattle.mk_line.proofs.Cuts.{lines_cut, cut_rest, begins_line, append_nil}
use Rattle.mk_decide.proofs.Openings.{some_text}

-- lines whose first is known
pub record First (ls : List TextLine) (l : TextLine) : Type 0 where
  pub rest : List TextLine
  pub is : ls ≡ l ∷ rest

some_same : (l m : TextLine) → ◌≡◌ {A = Option TextLine} (Some l) (Some m) → m ≡ l
some_same l m e = cc

none_some : (l : TextLine) → ◌≡◌ {A = Option TextLine} (Some l) None → ⊥
none_some l e = cc

some_none : (l : TextLine) → ◌≡◌ {A = Option TextLine} None (Some l) → ⊥
some_none l e = cc

pub first_is : (ls : List TextLine) (l : TextLine) → Some l ≡ slice_get ls 0 → First ls l
first_is [] l e = absurd (none_some l e)
first_is (m ∷ ls) l e = record { rest = ls; is = ap (λ k. k ∷ ls) (some_same l m e) }

pub none_is : (ls : List TextLine) → None ≡ slice_get ls 0 → ls ≡ []
none_is [] e = refl
none_is (m ∷ ls) e = absurd (some_none m e)

-- the line at a place, and what follows it
one_line : (l : TextLine) → length (text_of (l ∷ [])) ≡ length (printed_line l)
one_line l = ap length (append_nil (printed_line l))

pub begins_next : (text : List ℕ) (l : TextLine) (ls : List TextLine) → cut text ≡ l ∷ ls → BeginsLine text (length (printed_line l))
begins_next text l ls e = subst (BeginsLine text) (one_line l) (begins_line text (l ∷ []) ls e)

pub cut_next : (text : List ℕ) (l : TextLine) (ls : List TextLine) → cut text ≡ l ∷ ls → cut (drop (length (printed_line l)) text) ≡ ls
cut_next text l ls e = ap (λ n. cut (drop n text)) (sym (one_line l)) ∙ cut_rest text (l ∷ []) ls e

pub line_size : (text : List ℕ) (l : TextLine) (ls : List TextLine) → cut text ≡ l ∷ ls → 0 < length (printed_line l)
line_size text l ls e = let h : 0 < length (text_of (l ∷ [])) = some_text l [] (subst AreLines e (lines_cut text)).0 in omega (arith, h, one_line l)

further : (place n : ℕ) → 0 < n → place + n - 1 ≡ place + (n - 1)
further place n o = omega arith

pub begins_far : (text : List ℕ) (place n : ℕ) → place ≤ length text → 0 < n → BeginsLine (drop place text) n → BeginsLine text (place + n)
begins_far text place n h o b = record {
  within = omega (arith, h, b.within, length-drop place text);
  after_feed = λ p q. ap (slice_index text) (further place n o) ∙ (sym (get_or-drop place text (n - 1) 0) ∙ b.after_feed o (omega (arith, q, h, length-drop place text)));
}
