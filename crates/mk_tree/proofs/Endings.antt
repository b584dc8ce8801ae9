-- A text without the line ending at its end, as lines whose last has lost its ending.
use Rattle.std.proofs.Common.{◌≡◌, ◌≢◌, ◌==◌, ℕ, false, List, [], ◌∷◌, ◌++◌, refl, ap, sym, ◌∙◌, inl, inr, append_assoc}
use Rattle.std.proofs.lemmas.Bool.Decides.{eqb_tells}
use Rattle.std.proofs.lemmas.Bool.{cases_Bool, eqb-true}
use Rattle.mk_line.specs.declared.cutting.Ending.{Ending}
use Rattle.mk_line.specs.declared.cutting.Ending.TheVariants.{Crlf, Lf, Missing}
use Rattle.mk_line.specs.Lines.{TextLine, text_line, text_of, with_byte, onto_first, cut}
use Rattle.mk_line.proofs.Cuts.{printed_with, text_cut}
use Rattle.mk_tree.specs.Sections.{unended}

-- the bytes of lines whose last has lost its ending
abbrev ended_text : List TextLine → List ℕ
ended_text ls = text_of (unended ls)

-- a byte before lines stands before what is left of them, but for a CR before a lone line feed
last_with : (byte : ℕ) (content : List ℕ) (e : Ending) → (byte ≡ 13 → text_line content e ∷ [] ≡ text_line [] Lf ∷ [] → ⊥) → ended_text (with_byte byte (text_line content e) ∷ []) ≡ byte ∷ ended_text (text_line content e ∷ [])
last_with byte content Crlf h = refl
last_with byte [] Lf h =
    elim (cases_Bool (byte == 13)) [
      | inl t ↦ absurd (h (eqb-true byte 13 t) refl)
      | inr f ↦ rw f refl
    ]
last_with byte (next ∷ bytes) Lf h = refl
last_with byte content Missing h = refl

first_with : (byte : ℕ) (l : TextLine) (ls : List TextLine) → (byte ≡ 13 → l ∷ ls ≡ text_line [] Lf ∷ [] → ⊥) → ended_text (with_byte byte l ∷ ls) ≡ byte ∷ ended_text (l ∷ ls)
first_with byte l [] h = last_with byte l.content l.ending h
first_with byte l (m ∷ ls) h = ap (λ xs. xs ++ ended_text (m ∷ ls)) (printed_with byte l.content l.ending)

onto_lines : (byte : ℕ) (ls : List TextLine) → ls ≢ [] → (byte ≡ 13 → ls ≡ text_line [] Lf ∷ [] → ⊥) → ended_text (onto_first byte ls) ≡ byte ∷ ended_text ls
onto_lines byte [] o h = absurd (o refl)
onto_lines byte (l ∷ ls) o h = first_with byte l ls h

feed_lines : (ls : List TextLine) → ls ≢ [] → ended_text (text_line [] Lf ∷ ls) ≡ 10 ∷ ended_text ls
feed_lines [] o = absurd (o refl)
feed_lines (l ∷ ls) o = refl

ended_step : (byte : ℕ) (bytes : List ℕ) → bytes ≢ [] → (byte ≡ 13 → bytes ≡ 10 ∷ [] → ⊥) → ended_text (cut (byte ∷ bytes)) ≡ byte ∷ ended_text (cut bytes)
ended_step byte bytes o h =
    let some : cut bytes ≢ [] = λ e. o (sym (text_cut bytes) ∙ ap text_of e) in
    elim (eqb_tells byte 10) [
      | inl t ↦ rw t.0 (feed_lines (cut bytes) some ∙ ap (λ b. b ∷ ended_text (cut bytes)) (sym t.1))
      | inr f ↦ rw f.0 (onto_lines byte (cut bytes) some (λ p e. h p (sym (text_cut bytes) ∙ ap text_of e)))
    ]

last_some : (xs : List ℕ) (y : ℕ) → xs ++ (y ∷ []) ≢ []
last_some [] y e = cc
last_some (x ∷ xs) y e = cc

two_last : (xs : List ℕ) (y z : ℕ) → xs ++ (y ∷ z ∷ []) ≢ 10 ∷ []
two_last [] y z e = cc
two_last (x ∷ []) y z e = cc
two_last (x ∷ w ∷ xs) y z e = cc

two_some : (xs : List ℕ) (y z : ℕ) → xs ++ (y ∷ z ∷ []) ≢ []
two_some [] y z e = cc
two_some (x ∷ xs) y z e = cc

crlf_lost : (front : List ℕ) → ended_text (cut (front ++ (13 ∷ 10 ∷ []))) ≡ front
crlf_lost [] = refl
crlf_lost (x ∷ xs) = ended_step x (xs ++ (13 ∷ 10 ∷ [])) (two_some xs 13 10) (λ p e. two_last xs 13 10 e) ∙ ap (λ ys. x ∷ ys) (crlf_lost xs)

one_more : (y : ℕ) (xs : List ℕ) → y ∷ (xs ++ (10 ∷ [])) ≢ 10 ∷ []
one_more y [] e = cc
one_more y (x ∷ xs) e = cc

cons_some : (x : ℕ) (xs : List ℕ) → x ∷ xs ≢ []
cons_some x xs e = cc

lf_lost : (front : List ℕ) → ((f : List ℕ) → front ≢ f ++ (13 ∷ [])) → ended_text (cut (front ++ (10 ∷ []))) ≡ front
lf_lost [] h = refl
lf_lost (x ∷ []) h = ended_step x (10 ∷ []) (cons_some 10 []) (λ p e. h [] (ap (λ b. b ∷ []) p))
lf_lost (x ∷ y ∷ xs) h =
    ended_step x (y ∷ (xs ++ (10 ∷ []))) (cons_some y (xs ++ (10 ∷ []))) (λ p e. one_more y xs e)
    ∙ ap (λ ys. x ∷ ys) (lf_lost (y ∷ xs) (λ f e. h (x ∷ f) (ap (λ ys. x ∷ ys) e)))

open_one : (x : ℕ) → (x == 10) ≡ false → ended_text (cut (x ∷ [])) ≡ x ∷ []
open_one x f = rw f refl

none_lost : (text : List ℕ) → ((f : List ℕ) → text ≢ f ++ (10 ∷ [])) → ended_text (cut text) ≡ text
none_lost [] h = refl
none_lost (x ∷ []) h =
    elim (eqb_tells x 10) [
      | inl t ↦ absurd (h [] (ap (λ b. b ∷ []) t.1))
      | inr f ↦ open_one x f.0
    ]
none_lost (x ∷ y ∷ xs) h =
    ended_step x (y ∷ xs) (cons_some y xs) (λ p e. h (x ∷ []) (ap (λ ys. x ∷ ys) e))
    ∙ ap (λ ys. x ∷ ys) (none_lost (y ∷ xs) (λ f e. h (x ∷ f) (ap (λ ys. x ∷ ys) e)))

-- the same of a text of which a suffix was cut off, or none
pub ended_crlf : (text line content : List ℕ) → text ≡ line ++ (10 ∷ []) → line ≡ content ++ (13 ∷ []) → content ≡ text_of (unended (cut text))
ended_crlf text line content e h = sym (ap (λ xs. ended_text (cut xs)) (e ∙ (ap (λ xs. xs ++ (10 ∷ [])) h ∙ append_assoc content (13 ∷ []) (10 ∷ []))) ∙ crlf_lost content)

pub ended_lf : (text line : List ℕ) → text ≡ line ++ (10 ∷ []) → ((f : List ℕ) → line ≢ f ++ (13 ∷ [])) → line ≡ text_of (unended (cut text))
ended_lf text line e h = sym (ap (λ xs. ended_text (cut xs)) e ∙ lf_lost line h)

pub ended_none : (text : List ℕ) → ((f : List ℕ) → text ≢ f ++ (10 ∷ [])) → text ≡ text_of (unended (cut text))
ended_none text h = sym (none_lost text h)
