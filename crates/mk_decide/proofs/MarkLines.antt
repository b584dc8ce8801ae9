-- Marks of one boundary are alike at their front: blanks at the end, and the two hyphens of a close line, change nothing
-- before a first colon.
use Rattle.std.proofs.Common.{◌≡◌, ◌&&◌, ◌||◌, ◌==◌, ◌++◌, if◌then◌else◌, ℕ, Bool, true, false, List, [], ◌∷◌, refl, ap, sym, ◌∙◌, inl, inr}
use Rattle.std.proofs.lemmas.Bool.{cases_Bool}
use Rattle.std.proofs.lemmas.Slice.Eq.{bytes_eq-Decides}
use Rattle.std.specs.Str.{bytes_eq}
use Rattle.mk_line.specs.declared.marks.Mark.TheVariants.{No, Part, Close}
use Rattle.mk_line.specs.Ascii.{is_blank, is_name_byte}
use Rattle.mk_line.specs.Kinds.{is_past_blanks_colon, is_after_name, is_field_start, is_continuation}
use Rattle.mk_line.specs.Marks.{trimmed_before, trimmed, dashed, mark}
use Rattle.mk_line.specs.Lines.{TextLine, is_nil}
use Rattle.mk_head.specs.Split.{is_start, is_more, is_empty, belongs}
use Rattle.mk_head.specs.Splits.{Stops}

and_none : (a : Bool) → (a && false) ≡ false
and_none true = refl
and_none false = refl

either_none : (a : Bool) → (if a then false else false) ≡ false
either_none true = refl
either_none false = refl

past_before : (c : ℕ) (ys : List ℕ) → is_past_blanks_colon (trimmed_before c ys) ≡ is_past_blanks_colon (c ∷ ys)
past_before c [] =
    elim (cases_Bool (is_blank c)) [
      | inl h ↦ rw h refl
      | inr h ↦ rw h (rw h refl)
    ]
past_before c (y ∷ ys) = refl

past_trimmed : (cs : List ℕ) → is_past_blanks_colon (trimmed cs) ≡ is_past_blanks_colon cs
past_trimmed [] = refl
past_trimmed (c ∷ cs) = past_before c (trimmed cs) ∙ ap (λ t. if is_blank c then t else c == 58) (past_trimmed cs)

after_before : (c : ℕ) (ys : List ℕ) → is_after_name (trimmed_before c ys) ≡ is_after_name (c ∷ ys)
after_before c [] =
    elim (cases_Bool (is_blank c)) [
      | inl h ↦ rw h (sym (either_none (is_name_byte c)))
      | inr h ↦ rw h (rw h refl)
    ]
after_before c (y ∷ ys) = refl

after_trimmed : (cs : List ℕ) → is_after_name (trimmed cs) ≡ is_after_name cs
after_trimmed [] = refl
after_trimmed (c ∷ cs) = after_before c (trimmed cs) ∙ rw (after_trimmed cs, past_trimmed cs) refl

start_before : (c : ℕ) (ys : List ℕ) → is_field_start (trimmed_before c ys) ≡ is_field_start (c ∷ ys)
start_before c [] =
    elim (cases_Bool (is_blank c)) [
      | inl h ↦ rw h (sym (and_none (is_name_byte c)))
      | inr h ↦ rw h refl
    ]
start_before c (y ∷ ys) = refl

start_trimmed : (cs : List ℕ) → is_field_start (trimmed cs) ≡ is_field_start cs
start_trimmed [] = refl
start_trimmed (c ∷ cs) = start_before c (trimmed cs) ∙ ap (λ t. is_name_byte c && t) (after_trimmed cs)

past_dashes : (b : List ℕ) → is_past_blanks_colon (b ++ 45 ∷ 45 ∷ []) ≡ is_past_blanks_colon b
past_dashes [] = refl
past_dashes (c ∷ b) = ap (λ t. if is_blank c then t else c == 58) (past_dashes b)

after_dashes : (b : List ℕ) → is_after_name (b ++ 45 ∷ 45 ∷ []) ≡ is_after_name b
after_dashes [] = refl
after_dashes (c ∷ b) = rw (after_dashes b, past_dashes b) refl

-- a mark begins with a hyphen
nil_dashed : {A : Type 0} (b : List ℕ) → [] ≡ dashed b → A
nil_dashed b e = cc

first_before : (c : ℕ) (ys b : List ℕ) → trimmed_before c ys ≡ dashed b → c ≡ 45
first_before c [] b e =
    elim (cases_Bool (is_blank c)) [
      | inl h ↦ nil_dashed b (rw h at e)
      | inr h ↦ let k : c ∷ [] ≡ dashed b = (rw h at e) in cc k
    ]
first_before c (y ∷ ys) b e = cc

pub first_dashed : (c : ℕ) (cs b : List ℕ) → trimmed (c ∷ cs) ≡ dashed b → c ≡ 45
first_dashed c cs b e = first_before c (trimmed cs) b e

pub more_dashed : (cs b : List ℕ) → trimmed cs ≡ dashed b → (is_continuation cs ≡ false) × (is_nil cs ≡ false)
more_dashed [] b e = nil_dashed b e
more_dashed (c ∷ cs) b e = (ap is_blank (first_before c (trimmed cs) b e), refl)

-- a line is, at its front, as the delimiter is
pub record IsMarkOf (b : List ℕ) (l : TextLine) : Type 0 where
  pub start : is_start l ≡ is_field_start (dashed b)
  pub more : is_more l ≡ false
  pub some : is_empty l ≡ false

part_by : (s t : Bool) → (if s then Part else (if t then Close else No)) ≡ Part → s ≡ true
part_by true t e = refl
part_by false true e = cc
part_by false false e = cc

close_by : (s t : Bool) → (if s then Part else (if t then Close else No)) ≡ Close → t ≡ true
close_by true t e = cc
close_by false true e = refl
close_by false false e = cc

pub part_trimmed : (b content : List ℕ) → mark b content ≡ Part → trimmed content ≡ dashed b
part_trimmed b content e = (bytes_eq-Decides (trimmed content) (dashed b)).0 (part_by (bytes_eq (trimmed content) (dashed b)) (bytes_eq (trimmed content) (dashed b ++ 45 ∷ 45 ∷ [])) e)

close_trimmed : (b content : List ℕ) → mark b content ≡ Close → trimmed content ≡ dashed (b ++ 45 ∷ 45 ∷ [])
close_trimmed b content e = (bytes_eq-Decides (trimmed content) (dashed b ++ 45 ∷ 45 ∷ [])).0 (close_by (bytes_eq (trimmed content) (dashed b)) (bytes_eq (trimmed content) (dashed b ++ 45 ∷ 45 ∷ [])) e)

pub part_mark : (b : List ℕ) (l : TextLine) → mark b l.content ≡ Part → IsMarkOf b l
part_mark b l e =
    let t = part_trimmed b l.content e in
    let m = more_dashed l.content b t in
    record { start = sym (start_trimmed l.content) ∙ ap is_field_start t; more = m.0; some = m.1 }

pub close_mark : (b : List ℕ) (l : TextLine) → mark b l.content ≡ Close → IsMarkOf b l
close_mark b l e =
    let t = close_trimmed b l.content e in
    let m = more_dashed l.content (b ++ 45 ∷ 45 ∷ []) t in
    record { start = sym (start_trimmed l.content) ∙ (ap is_field_start t ∙ after_dashes b); more = m.0; some = m.1 }

pub marks_stop : (inside : Bool) (b : List ℕ) (l m : TextLine) (ls ms : List TextLine) → IsMarkOf b l → IsMarkOf b m → Stops inside (l ∷ ls) → Stops inside (m ∷ ms)
marks_stop inside b l m ls ms h k s =
    let front : is_start m ≡ is_start l = k.start ∙ sym h.start in
    let same : belongs inside m ≡ belongs inside l = ap (λ t. t || (inside && is_more m)) front ∙ ap (λ t. is_start l || (inside && t)) (k.more ∙ sym h.more) in
    (same ∙ s.0, k.some)
