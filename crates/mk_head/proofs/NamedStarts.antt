-- A text begins with the name of a field where its first line does.
use Rattle.std.proofs.Common.{◌≡◌, ◌&&◌, ◌+◌, ◌≤◌, if◌then◌else◌, ℕ, true, false, None, Some, List, [], ◌∷◌, ◌++◌, length, take, refl, sym, ap, ap₂, subst, ◌∙◌, append_assoc, length-append, arith, inl, inr}
use Rattle.std.proofs.lemmas.Bool.{cases_Bool}
use Rattle.std.proofs.lemmas.List.{take-append-le}
use Rattle.std.proofs.lemmas.List.Sums.{prefix_len-le-length}
use Rattle.std.specs.List.{prefix_len}
use Rattle.mk_line.specs.Ascii.{is_blank, is_name_byte}
use Rattle.mk_line.specs.Kinds.{is_after_name, is_field_start, is_past_blanks_colon, name_len}
use Rattle.mk_line.specs.Lines.{TextLine, AreLines, ending_bytes, text_of, cut}
use Rattle.mk_line.specs.declared.cutting.Ending.{Ending}
use Rattle.mk_line.specs.declared.cutting.Ending.TheVariants.{Crlf, Lf, Missing}
use Rattle.mk_line.proofs.Cuts.{lines_cut, text_cut}
use Rattle.mk_head.specs.Split.{is_start, fields_from}
use Rattle.mk_head.specs.Fields.{name_of}
use Rattle.mk_head.proofs.FieldRuns.{started}

-- bytes that no name and no blanks go on into
pub data EndsLine : List ℕ → Type 0 where
  nothing : EndsLine []
  return : (bytes : List ℕ) → EndsLine (13 ∷ bytes)
  feed : (bytes : List ℕ) → EndsLine (10 ∷ bytes)

past_end : (t : List ℕ) → EndsLine t → is_past_blanks_colon t ≡ false
past_end t nothing = refl
past_end t (return bytes) = refl
past_end t (feed bytes) = refl

past_tail : (cs t : List ℕ) → EndsLine t → is_past_blanks_colon (cs ++ t) ≡ is_past_blanks_colon cs
past_tail [] t h = past_end t h
past_tail (c ∷ cs) t h = elim (cases_Bool (is_blank c)) [
  | inl b ↦ rw b (past_tail cs t h)
  | inr f ↦ rw f refl
]

after_end : (t : List ℕ) → EndsLine t → is_after_name t ≡ false
after_end t nothing = refl
after_end t (return bytes) = refl
after_end t (feed bytes) = refl

after_tail : (cs t : List ℕ) → EndsLine t → is_after_name (cs ++ t) ≡ is_after_name cs
after_tail [] t h = after_end t h
after_tail (c ∷ cs) t h = elim (cases_Bool (is_name_byte c)) [
  | inl b ↦ rw b (after_tail cs t h)
  | inr f ↦ rw f (past_tail (c ∷ cs) t h)
]

start_end : (t : List ℕ) → EndsLine t → is_field_start t ≡ false
start_end t nothing = refl
start_end t (return bytes) = refl
start_end t (feed bytes) = refl

start_tail : (cs t : List ℕ) → EndsLine t → is_field_start (cs ++ t) ≡ is_field_start cs
start_tail [] t h = start_end t h
start_tail (c ∷ cs) t h = ap (λ g. is_name_byte c && g) (after_tail cs t h)

prefix_end : (t : List ℕ) → EndsLine t → prefix_len is_name_byte t ≡ 0
prefix_end t nothing = refl
prefix_end t (return bytes) = refl
prefix_end t (feed bytes) = refl

prefix_tail : (cs t : List ℕ) → EndsLine t → prefix_len is_name_byte (cs ++ t) ≡ prefix_len is_name_byte cs
prefix_tail [] t h = prefix_end t h
prefix_tail (c ∷ cs) t h = elim (cases_Bool (is_name_byte c)) [
  | inl b ↦ rw b (ap (λ n. 1 + n) (prefix_tail cs t h))
  | inr f ↦ rw f refl
]

len_tail : (cs t : List ℕ) → EndsLine t → name_len (cs ++ t) ≡ name_len cs
len_tail cs t h = ap₂ (λ g n. if g then Some n else None) (start_tail cs t h) (prefix_tail cs t h)

-- what follows the content of the first line
ends_line : (e : Ending) (ls : List TextLine) → (e ≡ Missing → ls ≡ []) → EndsLine (ending_bytes e ++ text_of ls)
ends_line Crlf ls h = return (10 ∷ text_of ls)
ends_line Lf ls h = feed (text_of ls)
ends_line Missing ls h = rw (h refl) nothing

text_first : (text : List ℕ) (l : TextLine) (ls : List TextLine) → cut text ≡ l ∷ ls → text ≡ l.content ++ (ending_bytes l.ending ++ text_of ls)
text_first text l ls e = sym (text_cut text) ∙ (ap text_of e ∙ append_assoc l.content (ending_bytes l.ending) (text_of ls))

end_first : (text : List ℕ) (l : TextLine) (ls : List TextLine) → cut text ≡ l ∷ ls → EndsLine (ending_bytes l.ending ++ text_of ls)
end_first text l ls e = let lines : AreLines (l ∷ ls) = subst AreLines e (lines_cut text) in ends_line l.ending ls lines.1

len_first : (text : List ℕ) (l : TextLine) (ls : List TextLine) → cut text ≡ l ∷ ls → name_len text ≡ name_len l.content
len_first text l ls e = ap name_len (text_first text l ls e) ∙ len_tail l.content (ending_bytes l.ending ++ text_of ls) (end_first text l ls e)

-- a text that begins with a field's name of n bytes
pub record StartsField (text : List ℕ) (n : ℕ) : Type 0 where
  pub line : TextLine
  pub more : List TextLine
  pub lines : cut text ≡ line ∷ more
  pub starts : is_start line ≡ true
  pub named : take n text ≡ name_of line
  pub within : n ≤ length text

none_here : (text : List ℕ) (n : ℕ) → cut text ≡ [] → name_len text ≡ Some n → StartsField text n
none_here text n e h =
    let empty : text ≡ [] = sym (text_cut text) ∙ ap text_of e in
    let none : None ≡ Some n = ap name_len (sym empty) ∙ h in cc

some_here : (text : List ℕ) (n : ℕ) (l : TextLine) (ls : List TextLine) → cut text ≡ l ∷ ls → name_len text ≡ Some n → StartsField text n
some_here text n l ls e h =
    let s = started l.content n (sym (len_first text l ls e) ∙ h) in
    let few : n ≤ length l.content = omega (arith, s.1, prefix_len-le-length is_name_byte l.content) in
    let whole = text_first text l ls e in
    record {
      line = l;
      more = ls;
      lines = e;
      starts = s.0;
      named = ap (take n) whole ∙ (take-append-le n l.content (ending_bytes l.ending ++ text_of ls) few ∙ ap (λ k. take k l.content) s.1);
      within = omega (arith, few, ap length whole, length-append l.content (ending_bytes l.ending ++ text_of ls));
    }

by_lines : (text : List ℕ) (n : ℕ) (ls : List TextLine) → cut text ≡ ls → name_len text ≡ Some n → StartsField text n
by_lines text n [] e h = none_here text n e h
by_lines text n (l ∷ ls) e h = some_here text n l ls e h

pub starts_field : (text : List ℕ) (n : ℕ) → name_len text ≡ Some n → StartsField text n
starts_field text n h = by_lines text n (cut text) refl h

unstarted : (cs : List ℕ) → name_len cs ≡ None → is_field_start cs ≡ false
unstarted cs h = elim (cases_Bool (is_field_start cs)) [
  | inl t ↦ let some : Some (prefix_len is_name_byte cs) ≡ None = (rw t at h) in cc
  | inr f ↦ f
]

none_by_lines : (text : List ℕ) (ls : List TextLine) → cut text ≡ ls → name_len text ≡ None → fields_from false ls ≡ []
none_by_lines text [] e h = refl
none_by_lines text (l ∷ ls) e h = let f = unstarted l.content (sym (len_first text l ls e) ∙ h) in rw f refl

-- a text that doesn't has no fields at its start
pub starts_none : (text : List ℕ) → name_len text ≡ None → fields_from false (cut text) ≡ []
starts_none text h = none_by_lines text (cut text) refl h
