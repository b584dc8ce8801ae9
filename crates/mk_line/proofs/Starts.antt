-- Field starts by the length of their names.
use Rattle.std.proofs.Common.{◌≡◌, ◌==◌, ◌<◌, ◌≤◌, ◌+◌, ℕ, suc, zero, true, false, List, [], ◌∷◌, refl, ap, sym, ◌∙◌, length, drop, slice_index, arith, inl, inr, take, ◌-◌, None, Some}
use Rattle.std.proofs.lemmas.List.{take_rest}
use Rattle.std.proofs.lemmas.Bool.{cases_Bool}
use Rattle.std.specs.List.{prefix_len}
use Rattle.mk_line.specs.Ascii.{is_blank, is_name_byte}
use Rattle.mk_line.specs.Kinds.{is_past_blanks_colon, is_after_name, is_field_start, name_len}

one_more : (n : ℕ) → 1 + n ≡ suc n
one_more n = omega arith

-- the colon stands after the blanks at the start
pub past_at : (cs : List ℕ) → is_past_blanks_colon cs ≡ (slice_index cs (prefix_len is_blank cs) == 58)
past_at [] = refl
past_at (c ∷ cs) =
    elim (cases_Bool (is_blank c)) [
      | inl h ↦ rw (h, one_more (prefix_len is_blank cs)) (past_at cs)
      | inr h ↦ rw h refl
    ]

beyond : (cs : List ℕ) (n : ℕ) → length cs ≤ n → slice_index cs n ≡ 0
beyond [] n h = refl
beyond (c ∷ cs) zero h = absurd (omega (arith, h))
beyond (c ∷ cs) (suc n) h = beyond cs n (omega (arith, h))

pub past_beyond : (cs : List ℕ) (n : ℕ) → n ≡ prefix_len is_blank cs → length cs ≤ n → false ≡ is_past_blanks_colon cs
past_beyond cs n e h = sym (past_at cs ∙ (ap (λ k. slice_index cs k == 58) (sym e) ∙ ap (λ c. c == 58) (beyond cs n h)))

-- after the bytes of the name
pub after_at : (cs : List ℕ) → is_after_name cs ≡ is_past_blanks_colon (drop (prefix_len is_name_byte cs) cs)
after_at [] = refl
after_at (c ∷ cs) =
    elim (cases_Bool (is_name_byte c)) [
      | inl h ↦ rw (h, one_more (prefix_len is_name_byte cs)) (after_at cs)
      | inr h ↦ rw h refl
    ]

start_none : (cs : List ℕ) → prefix_len is_name_byte cs ≡ 0 → is_field_start cs ≡ false
start_none [] e = refl
start_none (c ∷ cs) e =
    elim (cases_Bool (is_name_byte c)) [
      | inl h ↦ let some : 1 + prefix_len is_name_byte cs ≡ 0 = (rw h at e) in absurd (omega (arith, some))
      | inr h ↦ rw h refl
    ]

start_past : (cs : List ℕ) → 0 < prefix_len is_name_byte cs → is_field_start cs ≡ is_past_blanks_colon (drop (prefix_len is_name_byte cs) cs)
start_past [] o = absurd (omega (arith, o))
start_past (c ∷ cs) o =
    elim (cases_Bool (is_name_byte c)) [
      | inl h ↦ rw (h, one_more (prefix_len is_name_byte cs)) (after_at cs)
      | inr h ↦ let none : 0 < 0 = (rw h at o) in absurd (omega (arith, none))
    ]

-- a name of n bytes at the start, by what follows it
pub unnamed : (cs : List ℕ) (n : ℕ) → n ≡ prefix_len is_name_byte cs → n ≡ 0 → None ≡ name_len cs
unnamed cs n e z = rw (start_none cs (sym e ∙ z)) refl

pub unstarted : (cs : List ℕ) (n : ℕ) → n ≡ prefix_len is_name_byte cs → 0 < n → is_past_blanks_colon (take (length cs - n) (drop n cs)) ≡ false → None ≡ name_len cs
unstarted cs n e o h =
    let past : is_past_blanks_colon (drop (prefix_len is_name_byte cs) cs) ≡ false = ap (λ k. is_past_blanks_colon (drop k cs)) (sym e) ∙ (ap is_past_blanks_colon (sym (take_rest cs n)) ∙ h) in
    rw (start_past cs (omega (arith, e, o)), past) refl

pub named : (cs : List ℕ) (n : ℕ) → n ≡ prefix_len is_name_byte cs → 0 < n → is_past_blanks_colon (take (length cs - n) (drop n cs)) ≡ true → Some n ≡ name_len cs
named cs n e o h =
    let past : is_past_blanks_colon (drop (prefix_len is_name_byte cs) cs) ≡ true = ap (λ k. is_past_blanks_colon (drop k cs)) (sym e) ∙ (ap is_past_blanks_colon (sym (take_rest cs n)) ∙ h) in
    rw (start_past cs (omega (arith, e, o)), past) (ap Some e)
