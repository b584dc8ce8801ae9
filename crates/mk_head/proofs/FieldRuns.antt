-- One field after another: a field start, its continuations, and the fields after them.
use Rattle.std.proofs.Common.{◌≡◌, ◌==◌, ◌||◌, ◌+◌, ◌≤◌, ◌<◌, ℕ, suc, zero, Bool, true, false, Option, None, Some, List, [], ◌∷◌, ◌++◌, refl, ap, sym, ◌∙◌, inl, inr, length, take, drop, get_or, arith, length-append, length-drop}
use Rattle.std.proofs.lemmas.Bool.{cases_Bool, eqb-true}
use Rattle.mk_line.specs.Ascii.{is_blank, is_name_byte}
use Rattle.mk_line.specs.Lines.{TextLine, cut, text_of, printed_line}
use Rattle.mk_line.specs.Kinds.{is_field_start, is_continuation, name_len}
use Rattle.std.specs.List.{prefix_len}
use Rattle.std.proofs.lemmas.List.{take_at, length-take-le}
use Rattle.mk_line.proofs.Cuts.{text_append, text_apart, cut_rest, append_nil, length_cut}
use Rattle.mk_head.specs.Split.{is_start, is_more, belongs, fields_from, rest_from}
use Rattle.mk_head.specs.Fields.{continuations, name_of, field_text, fields_of, counted}
pub use Rattle.mk_head.specs.Fields.{after_more}

pub more_after : (ls : List TextLine) → continuations ls ++ after_more ls ≡ ls
more_after [] = refl
more_after (l ∷ ls) =
    elim (cases_Bool (is_more l)) [
      | inl h ↦ rw h (ap (λ xs. l ∷ xs) (more_after ls))
      | inr h ↦ rw h refl
    ]

-- a blank is no byte of a name
blank_name : (c : ℕ) → is_blank c ≡ true → is_name_byte c ≡ false
blank_name c h =
    elim (cases_Bool (c == 32)) [
      | inl e ↦ rw (eqb-true c 32 e) refl
      | inr f ↦ let tab : (c == 9) ≡ true = (rw f at h) in rw (eqb-true c 9 tab) refl
    ]

-- so a continuation is no field start
more_bytes : (cs : List ℕ) → is_continuation cs ≡ true → is_field_start cs ≡ false
more_bytes [] h = refl
more_bytes (c ∷ cs) h = rw (blank_name c h) refl

pub more_start : (l : TextLine) → is_more l ≡ true → is_start l ≡ false
more_start l h = more_bytes l.content h

or_true : (a : Bool) → (a || true) ≡ true
or_true true = refl
or_true false = refl

-- inside a field, the fields are its continuations and the fields after them
pub fields_inside : (ls : List TextLine) → fields_from true ls ≡ continuations ls ++ fields_from false (after_more ls)
fields_inside [] = refl
fields_inside (l ∷ ls) =
    elim (cases_Bool (is_more l)) [
      | inl h ↦ rw (h, or_true (is_start l)) (ap (λ xs. l ∷ xs) (fields_inside ls))
      | inr h ↦ rw h refl
    ]

pub rest_inside : (ls : List TextLine) → rest_from true ls ≡ rest_from false (after_more ls)
rest_inside [] = refl
rest_inside (l ∷ ls) =
    elim (cases_Bool (is_more l)) [
      | inl h ↦ rw (h, or_true (is_start l)) (rest_inside ls)
      | inr h ↦ rw h refl
    ]

-- the continuations of a field are no fields of their own
fields_more : (ls fs : List TextLine) → fields_of (continuations ls ++ fs) ≡ fields_of fs
fields_more [] fs = refl
fields_more (l ∷ ls) fs =
    elim (cases_Bool (is_more l)) [
      | inl h ↦ rw (h, more_start l h) (fields_more ls fs)
      | inr h ↦ rw h refl
    ]

continuations_inside : (ls : List TextLine) → continuations (fields_from true ls) ≡ continuations ls
continuations_inside [] = refl
continuations_inside (l ∷ ls) =
    elim (cases_Bool (is_more l)) [
      | inl h ↦ rw (h, or_true (is_start l)) (rw h (ap (λ xs. l ∷ xs) (continuations_inside ls)))
      | inr h ↦
          elim (cases_Bool (is_start l)) [
            | inl t ↦ rw (h, t) (rw h refl)
            | inr f ↦ rw (h, f) refl
          ]
    ]

text_first : (l : TextLine) (ls : List TextLine) → is_start l ≡ true → fields_of (l ∷ ls) ≡ field_text l (continuations ls) ∷ fields_of ls
text_first l ls h = rw h refl

-- the field at the start, and the fields after it
pub first_fields : (l : TextLine) (ls : List TextLine) → is_start l ≡ true → fields_from false (l ∷ ls) ≡ l ∷ (continuations ls ++ fields_from false (after_more ls))
first_fields l ls h = rw h (ap (λ xs. l ∷ xs) (fields_inside ls))

pub first_rest : (l : TextLine) (ls : List TextLine) → is_start l ≡ true → rest_from false (l ∷ ls) ≡ rest_from false (after_more ls)
first_rest l ls h = rw h (rest_inside ls)

pub first_text : (l : TextLine) (ls : List TextLine) → is_start l ≡ true → fields_of (fields_from false (l ∷ ls)) ≡ field_text l (continuations ls) ∷ fields_of (fields_from false (after_more ls))
first_text l ls h =
    ap fields_of (first_fields l ls h)
    ∙ (text_first l (continuations ls ++ fields_from false (after_more ls)) h
    ∙ (ap (λ xs. field_text l xs ∷ fields_of (continuations ls ++ fields_from false (after_more ls))) (ap continuations (sym (fields_inside ls)) ∙ continuations_inside ls)
    ∙ ap (λ xs. field_text l (continuations ls) ∷ xs) (fields_more ls (fields_from false (after_more ls)))))

first_none : (l : TextLine) (ls : List TextLine) → is_start l ≡ false → fields_from false (l ∷ ls) ≡ []
first_none l ls h = rw h refl

-- what a text shows of the field at the start, n bytes long
pub record FieldInFront (text : List ℕ) (l : TextLine) (ls : List TextLine) (n : ℕ) : Type 0 where
  pub first : length (printed_line l) ≤ length text
  pub following : cut (drop (length (printed_line l)) text) ≡ ls
  pub within : n ≤ length text
  pub raw : take n text ≡ text_of (l ∷ continuations ls)
  pub rest : cut (drop n text) ≡ after_more ls

sized : (text : List ℕ) (xs ys : List TextLine) → cut text ≡ xs ++ ys → length (text_of xs) ≤ length text
sized text xs ys e = let h : length text ≡ length (text_of xs ++ text_of ys) = ap length (text_apart text xs ys e) in omega (arith, h, length-append (text_of xs) (text_of ys))

taken : (text : List ℕ) (xs ys : List TextLine) → cut text ≡ xs ++ ys → take (length (text_of xs)) text ≡ text_of xs
taken text xs ys e = ap (take (length (text_of xs))) (text_apart text xs ys e) ∙ take_at (text_of xs) (text_of ys) (length (text_of xs)) refl

one_line : (l : TextLine) → length (text_of (l ∷ [])) ≡ length (printed_line l)
one_line l = ap length (append_nil (printed_line l))

pub field_in_front : (text : List ℕ) (l : TextLine) (ls : List TextLine) (n : ℕ) → cut text ≡ l ∷ ls → n ≡ length (text_of (l ∷ continuations ls)) → FieldInFront text l ls n
field_in_front text l ls n e p =
    let q : cut text ≡ (l ∷ continuations ls) ++ after_more ls = e ∙ ap (λ xs. l ∷ xs) (sym (more_after ls)) in
    record {
      first = let h = sized text (l ∷ []) ls e in omega (arith, h, one_line l);
      following = ap (λ k. cut (drop k text)) (sym (one_line l)) ∙ cut_rest text (l ∷ []) ls e;
      within = let h = sized text (l ∷ continuations ls) (after_more ls) q in omega (arith, h, p);
      raw = ap (λ k. take k text) p ∙ taken text (l ∷ continuations ls) (after_more ls) q;
      rest = ap (λ k. cut (drop k text)) p ∙ cut_rest text (l ∷ continuations ls) (after_more ls) q;
    }

some_same : (a b : ℕ) → ◌≡◌ {A = Option ℕ} (Some a) (Some b) → b ≡ a
some_same a b e = cc

none_some : (b : ℕ) → ◌≡◌ {A = Option ℕ} None (Some b) → ⊥
none_some b e = cc

-- what a name's length tells of a line
pub started : (cs : List ℕ) (n : ℕ) → name_len cs ≡ Some n → (is_field_start cs ≡ true) × (n ≡ prefix_len is_name_byte cs)
started cs n e =
    elim (cases_Bool (is_field_start cs)) [
      | inl h ↦ (h, some_same (prefix_len is_name_byte cs) n (rw h at e))
      | inr h ↦ absurd (none_some n (rw h at e))
    ]

-- the same of a size that was added up
pub added_size : (text : List ℕ) (l : TextLine) (ls : List TextLine) (first more : ℕ) (following : List ℕ) → cut text ≡ l ∷ ls → first ≡ length (printed_line l) → following ≡ drop first text → more ≡ length (text_of (continuations (cut following))) → FieldInFront text l ls (first + more)
added_size text l ls first more following e f b m =
    let same : cut following ≡ ls = ap cut b ∙ (ap (λ k. cut (drop k text)) f ∙ (field_in_front text l ls (length (text_of (l ∷ continuations ls))) e refl).following) in
    let size : more ≡ length (text_of (continuations ls)) = m ∙ ap (λ xs. length (text_of (continuations xs))) same in
    field_in_front text l ls (first + more) e (omega (arith, f, size, length-append (printed_line l) (text_of (continuations ls))))

field_same : (l : TextLine) (ms : List TextLine) (name raw : List ℕ) → name ≡ name_of l → raw ≡ text_of (l ∷ ms) → field_text l ms ≡ record { name = name; raw = raw }
field_same l ms name raw e r = λ i. record { name = sym e i; raw = sym r i }

-- what the field at the start leaves to say of the fields
pub front_text : (text : List ℕ) (l : TextLine) (ls : List TextLine) (n : ℕ) (name raw rest : List ℕ) → cut text ≡ l ∷ ls → is_start l ≡ true → FieldInFront text l ls n → name ≡ name_of l → raw ≡ take n text → rest ≡ drop n text
    → fields_of (fields_from false (cut text)) ≡ record { name = name; raw = raw } ∷ fields_of (fields_from false (cut rest))
front_text text l ls n name raw rest e s h m r q =
    ap (λ xs. fields_of (fields_from false xs)) e
    ∙ (first_text l ls s
    ∙ (ap (λ xs. field_text l (continuations ls) ∷ fields_of (fields_from false xs)) (sym (ap cut q ∙ h.rest))
    ∙ ap (λ f. f ∷ fields_of (fields_from false (cut rest))) (field_same l (continuations ls) name raw m (r ∙ h.raw))))

pub front_rest : (text : List ℕ) (l : TextLine) (ls : List TextLine) (n : ℕ) (rest : List ℕ) → cut text ≡ l ∷ ls → is_start l ≡ true → FieldInFront text l ls n → rest ≡ drop n text → rest_from false (cut text) ≡ rest_from false (cut rest)
front_rest text l ls n rest e s h q = ap (rest_from false) e ∙ (first_rest l ls s ∙ ap (rest_from false) (sym (ap cut q ∙ h.rest)))

pub front_size : (text : List ℕ) (l : TextLine) (ls : List TextLine) (n : ℕ) (rest : List ℕ) → cut text ≡ l ∷ ls → is_start l ≡ true → FieldInFront text l ls n → rest ≡ drop n text
    → length (text_of (fields_from false (cut text))) + length rest ≡ length text + length (text_of (fields_from false (cut rest)))
front_size text l ls n rest e s h q =
    let all : text_of (fields_from false (cut text)) ≡ take n text ++ text_of (fields_from false (cut rest)) =
    ap (λ xs. text_of (fields_from false xs)) e ∙ (ap text_of (first_fields l ls s) ∙ (text_append (l ∷ continuations ls) (fields_from false (after_more ls))
    ∙ (ap (λ xs. xs ++ text_of (fields_from false (after_more ls))) (sym h.raw) ∙ ap (λ xs. take n text ++ text_of (fields_from false xs)) (sym (ap cut q ∙ h.rest))))) in
    let size : length (text_of (fields_from false (cut text))) ≡ length (take n text ++ text_of (fields_from false (cut rest))) = ap length all in
    let left : length rest ≡ length (drop n text) = ap length q in
    omega (arith, size, left, length-append (take n text) (text_of (fields_from false (cut rest))), length-take-le n text h.within, length-drop n text, h.within)

-- counting from 1 up to an element, and past them
pub counted_at : {X : Type 0} (xs : List X) (k : ℕ) (d : X) → k < length xs → counted (suc k) xs ≡ Some (get_or xs k d)
counted_at [] k d h = let none : k < 0 = h in absurd (omega arith)
counted_at (x ∷ xs) zero d h = refl
counted_at (x ∷ xs) (suc k) d h = counted_at xs k d (omega (arith, h))

pub counted_past : {X : Type 0} (xs : List X) (k : ℕ) → length xs ≤ k → counted (suc k) xs ≡ None
counted_past [] k h = refl
counted_past (x ∷ xs) zero h = absurd (omega (arith, h))
counted_past (x ∷ xs) (suc k) h = counted_past xs k (omega (arith, h))

pub counted_zero : {X : Type 0} (xs : List X) → counted 0 xs ≡ None
counted_zero [] = refl
counted_zero (x ∷ xs) = refl

-- a text has no more fields than bytes
length_fields : (ls : List TextLine) → length (fields_of ls) ≤ length ls
length_fields [] = omega arith
length_fields (l ∷ ls) =
    elim (cases_Bool (is_start l)) [
      | inl h ↦ rw h (omega (arith, length_fields ls))
      | inr h ↦ rw h (omega (arith, length_fields ls))
    ]

length_run : (inside : Bool) (ls : List TextLine) → length (fields_from inside ls) ≤ length ls
length_run inside [] = omega arith
length_run inside (l ∷ ls) =
    elim (cases_Bool (belongs inside l)) [
      | inl h ↦ rw h (omega (arith, length_run true ls))
      | inr h ↦ rw h (omega arith)
    ]

pub few_fields : (text : List ℕ) → length (fields_of (fields_from false (cut text))) ≤ length text
few_fields text = omega (arith, length_fields (fields_from false (cut text)), length_run false (cut text), length_cut text)
