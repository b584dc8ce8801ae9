-- Of more boundaries than there are lines one is free.
use Rattle.std.proofs.Common.{◌≡◌, ◌≢◌, ◌≤◌, ◌<◌, ◌+◌, ◌^◌, ◌&&◌, ◌++◌, if◌then◌else◌, ℕ, zero, suc, Bool, true, false, not, List, [], ◌∷◌, refl, ap, sym, ◌∙◌, subst, inl, inr, append_assoc, decimal, drop, filter, get_or, length, length-append, nat_eq, arith}
use Rattle.std.proofs.lemmas.Bool.{cases_Bool, ne_eqb}
use Rattle.std.proofs.lemmas.Bool.Decides.{Decides-eqb, eqb_tells}
use Rattle.std.proofs.lemmas.Fmt.{decimal_injective}
use Rattle.std.proofs.lemmas.List.{append_cancel_left}
use Rattle.std.proofs.lemmas.List.Folds.{list_all-append}
use Rattle.std.proofs.lemmas.Slice.Eq.{starts_is}
use Rattle.std.specs.Char.{is_ascii_digit}
use Rattle.std.specs.List.{flat_map, list_all, starts_with}
use Rattle.mk_line.specs.Lines.{TextLine, cut}
use Rattle.mk_line.specs.Marks.{dashed}
use Rattle.mk_splice.specs.Grammar.{AreDigits}
use Rattle.mk_build.specs.Building.{Attached}
use Rattle.mk_build.specs.Forwards.{Forwarded, is_clear}
use Rattle.mk_pack.specs.FreeBoundary.{are_clear, first_boundary, free_boundary, last_number, line_count, number_mark}
use Rattle.mk_pack.proofs.FreeBoundaries.{decimal_digits, free_found, free_from, last_is, mark_is}

-- digits before an underscore are told from what follows
no_digit : is_ascii_digit 95 ≡ true → ⊥
no_digit h = cc

same_digits : (ds es r s : List ℕ) → AreDigits (length ds) ds → AreDigits (length es) es → ds ++ 95 ∷ r ≡ es ++ 95 ∷ s → ds ≡ es
same_digits [] [] r s h k e = refl
same_digits [] (c ∷ es) r s h k e = absurd (no_digit (subst (λ b. is_ascii_digit b ≡ true) (sym (ap (λ xs. get_or xs 0 0) e)) k.0))
same_digits (d ∷ ds) [] r s h k e = absurd (no_digit (subst (λ b. is_ascii_digit b ≡ true) (ap (λ xs. get_or xs 0 0) e) h.0))
same_digits (d ∷ ds) (c ∷ es) r s h k e = let rest = same_digits ds es r s h.1 k.1 (ap (drop 1) e) in λ i. ap (λ xs. get_or xs 0 0) e i ∷ rest i

-- a line begins with a boundary of a number
abbrev pub passes : List ℕ → ℕ → TextLine → Bool
passes first n l = not (starts_with nat_eq l.content (dashed (first ++ number_mark n)))

-- a number that counts
abbrev pub Counts : ℕ → Type 0
Counts n = (0 < n) × (n < 2 ^ 64)

not_false : (t : Bool) → not t ≡ false → t ≡ true
not_false true e = refl
not_false false e = absurd cc

parted_so : (first : List ℕ) (n : ℕ) (content : List ℕ) → Counts n → starts_with nat_eq content (dashed (first ++ number_mark n)) ≡ true
    → (rest : List ℕ) × (content ≡ (45 ∷ 45 ∷ first) ++ (95 ∷ (decimal n ++ 95 ∷ rest)))
parted_so first n content h t =
    let p = dashed (first ++ number_mark n) in
    let rest = drop (length p) content in
    let is = (starts_is Decides-eqb content p (starts_with nat_eq content p) refl).0 t in
    let mark = mark_is n (ne_eqb n 0 (λ e. absurd (omega (arith, e, h.0)))) in (
      rest,
      is ∙ (ap (λ m. (45 ∷ 45 ∷ (first ++ m)) ++ rest) mark ∙ (append_assoc (45 ∷ 45 ∷ first) (95 ∷ (decimal n ++ 95 ∷ [])) rest ∙ ap (λ xs. (45 ∷ 45 ∷ first) ++ (95 ∷ xs)) (append_assoc (decimal n) (95 ∷ []) rest))),
    )

-- no line begins with two of them
once : (first : List ℕ) (j k : ℕ) (l : TextLine) → Counts j → Counts k → passes first j l ≡ false → passes first k l ≡ false → j ≡ k
once first j k l p q f g =
    let x = parted_so first j l.content p (not_false _ f) in
    let y = parted_so first k l.content q (not_false _ g) in
    let same = append_cancel_left (45 ∷ 45 ∷ first) (95 ∷ (decimal j ++ 95 ∷ x.0)) (95 ∷ (decimal k ++ 95 ∷ y.0)) (sym x.1 ∙ y.1) in
    decimal_injective j k p.1 q.1 (same_digits (decimal j) (decimal k) x.0 y.0 (decimal_digits j p.1) (decimal_digits k q.1) (ap (drop 1) same))

-- a number is none of these
abbrev NotIn : ℕ → List ℕ → Type 0
NotIn n [] = Unit {0}
NotIn n (k ∷ ks) = (n ≢ k) × NotIn n ks

-- numbers that count, each with a property, and no two the same
abbrev AreTried : (ℕ → Type 0) → List ℕ → Type 0
AreTried P [] = Unit {0}
AreTried P (k ∷ ks) = Counts k × P k × NotIn k ks × AreTried P ks

-- those for which a line passes
abbrev left : List ℕ → TextLine → List ℕ → List ℕ
left first l ks = filter (λ k. passes first k l) ks

not_left : (first : List ℕ) (l : TextLine) (n : ℕ) (ks : List ℕ) → NotIn n ks → NotIn n (left first l ks)
not_left first l n [] h = tt
not_left first l n (k ∷ ks) h = elim (cases_Bool (passes first k l)) [
  | inl t ↦ rw t (h.0, not_left first l n ks h.1)
  | inr f ↦ rw f (not_left first l n ks h.1)
]

tried_left : (first : List ℕ) (l : TextLine) (P : ℕ → Type 0) (ks : List ℕ) → AreTried P ks → AreTried (λ k. P k × (passes first k l ≡ true)) (left first l ks)
tried_left first l P [] h = tt
tried_left first l P (k ∷ ks) h = elim (cases_Bool (passes first k l)) [
  | inl t ↦ rw t (h.0, (h.1, t), not_left first l k ks h.2, tried_left first l P ks h.3)
  | inr f ↦ rw f (tried_left first l P ks h.3)
]

-- after one that doesn't pass all do
all_left : (first : List ℕ) (l : TextLine) (P : ℕ → Type 0) (n : ℕ) (ks : List ℕ) → Counts n → passes first n l ≡ false → NotIn n ks → AreTried P ks → length (left first l ks) ≡ length ks
all_left first l P n [] c f h k = refl
all_left first l P n (m ∷ ks) c f h k = elim (cases_Bool (passes first m l)) [
  | inl t ↦ rw t (ap suc (all_left first l P n ks c f h.1 k.3))
  | inr g ↦ absurd (h.0 (once first n m l c k.0 f g))
]

-- at most one is lost by a line
most_left : (first : List ℕ) (l : TextLine) (P : ℕ → Type 0) (ks : List ℕ) → AreTried P ks → length ks ≤ suc (length (left first l ks))
most_left first l P [] h = omega arith
most_left first l P (k ∷ ks) h = elim (cases_Bool (passes first k l)) [
  | inl t ↦ rw t (omega (arith, most_left first l P ks h.3))
  | inr f ↦ rw f (omega (arith, all_left first l P k ks h.0 f h.2 h.3))
]

-- more numbers than lines: all lines pass for one of them
one_passes : (first : List ℕ) (ls : List TextLine) (P : ℕ → Type 0) (ks : List ℕ) → AreTried P ks → length ls < length ks → (k : ℕ) × P k × (list_all (passes first k) ls ≡ true)
one_passes first [] P [] h less = absurd (omega (arith, less))
one_passes first [] P (k ∷ ks) h less = (k, h.1, refl)
one_passes first (l ∷ ls) P ks h less =
    let r = one_passes first ls (λ k. P k × (passes first k l ≡ true)) (left first l ks) (tried_left first l P ks h) (omega (arith, less, most_left first l P ks h)) in
    (r.0, r.1.0, rw (r.1.1, r.2) refl)

-- the numbers from one on
abbrev upto : ℕ → ℕ → List ℕ
upto n zero = []
upto n (suc more) = n ∷ upto (suc n) more

upto_length : (n more : ℕ) → length (upto n more) ≡ more
upto_length n zero = refl
upto_length n (suc more) = ap suc (upto_length (suc n) more)

upto_after : (n m more : ℕ) → n < m → NotIn n (upto m more)
upto_after n m zero h = tt
upto_after n m (suc more) h = ((λ e. absurd (omega (arith, e, h))), upto_after n (suc m) more (omega (arith, h)))

upto_tried : (last n more : ℕ) → 0 < n → n + more ≤ suc last → last < 2 ^ 64 → AreTried (λ k. k ≤ last) (upto n more)
upto_tried last n zero p h small = tt
upto_tried last n (suc more) p h small =
    ((p, omega (arith, h, small)), omega (arith, h), upto_after n (suc n) more (omega arith), upto_tried last (suc n) more (omega arith) (omega (arith, h)) small)

-- the lines of all messages
abbrev all_lines : List Forwarded → List TextLine
all_lines messages = flat_map (λ f. cut f.text) messages

lines_counted : (messages : List Forwarded) → length (all_lines messages) ≡ line_count messages
lines_counted [] = refl
lines_counted (f ∷ messages) = length-append (cut f.text) (all_lines messages) ∙ ap (λ n. length (cut f.text) + n) (lines_counted messages)

lines_clear : (first : List ℕ) (k : ℕ) (messages : List Forwarded) → list_all (passes first k) (all_lines messages) ≡ are_clear (first ++ number_mark k) messages
lines_clear first k [] = refl
lines_clear first k (f ∷ messages) = list_all-append (passes first k) (cut f.text) (all_lines messages) ∙ ap (λ t. is_clear (first ++ number_mark k) f.text && t) (lines_clear first k messages)

two_of : (u : Bool) → u ≡ true → u ≡ false → ⊥
two_of true p q = cc
two_of false p q = cc

past : (n k : ℕ) → n ≤ k → n ≢ k → suc n ≤ k
past n k h ne = elim (eqb_tells n k) [
  | inl s ↦ absurd (ne s.1)
  | inr s ↦ omega (arith, h, s.1)
]

clear_by : (messages : List Forwarded) (u : Bool) (x y : List ℕ) → (u ≡ true → are_clear x messages ≡ true) → (u ≡ false → are_clear y messages ≡ true) → are_clear (if u then x else y) messages ≡ true
clear_by messages true x y p q = p refl
clear_by messages false x y p q = q refl

-- where one is free, the one that is found is
found_free : (first : List ℕ) (messages : List Forwarded) (more n k : ℕ) → n ≤ k → k ≤ n + more → are_clear (first ++ number_mark k) messages ≡ true → are_clear (free_from first messages more n) messages ≡ true
found_free first messages zero n k h l t = let e : k ≡ n = omega (arith, h, l) in subst (λ m. are_clear (first ++ number_mark m) messages ≡ true) e t
found_free first messages (suc more) n k h l t =
    clear_by messages (are_clear (first ++ number_mark n) messages) (first ++ number_mark n) (free_from first messages more (suc n)) (λ u. u)
    (λ f.
    found_free first messages more (suc n) k (past n k h (λ e. two_of (are_clear (first ++ number_mark n) messages) (subst (λ m. are_clear (first ++ number_mark m) messages ≡ true) (sym e) t) f)) (omega (arith, l)) t)

pub free_is_free : (fields : List (List ℕ)) (parts : List Attached) (messages : List Forwarded) → line_count messages < last_number → are_clear (free_boundary fields parts messages) messages ≡ true
free_is_free fields parts messages less =
    let first = first_boundary fields parts messages in
    let count = line_count messages in
    let ks = upto 1 (suc count) in
    let r = one_passes first (all_lines messages) (λ k. k ≤ suc count) ks (upto_tried (suc count) 1 (suc count) (omega arith) (omega arith) (omega (arith, less, last_is))) (omega (arith, lines_counted messages, upto_length 1 (suc count))) in
    subst (λ b. are_clear b messages ≡ true) (free_found fields parts messages) (found_free first messages last_number 0 r.0 (omega arith) (omega (arith, r.1, less)) (sym (lines_clear first r.0 messages) ∙ r.2))
