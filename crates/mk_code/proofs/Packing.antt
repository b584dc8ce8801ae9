-- The forms of a logical line on output lines.
use Rattle.std.proofs.Common.{◌≡◌, ◌==◌, ◌<◌, ◌≤◌, ◌+◌, ◌-◌, ℕ, suc, zero, true, false, List, [], ◌∷◌, ◌++◌, refl, ap, sym, ◌∙◌, length, take, drop, arith, inl, inr, append_assoc, zero-add, add-zero, min, length-drop, length-take}
use Rattle.std.specs.Prelude.{nat_le}
use Rattle.std.proofs.lemmas.Bool.{ne_eqb, cases_Bool, cases_lt, and_parts, lt-leb, le-leb}
use Rattle.std.proofs.lemmas.List.{take-append-drop, length-take-le}
use Rattle.std.specs.List.{prefix_len, list_all, join_by}
use Rattle.mk_line.specs.declared.cutting.Ending.{Ending}
use Rattle.mk_line.specs.Lines.{is_nil, ending_bytes}
use Rattle.mk_code.specs.QuotedPrintable.{form, limit, packed, is_quiet, logical_lines, qp_encoded}
use Rattle.mk_code.proofs.LogicalLines.{joined_next, logical_some}

-- a form that doesn't fit comes after a soft break
pub broken : (eol : List ℕ) (column byte : ℕ) (more out out1 out2 : List ℕ) (width most : ℕ) → width ≡ length (form column byte more) → most ≡ limit more → most < column + width → out1 ≡ out ++ 61 ∷ [] → out2 ≡ out1 ++ eol
    → out2 ++ (form 0 byte more ++ packed eol (0 + length (form 0 byte more)) more) ≡ out ++ packed eol column (byte ∷ more)
broken eol column byte more out out1 out2 width most w m l p q =
    let tight : nat_le (column + length (form column byte more)) (limit more) ≡ false = lt-leb (column + length (form column byte more)) (limit more) (omega (arith, w, m, l)) in
    rw (tight, zero-add (length (form 0 byte more)), q, p) (
    append_assoc (out ++ 61 ∷ []) eol (form 0 byte more ++ packed eol (length (form 0 byte more)) more)
    ∙ append_assoc out (61 ∷ []) (eol ++ (form 0 byte more ++ packed eol (length (form 0 byte more)) more)))

nil_append : (xs ys : List ℕ) → is_nil ys ≡ false → is_nil (xs ++ ys) ≡ false
nil_append [] ys h = h
nil_append (x ∷ xs) ys h = refl

-- a quiet byte after the first column that isn't the last of its line stands for itself
quiet_form : (column byte : ℕ) (more : List ℕ) → is_quiet byte ≡ true → 0 < column → is_nil more ≡ false → form column byte more ≡ byte ∷ []
quiet_form column byte more q o n =
    let following : (column == 0) ≡ false = ne_eqb column 0 (λ e. omega arith) in
    rw (q, following, n) refl

packed_one : (eol : List ℕ) (column byte : ℕ) (more : List ℕ) → is_quiet byte ≡ true → 0 < column → column + 1 ≤ 75 → is_nil more ≡ false → packed eol column (byte ∷ more) ≡ byte ∷ packed eol (column + 1) more
packed_one eol column byte more q o l n =
    let wide : nat_le (column + 1) 75 ≡ true = le-leb (column + 1) 75 l in
    rw (quiet_form column byte more q o n, n, wide) refl

-- a run of such bytes is copied
pub packed_run : (eol run rest : List ℕ) (column next : ℕ) → list_all is_quiet run ≡ true → is_nil rest ≡ false → 0 < column → next ≡ column + length run → next ≤ 75 → packed eol column (run ++ rest) ≡ run ++ packed eol next rest
packed_run eol [] rest column next q n o e l = ap (λ k. packed eol k rest) (let same : column ≡ next = omega arith in same)
packed_run eol (x ∷ xs) rest column next q n o e l =
    let both = and_parts (is_quiet x) (list_all is_quiet xs) q in
    packed_one eol column x (xs ++ rest) both.0 o (omega arith) (nil_append xs rest n)
    ∙ ap (λ ys. x ∷ ys) (packed_run eol xs rest (column + 1) next both.1 n (omega arith) (omega arith) l)

front_quiet : (xs : List ℕ) (n room : ℕ) → n ≡ prefix_len is_quiet (take room xs) → list_all is_quiet (take n xs) ≡ true
front_quiet [] zero room e = refl
front_quiet [] (suc n) room e = refl
front_quiet (x ∷ xs) zero room e = refl
front_quiet (x ∷ xs) (suc n) zero e = absurd (omega (arith, e))
front_quiet (x ∷ xs) (suc n) (suc room) e =
    elim (cases_Bool (is_quiet x)) [
      | inl h ↦
          let longer : suc n ≡ 1 + prefix_len is_quiet (take room xs) = (rw h at e) in
          rw h (front_quiet xs n room (omega (arith, longer)))
      | inr h ↦ let none : suc n ≡ 0 = (rw h at e) in absurd (omega (arith, none))
    ]

nonempty : (xs : List ℕ) → 0 < length xs → is_nil xs ≡ false
nonempty [] h = absurd (omega (arith, h))
nonempty (x ∷ xs) h = refl

none_taken : (n : ℕ) (xs : List ℕ) → n ≡ 0 → take n xs ≡ []
none_taken n xs e = rw e refl

-- what is copied at once: n bytes, of which a test was made of so many
pub copied : (out out1 rest : List ℕ) (column n room : ℕ) → 0 < column → n ≡ prefix_len is_quiet (take room rest) → n ≤ length (take room rest) → room ≡ min (75 - column) (length rest - 1) → out1 ≡ out ++ take n rest
    → (eol : List ℕ) → out1 ++ packed eol (column + n) (drop n rest) ≡ out ++ packed eol column rest
copied out out1 rest column n room o e l r p eol =
    rw (p, append_assoc) (ap (λ xs. out ++ xs) (
    elim (cases_lt 0 n) [
      | inl some ↦
          let size : length (take n rest) ≡ n = length-take-le n rest (omega (arith, l, length-take room rest)) in
          sym (packed_run eol (take n rest) (drop n rest) column (column + n) (front_quiet rest n room e)
          (nonempty (drop n rest) (omega (arith, length-drop n rest, l, length-take room rest, r))) o (omega (arith, size)) (omega (arith, l, length-take room rest, r)))
          ∙ ap (packed eol column) (take-append-drop n rest)
      | inr none ↦
          let zero' : n ≡ 0 = omega arith in
          rw (zero', add-zero) refl
    ]))

-- a step of the loop over the logical lines
pub line_packed : (eol : Ending) (rest line following ending out out1 out2 : List ℕ) → logical_lines eol rest ≡ line ∷ logical_lines eol following → ending ≡ ending_bytes eol → out1 ≡ out ++ packed ending 0 line → out2 ≡ out1 ++ ending
    → out2 ++ qp_encoded eol following ≡ out ++ qp_encoded eol rest
line_packed eol rest line following ending out out1 out2 e f p q =
    let first = packed (ending_bytes eol) 0 line in
    ap (λ xs. xs ++ qp_encoded eol following) (q ∙ (ap (λ xs. out1 ++ xs) f ∙ ap (λ xs. xs ++ ending_bytes eol) (p ∙ ap (λ xs. out ++ packed xs 0 line) f)))
    ∙ (append_assoc (out ++ first) (ending_bytes eol) (qp_encoded eol following)
    ∙ (append_assoc out first (ending_bytes eol ++ qp_encoded eol following)
    ∙ ap (λ xs. out ++ xs) (
    ap (λ xs. first ++ xs) (sym (joined_next (packed (ending_bytes eol) 0) (ending_bytes eol) (logical_lines eol following) (logical_some eol following)))
    ∙ ap (join_by (packed (ending_bytes eol) 0) (ending_bytes eol)) (sym e))))
