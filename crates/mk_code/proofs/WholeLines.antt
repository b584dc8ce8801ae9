-- A logical line that stands for itself on one output line.
use Rattle.std.proofs.Common.{◌≡◌, ◌==◌, ◌<◌, ◌≤◌, ◌+◌, ◌-◌, ℕ, suc, zero, true, false, List, [], ◌∷◌, ◌++◌, refl, ap, sym, ◌∙◌, length, length-append, get_or, arith, inl, inr}
use Rattle.std.proofs.lemmas.Bool.{cases_Bool, and_parts, le-leb, ne_eqb}
use Rattle.std.specs.Prelude.{nat_le}
use Rattle.std.specs.List.{prefix_len, list_all}
use Rattle.mk_line.specs.Ascii.{is_blank}
use Rattle.mk_line.specs.Lines.{is_nil}
use Rattle.mk_code.specs.QuotedPrintable.{is_guarded, is_quiet, packed}
use Rattle.mk_code.proofs.Packing.{packed_run}

all_quiet : (xs : List ℕ) → prefix_len is_quiet xs ≡ length xs → list_all is_quiet xs ≡ true
all_quiet [] e = refl
all_quiet (x ∷ xs) e = elim (cases_Bool (is_quiet x)) [
  | inl h ↦ let more : 1 + prefix_len is_quiet xs ≡ suc (length xs) = (rw h at e) in rw h (all_quiet xs (omega (arith, more)))
  | inr h ↦ let none : 0 ≡ suc (length xs) = (rw h at e) in absurd (omega (arith, none))
]

-- bytes as a run and the byte after it
parts_of : (x : ℕ) (xs : List ℕ) → (run : List ℕ) × (z : ℕ) × (x ∷ xs ≡ run ++ z ∷ [])
parts_of x [] = ([], x, refl)
parts_of x (y ∷ ys) = let p = parts_of y ys in (x ∷ p.0, p.1, ap (λ zs. x ∷ zs) p.2)

last_of : (run : List ℕ) (z : ℕ) (n : ℕ) → n ≡ length run → get_or (run ++ z ∷ []) n 0 ≡ z
last_of [] z zero e = refl
last_of [] z (suc n) e = absurd (omega (arith, e))
last_of (x ∷ run) z zero e = absurd (omega (arith, e))
last_of (x ∷ run) z (suc n) e = last_of run z n (omega (arith, e))

all_parts : (run : List ℕ) (z : ℕ) → list_all is_quiet (run ++ z ∷ []) ≡ true → (list_all is_quiet run ≡ true) × (is_quiet z ≡ true)
all_parts [] z h = (refl, (and_parts (is_quiet z) true h).0)
all_parts (x ∷ run) z h =
    let both = and_parts (is_quiet x) (list_all is_quiet (run ++ z ∷ [])) h in
    let rest = all_parts run z both.1 in
    (rw (both.0, rest.0) refl, rest.1)

first_plain : (eol : List ℕ) (x : ℕ) (more : List ℕ) → is_quiet x ≡ true → is_guarded x ≡ false → is_nil more ≡ false → packed eol 0 (x ∷ more) ≡ x ∷ packed eol 1 more
first_plain eol x more q g n = rw (q, g, n) refl

last_plain : (eol : List ℕ) (column z : ℕ) → is_quiet z ≡ true → is_blank z ≡ false → 0 < column → column + 1 ≤ 76 → packed eol column (z ∷ []) ≡ z ∷ []
last_plain eol column z q b o l =
    let following : (column == 0) ≡ false = ne_eqb column 0 (λ e. omega arith) in
    let fits : nat_le (column + 1) 76 ≡ true = le-leb (column + 1) 76 l in
    rw (q, following, b) (rw fits refl)

nil_last : (run : List ℕ) (z : ℕ) → is_nil (run ++ z ∷ []) ≡ false
nil_last [] z = refl
nil_last (x ∷ run) z = refl

-- quiet bytes that fit on a line, of which the first is free and the last is no blank
whole : (eol run : List ℕ) (x z : ℕ) → is_quiet x ≡ true → is_guarded x ≡ false → list_all is_quiet run ≡ true → is_quiet z ≡ true → is_blank z ≡ false → length run ≤ 74 → packed eol 0 (x ∷ (run ++ z ∷ [])) ≡ x ∷ (run ++ z ∷ [])
whole eol run x z qx g qr qz b l =
    first_plain eol x (run ++ z ∷ []) qx g (nil_last run z)
    ∙ ap (λ xs. x ∷ xs) (packed_run eol run (z ∷ []) 1 (1 + length run) qr refl (omega arith) refl (omega (arith, l))
    ∙ ap (λ xs. run ++ xs) (last_plain eol (1 + length run) z qz b (omega arith) (omega (arith, l))))

pub stands_whole : (line : List ℕ) → 2 ≤ length line → length line ≤ 76 → prefix_len is_quiet line ≡ length line → is_guarded (get_or line 0 0) ≡ false → is_blank (get_or line (length line - 1) 0) ≡ false → (eol : List ℕ) → packed eol 0 line ≡ line
stands_whole [] few many q g b eol = absurd (omega (arith, few))
stands_whole (x ∷ []) few many q g b eol = absurd (omega (arith, few))
stands_whole (x ∷ y ∷ ys) few many q g b eol =
    let p = parts_of y ys in
    let quiet = and_parts (is_quiet x) (list_all is_quiet (y ∷ ys)) (all_quiet (x ∷ y ∷ ys) q) in
    let both = all_parts p.0 p.1 (sym (ap (list_all is_quiet) p.2) ∙ quiet.1) in
    let size : length (y ∷ ys) ≡ length p.0 + 1 = ap length p.2 ∙ length-append p.0 (p.1 ∷ []) in
    let last : length (x ∷ y ∷ ys) - 1 ≡ suc (length p.0) = omega (arith, size) in
    let here : get_or (x ∷ y ∷ ys) (length (x ∷ y ∷ ys) - 1) 0 ≡ p.1 =
    ap (λ k. get_or (x ∷ y ∷ ys) k 0) last ∙ (ap (λ xs. get_or (x ∷ xs) (suc (length p.0)) 0) p.2 ∙ last_of p.0 p.1 (length p.0) refl) in
    ap (λ xs. packed eol 0 (x ∷ xs)) p.2
    ∙ (whole eol p.0 x p.1 quiet.0 g both.0 both.1 (sym (ap is_blank here) ∙ b) (omega (arith, size, many))
    ∙ sym (ap (λ xs. x ∷ xs) p.2))
