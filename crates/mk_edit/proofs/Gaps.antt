-- Bytes moved over a gap, and others written after it.
use Rattle.std.proofs.Common.{◌≡◌, ◌+◌, ◌-◌, ◌≤◌, ◌++◌, ℕ, List, ap, sym, ◌∙◌, length, take, drop, append_assoc, arith, length-drop}
use Rattle.std.proofs.lemmas.List.{take_at, take-append-le, take-take, drop_at, drop-drop, length-take-le, take-append-drop}
use Rattle.std.proofs.lemmas.List.Edits.{drop-paste, length-paste}
use Rattle.std.proofs.Math.Seq.{take-add}
use lib.Seq.{paste}
use Rattle.std.specs.List.{copy_within}
use Rattle.mk_splice.specs.Splices.{spliced}
use Rattle.mk_splice.proofs.Gaps.{drop_later}
use Rattle.mk_splice.proofs.Shifts.{spliced_after}

-- bytes copied to where they are
pub copied_nowhere : (from count to : ℕ) (x : List ℕ) → from ≡ to → x ≡ copy_within x from (from + count) to
copied_nowhere from count to x e =
    let whole : x ≡ paste x from (drop from x) count =
    sym (take-append-drop (from + count) x) ∙ ap (λ xs. xs ++ drop (from + count) x) (take-add from count x) in
    whole ∙ (ap (λ n. paste x n (drop from x) count) e ∙ ap (paste x to (drop from x)) (omega arith))

-- what is written after moved bytes
pub written_after : (front rest count to : ℕ) (text x y z : List ℕ) → z ≡ spliced to (length text) text y → y ≡ copy_within x rest (rest + count) front → front ≤ rest → front + count ≤ to → rest + count ≤ to + length text → to + length text ≤ length x
    → drop to z ≡ text ++ drop (to + length text) x
written_after front rest count to text x y z e f order following moved within =
    let copied : y ≡ paste x front (drop rest x) count = f ∙ ap (paste x front (drop rest x)) (omega arith) in
    let before : front ≤ length x = omega arith in
    let there : count ≤ length (drop rest x) = omega (arith, length-drop rest x) in
    let long : length y ≡ length x = ap length copied ∙ length-paste x front (drop rest x) count (omega arith) there in
    let stays : drop (front + count) y ≡ drop (front + count) x = ap (drop (front + count)) copied ∙ drop-paste x front (drop rest x) count before there in
    ap (drop to) e
    ∙ (drop_at (take to y) (text ++ drop (to + length text) y) to (length-take-le to y (omega arith))
    ∙ ap (λ xs. text ++ xs) (drop_later (front + count) (to + length text) y x (omega arith) stays))

-- the text then
pub gap_spliced : (front from place count rest to : ℕ) (text y z f r : List ℕ) → f ≡ take front y → r ≡ drop rest y → length f ≡ front → place ≡ front + from → to + length text ≡ rest + from + count
    → take (front + from) z ≡ take front y ++ take from (drop rest y) → drop to z ≡ text ++ drop (to + length text) y → take place z ++ drop to z ≡ spliced place count text (f ++ r)
gap_spliced front from place count rest to text y z f r first second long at end before following =
    let whole = f ++ r in
    let seam : drop front whole ≡ r = drop_at f r front long in
    let taken : take place whole ≡ take front y ++ take from (drop rest y) =
    ap (λ n. take n whole) at ∙ (take-add front from whole ∙ (ap (λ xs. xs ++ take from (drop front whole)) (take_at f r front long ∙ first) ∙ ap (λ xs. take front y ++ take from xs) (seam ∙ second))) in
    let left : drop (place + count) whole ≡ drop (to + length text) y =
    ap (λ n. drop n whole) (omega (arith, at)) ∙ (sym (drop-drop (from + count) front whole) ∙ (ap (drop (from + count)) (seam ∙ second) ∙ (drop-drop (from + count) rest y ∙ ap (λ n. drop n y) (omega (arith, end))))) in
    ap (λ xs. xs ++ drop to z) (ap (λ n. take n z) at ∙ (before ∙ sym taken))
    ∙ ap (λ xs. take place whole ++ xs) (following ∙ ap (λ xs. text ++ xs) (sym left))

-- bytes replaced after the gap, which stays
pub gap_tail : (front from place count rest : ℕ) (text x z f r : List ℕ) → z ≡ spliced (rest + from) count text x → front ≤ rest → rest + from + count ≤ length x → f ≡ take front x → r ≡ drop rest x → length f ≡ front → place ≡ front + from
    → take front z ++ drop rest z ≡ spliced place count text (f ++ r)
gap_tail front from place count rest text x z f r e order within first second long at =
    let whole = f ++ r in
    let tail = text ++ drop (rest + from + count) x in
    let before : take front z ≡ f =
    ap (take front) e ∙ (take-append-le front (take (rest + from) x) tail (omega (arith, length-take-le (rest + from) x (omega arith))) ∙ (take-take front (rest + from) x (omega arith) ∙ sym first)) in
    let after : drop rest z ≡ spliced from count text r = ap (drop rest) e ∙ (spliced_after rest from count text x within ∙ ap (spliced from count text) (sym second)) in
    let seam : drop front whole ≡ r = drop_at f r front long in
    let taken : take place whole ≡ f ++ take from r = ap (λ n. take n whole) at ∙ (take-add front from whole ∙ (ap (λ xs. xs ++ take from (drop front whole)) (take_at f r front long) ∙ ap (λ xs. f ++ take from xs) seam)) in
    let left : drop (place + count) whole ≡ drop (from + count) r = ap (λ n. drop n whole) (omega (arith, at)) ∙ (sym (drop-drop (from + count) front whole) ∙ ap (drop (from + count)) seam) in
    ap (λ xs. xs ++ drop rest z) before
    ∙ (ap (λ xs. f ++ xs) after
    ∙ (sym (append_assoc f (take from r) (text ++ drop (from + count) r))
    ∙ (ap (λ xs. xs ++ (text ++ drop (from + count) r)) (sym taken) ∙ ap (λ xs. take place whole ++ (text ++ xs)) (sym left))))
