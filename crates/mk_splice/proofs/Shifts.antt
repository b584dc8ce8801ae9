-- Replacing bytes in the part of a list from a start on.
use Rattle.std.proofs.Common.{◌≡◌, ◌+◌, ◌-◌, ◌≤◌, ◌++◌, ℕ, List, ap, sym, ◌∙◌, length, take, drop, arith, append_assoc, length-drop}
use Rattle.std.proofs.lemmas.List.{drop_at, drop-drop, length-take-le}
use Rattle.std.proofs.lemmas.List.Edits.{take-paste, drop-paste}
use Rattle.std.proofs.Math.Seq.{take-add}
use lib.Seq.{paste}
use Rattle.std.specs.List.{copy_within}
use Rattle.mk_splice.specs.Splices.{spliced}

-- what lies before the start doesn't count
drop_front : (start : ℕ) (x part rest : List ℕ) → start ≤ length x → drop start ((take start x ++ part) ++ rest) ≡ part ++ rest
drop_front start x part rest h =
    ap (drop start) (append_assoc (take start x) part rest) ∙ drop_at (take start x) (part ++ rest) start (length-take-le start x h)

drop_sum : (start n : ℕ) (x : List ℕ) → drop (start + n) x ≡ drop n (drop start x)
drop_sum start n x = sym (drop-drop n start x)

-- how many bytes are copied, and where the bytes begin that stay
copied_size : (start place : ℕ) → start + place - start ≡ place
copied_size start place = omega arith

same_end : (start place count to size : ℕ) → to + size ≡ start + count → to + place + size ≡ start + (place + count)
same_end start place count to size e = omega arith

-- bytes replaced at a place counted from the beginning
pub spliced_after : (start place count : ℕ) (text x : List ℕ) → start + place + count ≤ length x → drop start (spliced (start + place) count text x) ≡ spliced place count text (drop start x)
spliced_after start place count text x h =
    ap (λ xs. drop start (xs ++ (text ++ drop (start + place + count) x))) (take-add start place x)
    ∙ (drop_front start x (take place (drop start x)) (text ++ drop (start + place + count) x) (omega arith)
    ∙ ap (λ xs. take place (drop start x) ++ (text ++ xs)) (ap (λ n. drop n x) (omega arith) ∙ drop_sum start (place + count) x))

-- what stands before the place is copied to where the part begins then, and the bytes are written after it
pub spliced_before : (start place count to : ℕ) (text x : List ℕ) → start + place + count ≤ length x → to + length text ≡ start + count
    → drop to (spliced (to + place) (length text) text (copy_within x start (start + place) to)) ≡ spliced place count text (drop start x)
spliced_before start place count to text x h e =
    let y : List ℕ = paste x to (drop start x) place in
    let same : copy_within x start (start + place) to ≡ y = ap (paste x to (drop start x)) (copied_size start place) in
    let within : place ≤ length (drop start x) = omega (arith, length-drop start x) in
    let room : to ≤ length x = omega arith in
    let after : drop (to + place + length text) y ≡ drop (place + count) (drop start x) =
    drop_sum (to + place) (length text) y
    ∙ (ap (drop (length text)) (drop-paste x to (drop start x) place room within)
    ∙ (sym (drop_sum (to + place) (length text) x) ∙ (ap (λ n. drop n x) (same_end start place count to (length text) e) ∙ drop_sum start (place + count) x))) in
    ap (λ xs. drop to (spliced (to + place) (length text) text xs)) same
    ∙ (ap (λ xs. drop to (xs ++ (text ++ drop (to + place + length text) y))) (take-paste x to (drop start x) place room within)
    ∙ (drop_front to x (take place (drop start x)) (text ++ drop (to + place + length text) y) room
    ∙ ap (λ xs. take place (drop start x) ++ (text ++ xs)) after))
