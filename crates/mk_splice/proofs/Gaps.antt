-- Bytes moved over a gap, and others written into it.
use Rattle.std.proofs.Common.{◌≡◌, ◌+◌, ◌-◌, ◌≤◌, ◌++◌, ℕ, List, ap, sym, ◌∙◌, length, take, drop, append_assoc, arith, length-append, length-drop}
use Rattle.std.proofs.lemmas.List.{take_at, take-append-le, take-take, drop_at, drop-drop, length-take-le, take-append-drop}
use Rattle.std.proofs.lemmas.List.Edits.{take-paste, drop-paste, length-paste}
use Rattle.std.proofs.Math.Seq.{take-add}
use lib.Seq.{paste}
use Rattle.std.specs.List.{copy_within}
use Rattle.mk_splice.specs.Splices.{spliced}
use Rattle.mk_splice.proofs.Bytes.{after_spliced}

-- what stands after the moved bytes stays
pub drop_later : (n m : ℕ) (x y : List ℕ) → n ≤ m → drop n x ≡ drop n y → drop m x ≡ drop m y
drop_later n m x y h e =
    let same : m ≡ n + (m - n) = omega arith in
    ap (λ k. drop k x) same ∙ (sym (drop-drop (m - n) n x) ∙ (ap (drop (m - n)) e ∙ (drop-drop (m - n) n y ∙ ap (λ k. drop k y) (sym same))))

-- a gap that goes back over some bytes
pub gap_back : (place count to : ℕ) (x z : List ℕ) → z ≡ copy_within x place (place + count) to → place ≤ to → to + count ≤ length x → take place z ++ drop to z ≡ take (place + count) x ++ drop (to + count) x
gap_back place count to x z f order within =
    let moved = take count (drop place x) in
    let left = drop (to + count) x in
    let whole : z ≡ take to x ++ (moved ++ left) = f ∙ (ap (paste x to (drop place x)) (omega arith) ∙ append_assoc (take to x) moved left) in
    let long : length (take to x) ≡ to = length-take-le to x (omega arith) in
    let before : take place z ≡ take place x = ap (take place) whole ∙ (take-append-le place (take to x) (moved ++ left) (omega (arith, long)) ∙ take-take place to x order) in
    ap (λ xs. xs ++ drop to z) before
    ∙ (ap (λ xs. take place x ++ xs) (ap (drop to) whole ∙ drop_at (take to x) (moved ++ left) to long)
    ∙ (sym (append_assoc (take place x) moved left) ∙ ap (λ xs. xs ++ left) (sym (take-add place count x))))

-- a gap that goes forth over some bytes
pub gap_forth : (front rest count : ℕ) (x z : List ℕ) → z ≡ copy_within x rest (rest + count) front → front ≤ rest → rest + count ≤ length x → take (front + count) z ++ drop (rest + count) z ≡ take front x ++ drop rest x
gap_forth front rest count x z f order within =
    let copied : z ≡ paste x front (drop rest x) count = f ∙ ap (paste x front (drop rest x)) (omega arith) in
    let before : front ≤ length x = omega arith in
    let there : count ≤ length (drop rest x) = omega (arith, length-drop rest x) in
    let moved : take (front + count) z ≡ take front x ++ take count (drop rest x) = ap (take (front + count)) copied ∙ take-paste x front (drop rest x) count before there in
    let stays : drop (rest + count) z ≡ drop (rest + count) x = drop_later (front + count) (rest + count) z x (omega arith) (ap (drop (front + count)) copied ∙ drop-paste x front (drop rest x) count before there) in
    ap (λ xs. xs ++ drop (rest + count) z) moved
    ∙ (append_assoc (take front x) (take count (drop rest x)) (drop (rest + count) z)
    ∙ ap (λ xs. take front x ++ xs) (ap (λ xs. take count (drop rest x) ++ xs) (stays ∙ (ap (λ n. drop n x) (omega arith) ∙ sym (drop-drop count rest x))) ∙ take-append-drop count (drop rest x)))

-- bytes written into a gap, and others taken out after it
pub gap_written : (front rest count : ℕ) (text x z : List ℕ) → z ≡ spliced front (length text) text x → front ≤ rest → front + length text ≤ rest + count → rest + count ≤ length x
    → take (front + length text) z ++ drop (rest + count) z ≡ spliced front count text (take front x ++ drop rest x)
gap_written front rest count text x z e order room within =
    let before : front ≤ length x = omega arith in
    let left = drop (rest + count) x in
    let f = take front x in
    let r = drop rest x in
    let long : length f ≡ front = length-take-le front x before in
    let size : length (f ++ text) ≡ front + length text = omega (arith, long, length-append f text) in
    let written : take (front + length text) z ≡ f ++ text =
    ap (take (front + length text)) (e ∙ sym (append_assoc f text (drop (front + length text) x))) ∙ take_at (f ++ text) (drop (front + length text) x) (front + length text) size in
    let stays : drop (rest + count) z ≡ left = drop_later (front + length text) (rest + count) z x room (ap (drop (front + length text)) e ∙ after_spliced front (length text) text x before) in
    let first : take front (f ++ r) ≡ f = take_at f r front long in
    let last : drop (front + count) (f ++ r) ≡ left =
    ap (λ n. drop n (f ++ r)) (omega arith) ∙ (sym (drop-drop count front (f ++ r)) ∙ (ap (drop count) (drop_at f r front long) ∙ (drop-drop count rest x ∙ ap (λ n. drop n x) (omega arith)))) in
    ap (λ xs. xs ++ drop (rest + count) z) written
    ∙ (ap (λ xs. (f ++ text) ++ xs) stays
    ∙ (append_assoc f text left
    ∙ (ap (λ xs. xs ++ (text ++ left)) (sym first) ∙ ap (λ xs. take front (f ++ r) ++ (text ++ xs)) (sym last))))
