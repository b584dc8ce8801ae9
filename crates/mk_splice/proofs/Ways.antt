-- A step that was taken back is made again through texts of the same lengths, and the other way round.
use Rattle.std.proofs.Common.{◌≡◌, ◌+◌, ◌-◌, ◌∙◌, ℕ, List, [], ◌∷◌, refl, ap, length, max, arith}
use Rattle.mk_splice.specs.Splices.{Splice, back_one, back_step, forth_one, forth_step, GoesBack, GoesForth}
use Rattle.mk_splice.specs.Peaks.{most_back, most_forth, size_back}
use Rattle.mk_splice.proofs.Bytes.{length-spliced}

-- how long the text is after it
pub length-back_step : (ss : List Splice) (x : List ℕ) → GoesBack ss x → length (back_step ss x) ≡ size_back ss (length x)
length-back_step [] x g = refl
length-back_step (s ∷ ss) x g =
    omega (arith, length-back_step ss x g.0, length-spliced s.place (length s.new) s.old (back_step ss x) g.1.within, g.1.within)

-- as long on the way forth as on the way back
pub forth_after_back : (ss : List Splice) (x : List ℕ) → GoesBack ss x → most_forth ss (length (back_step ss x)) ≡ most_back ss (length x)
forth_after_back [] x g = refl
forth_after_back (s ∷ ss) x g =
    let before = back_step ss x in
    let long = length-spliced s.place (length s.new) s.old before g.1.within in
    let same : length (back_one s before) - length s.old + length s.new ≡ length before = omega (arith, long, g.1.within) in
    let size : length (back_one s before) ≡ size_back (s ∷ ss) (length x) = length-back_step (s ∷ ss) x g in
    let rest = ap (most_forth ss) same ∙ forth_after_back ss x g.0 in
    omega (arith, rest, size)

-- the other way round
pub length-forth_step : (ss : List Splice) (x : List ℕ) → GoesForth ss x → size_back ss (length (forth_step ss x)) ≡ length x
length-forth_step [] x g = refl
length-forth_step (s ∷ ss) x g =
    let rest = length-forth_step ss (forth_one s x) g.1 in
    omega (arith, rest, length-spliced s.place (length s.old) s.new x g.0.within, g.0.within)

pub back_after_forth : (ss : List Splice) (x : List ℕ) → GoesForth ss x → most_back ss (length (forth_step ss x)) ≡ most_forth ss (length x)
back_after_forth [] x g = refl
back_after_forth (s ∷ ss) x g =
    let long = length-spliced s.place (length s.old) s.new x g.0.within in
    let next : length (forth_one s x) ≡ length x - length s.old + length s.new = omega (arith, long, g.0.within) in
    let rest = back_after_forth ss (forth_one s x) g.1 ∙ ap (most_forth ss) next in
    let size = length-forth_step (s ∷ ss) x g in
    omega (arith, rest, size)
