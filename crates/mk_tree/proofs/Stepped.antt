-- A step taken back or made again, and the way back from there.
use Rattle.std.proofs.Common.{◌≡◌, ◌≤◌, ◌<◌, ◌^◌, ℕ, List, Option, None, Some, IfSome, ap, arith, length, sym, ◌∙◌, subst}
use Rattle.std.specs.Prelude.{unwrap_or}
use Rattle.mk_splice.specs.Splices.{Splice, back_step, forth_step, GoesBack, GoesForth}
use Rattle.mk_splice.specs.Peaks.{most_back, most_forth}
use Rattle.mk_splice.proofs.Bytes.{back_forth, forth_back}
use Rattle.mk_splice.proofs.Ways.{back_after_forth, forth_after_back}

pub taken_back : (ss : List Splice) (x old new : List ℕ) → old ≡ x → new ≡ back_step ss old → GoesBack ss x → GoesForth ss new × (forth_step ss new ≡ x)
taken_back ss x old new same step goes =
    let there : new ≡ back_step ss x = step ∙ ap (back_step ss) same in
    let again = forth_back ss x goes in
    (subst (GoesForth ss) (sym there) again.0, ap (forth_step ss) there ∙ again.1)

pub made_again : (ss : List Splice) (x old new : List ℕ) → old ≡ x → new ≡ forth_step ss old → GoesForth ss x → GoesBack ss new × (back_step ss new ≡ x)
made_again ss x old new same step goes =
    let there : new ≡ forth_step ss x = step ∙ ap (forth_step ss) same in
    let again = back_forth ss x goes in
    (subst (GoesBack ss) (sym there) again.0, ap (back_step ss) there ∙ again.1)

-- the room for the way back is that for the way there
pub room_forth : (ss : List Splice) (x old new : List ℕ) (capacity more : ℕ) → old ≡ x → new ≡ back_step ss old → GoesBack ss x → most_back ss (length old) ≤ capacity → capacity ≤ more → most_forth ss (length new) ≤ more
room_forth ss x old new capacity more same step goes room grows =
    let way = ap (λ text. most_forth ss (length text)) step ∙ forth_after_back ss old (subst (GoesBack ss) (sym same) goes) in
    omega (arith, way, room, grows)

pub room_back : (ss : List Splice) (x old new : List ℕ) (capacity more : ℕ) → old ≡ x → new ≡ forth_step ss old → GoesForth ss x → most_forth ss (length old) ≤ capacity → capacity ≤ more → most_back ss (length new) ≤ more
room_back ss x old new capacity more same step goes room grows =
    let way = ap (λ text. most_back ss (length text)) step ∙ back_after_forth ss old (subst (GoesForth ss) (sym same) goes) in
    omega (arith, way, room, grows)

-- a text that goes into the room that was asked for
pub asked_holds : (r : Option ℕ) (most asked size : ℕ) → IfSome r (λ m. m ≡ most) → asked ≡ unwrap_or r 18446744073709551615 → size ≤ most → size ≤ 18446744073709551615 → size ≤ asked
asked_holds None most asked size s e m b = omega (arith, e, b)
asked_holds (Some n) most asked size s e m b = omega (arith, e, s, m)

-- room that is there holds the text at its longest
pub peak_is : (r : Option ℕ) (most asked : ℕ) → IfSome r (λ m. m ≡ most) → asked ≡ unwrap_or r 18446744073709551615 → asked < 2 ^ 63 → most ≤ asked
peak_is None most asked s e small = omega (arith, e, small)
peak_is (Some n) most asked s e small = omega (arith, e, s)
