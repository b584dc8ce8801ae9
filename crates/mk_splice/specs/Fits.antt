-- Steps that fit a text: each finds the bytes that it replaces (own).
use Rattle.std.specs.Prelude.{◌≤◌, ℕ, List, [], ◌∷◌, length, take, drop}
use Rattle.mk_splice.specs.Splices.{Splice, forth_step, back_step, GoesForth, GoesBack}

-- steps taken back, from the last to the first
abbrev pub back_all : List (List Splice) → List ℕ → List ℕ
back_all [] x = x
back_all (s ∷ ss) x = back_step s (back_all ss x)

-- steps made, from the first to the last
abbrev pub forth_all : List (List Splice) → List ℕ → List ℕ
forth_all [] x = x
forth_all (s ∷ ss) x = forth_all ss (forth_step s x)

-- each step can be taken back, from the last to the first
abbrev pub AllBack : List (List Splice) → List ℕ → Type 0
AllBack [] x = Unit {0}
AllBack (s ∷ ss) x = AllBack ss x × GoesBack s (back_all ss x)

-- each step can be made, from the first to the last
abbrev pub AllForth : List (List Splice) → List ℕ → Type 0
AllForth [] x = Unit {0}
AllForth (s ∷ ss) x = GoesForth s x × AllForth ss (forth_step s x)

-- the done steps can be taken back from the text, and the others made
pub record Fit (x : List ℕ) (ss : List (List Splice)) (done : ℕ) : Type 0 where
  pub within : done ≤ length ss
  pub back : AllBack (take done ss) x
  pub forth : AllForth (drop done ss) x
