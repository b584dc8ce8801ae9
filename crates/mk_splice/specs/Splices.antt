-- Replacing bytes at a place, forth and back (own).
use Rattle.std.specs.Prelude.{◌≡◌, ◌+◌, ◌≤◌, ◌++◌, ℕ, List, [], ◌∷◌, length, take, drop}

-- a text with `new` in the place of `count` bytes at `place`
abbrev pub spliced : ℕ → ℕ → List ℕ → List ℕ → List ℕ
spliced place count new text = take place text ++ (new ++ drop (place + count) text)

-- a place, the old bytes and the new ones
pub record Splice : Type 0 where
  pub place : ℕ
  pub old : List ℕ
  pub new : List ℕ

-- bytes stand at a place: putting them there changes nothing
pub record Stands (place : ℕ) (bytes text : List ℕ) : Type 0 where
  pub within : place + length bytes ≤ length text
  pub same : spliced place (length bytes) bytes text ≡ text

-- a splice made: its new bytes in the place of its old ones
abbrev pub forth_one : Splice → List ℕ → List ℕ
forth_one s text = spliced s.place (length s.old) s.new text

-- a splice taken back
abbrev pub back_one : Splice → List ℕ → List ℕ
back_one s text = spliced s.place (length s.new) s.old text

-- a step is its splices, in the order in which they were made
abbrev pub forth_step : List Splice → List ℕ → List ℕ
forth_step [] text = text
forth_step (s ∷ ss) text = forth_step ss (forth_one s text)

-- taken back from the last to the first
abbrev pub back_step : List Splice → List ℕ → List ℕ
back_step [] text = text
back_step (s ∷ ss) text = back_one s (back_step ss text)

-- each splice finds its old bytes
abbrev pub GoesForth : List Splice → List ℕ → Type 0
GoesForth [] text = Unit {0}
GoesForth (s ∷ ss) text = Stands s.place s.old text × GoesForth ss (forth_one s text)

-- each splice, from the last to the first, finds its new bytes
abbrev pub GoesBack : List Splice → List ℕ → Type 0
GoesBack [] text = Unit {0}
GoesBack (s ∷ ss) text = GoesBack ss text × Stands s.place s.new (back_step ss text)

-- splices lead from a text to another and back, and each finds the bytes that it replaces, both ways
pub record LeadsTo (ss : List Splice) (text other : List ℕ) : Type 0 where
  pub found : GoesForth ss text
  pub forth : forth_step ss text ≡ other
  pub found_back : GoesBack ss other
  pub back : back_step ss other ≡ text
