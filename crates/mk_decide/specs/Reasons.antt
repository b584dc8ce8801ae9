-- Open lines among others (own).
use Rattle.std.specs.Prelude.{◌||◌, ◌++◌, Bool, true, false, List, [], ◌∷◌}
use Rattle.mk_line.specs.Lines.{TextLine, is_open}

-- an open line stands before another line
abbrev pub is_open_early : List TextLine → Bool
is_open_early [] = false
is_open_early (l ∷ []) = false
is_open_early (l ∷ m ∷ ls) = is_open l.ending || is_open_early (m ∷ ls)
