-- Scripts for all steps of a journal (own).
use Rattle.std.specs.Prelude.{◌++◌, ◌-◌, ℕ, zero, suc, List, [], ◌∷◌, Result, Ok, Err, codes, length}
use Rattle.mk_line.specs.Ascii.{line_feed}
use Rattle.mk_splice.specs.Journals.{JournalText, journal, meaning}

-- how many steps are done in a journal, and in a file that is none
abbrev pub done_in : Result JournalText ℕ → ℕ
done_in (Ok j) = (meaning j).done
done_in (Err offset) = 0

-- how many are undone
abbrev pub undone_in : Result JournalText ℕ → ℕ
undone_in (Ok j) = length (meaning j).steps - (meaning j).done
undone_in (Err offset) = 0

-- a line, so many times
abbrev pub times : List ℕ → ℕ → List ℕ
times line zero = []
times line (suc n) = line ++ times line n

-- a line `undo` for each step that is done
abbrev pub undo_all_script : List ℕ → List ℕ
undo_all_script file = times (codes "undo" ++ line_feed ∷ []) (done_in (journal file))

-- a line `redo` for each step that is undone
abbrev pub redo_all_script : List ℕ → List ℕ
redo_all_script file = times (codes "redo" ++ line_feed ∷ []) (undone_in (journal file))
