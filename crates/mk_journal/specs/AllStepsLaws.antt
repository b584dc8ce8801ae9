-- The laws of the scripts for all steps (own).
use Rattle.std.specs.Prelude.{◌≡◌, ℕ, List, [], Ok, length, slice_index_or}
use Rattle.mk_edit.specs.History.{History}
use Rattle.mk_edit.specs.Histories.{first_text}
use Rattle.mk_edit.specs.Saving.{loaded}
use Rattle.mk_expand.specs.Pieces.{Pieces}
use Rattle.mk_run.specs.Journaling.{Onward}
use Rattle.mk_run.specs.Runs.{run_of}
use Rattle.mk_transfer.specs.Said.{shown}
use Rattle.mk_journal.specs.AllSteps.{redo_all_script, undo_all_script}

-- the last of the texts of a history
abbrev pub last_text : History → List ℕ
last_text h = slice_index_or h.texts (length h.steps) []

-- taking all steps back prints the first text of the history that the journal describes with the message
abbrev pub UndoAllRestores : Type 0
UndoAllRestores = (pieces : Pieces) (file message : List ℕ) (h : History) → loaded message file ≡ Ok h
    → (run_of pieces (Onward file) message (undo_all_script file)).run ≡ shown (first_text h) []

-- making all steps again prints the last text
abbrev pub RedoAllReaches : Type 0
RedoAllReaches = (pieces : Pieces) (file message : List ℕ) (h : History) → loaded message file ≡ Ok h
    → (run_of pieces (Onward file) message (redo_all_script file)).run ≡ shown (last_text h) []
