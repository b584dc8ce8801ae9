-- What callers promise, in the words of the libraries (own).
use Rattle.std.specs.Prelude.{◌≡◌, ℕ, Result, Ok, List}
use Rattle.mk_tree.specs.Documents.{Document, tree, printed}
use Rattle.mk_splice.specs.Printed.{AreSmall}
use Rattle.mk_decide.specs.Answers.{refusal_of, IsRefusedBy}
use Rattle.mk_decide.specs.Edits.{PlainEdit, Group, Undo}
use Rattle.mk_decide.specs.Outcomes.{edited}
use Rattle.mk_edit.specs.History.{History}
use Rattle.mk_edit.specs.Histories.{started, step, text_now}
use Rattle.mk_edit.specs.Saving.{JournalRefusal, RefusesJournal, saved}
use Rattle.mk_uses.specs.declared.tickets.RowError.{RowError}
use Rattle.mk_uses.specs.declared.tickets.RowError.TheVariants.{Load as LoadIn, Undo as UndoIn}

-- a text is what an edit gives of a message
abbrev pub ShowsEdit : PlainEdit → List ℕ → List ℕ → Type 0
ShowsEdit e message text = (t : Document) × (edited e (tree message) ≡ Ok t) × (text ≡ printed t)

-- a text and a journal are those of a message after edits that were made as one step
pub record KeepsEdits (message text journal : List ℕ) (es : List PlainEdit) : Type 0 where
  pub history : History
  pub made : step (Group es) (started message) ≡ Ok history
  pub now : text ≡ text_now history
  pub written : journal ≡ saved history
  pub small : AreSmall history.steps

-- why a message isn't put back: its journal is refused, or its last step isn't taken back
abbrev pub RefusesRow : RowError → Result History JournalRefusal → Type 0
RefusesRow (LoadIn error) row = RefusesJournal error row
RefusesRow (UndoIn error) row = (h : History) → row ≡ Ok h → IsRefusedBy (refusal_of error) (step Undo h)
