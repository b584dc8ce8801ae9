-- The laws of histories, and of the splices of edits.
use Rattle.std.specs.Prelude.{◌≡◌, ℕ, Option, option_and_then, Some, Ok, List, [], ◌∷◌}
use Rattle.std.specs.Result.{result_ok}
use Rattle.mk_tree.specs.Documents.{Document, tree, printed}
use Rattle.mk_decide.specs.Edits.{PlainEdit, Order, Do, Group, Undo, Redo}
use Rattle.mk_edit.specs.Groups.{together}
use Rattle.mk_splice.specs.Splices.{Splice, LeadsTo}
use Rattle.mk_edit.specs.History.{History}
use Rattle.mk_edit.specs.Histories.{IsHistory, first_text, text_now, started, after_all, repeated, step, with_step, done_splices}

-- undoing all that is done gives a text first, and redoing as often gives the history from which the undoing began
pub record Restores (text : List ℕ) (h : History) : Type 0 where
  pub first : History
  pub undone : repeated h.place Undo h ≡ Some first
  pub is_first : text_now first ≡ text
  pub redone : repeated h.place Redo first ≡ Some h

-- whatever orders a history is given, undoing all that is done then gives its first text
abbrev pub UndoingRestores : Type 0
UndoingRestores = (h : History) (orders : List Order) → IsHistory h → Restores (first_text h) (after_all orders h)

-- the splices of a group that is accepted lead from the text before to the text after, and back
abbrev pub GroupsLead : Type 0
GroupsLead = (es : List PlainEdit) (text : List ℕ) (t : Document) (ss : List Splice) → together es (tree text) ≡ Ok (t, ss) → LeadsTo ss text (printed t)

-- the document of a group that is accepted is read as itself
abbrev pub GroupsReadBack : Type 0
GroupsReadBack = (es : List PlainEdit) (text : List ℕ) (t : Document) (ss : List Splice) → together es (tree text) ≡ Ok (t, ss) → tree (printed t) ≡ t

-- a text alone is a history, of which it is the first text
abbrev pub TextsStart : Type 0
TextsStart = (text : List ℕ) → IsHistory (started text) × (first_text (started text) ≡ text)

-- what orders leave of a history is a history
abbrev pub HistoriesStay : Type 0
HistoriesStay = (h : History) (orders : List Order) → IsHistory h → IsHistory (after_all orders h)

-- orders leave the first text, so what begins with the text of a session is a group of it, whatever is done in it
abbrev pub FirstTextsStay : Type 0
FirstTextsStay = (h : History) (orders : List Order) → IsHistory h → first_text (after_all orders h) ≡ first_text h

-- the history after edits that are all accepted, one after another
abbrev pub made_in_turn : List PlainEdit → History → Option History
made_in_turn [] h = Some h
made_in_turn (e ∷ es) h = option_and_then (made_in_turn es) (result_ok (step (Do e) h))

-- what edits do one after another in a history that begins with a text is one step of that text: the group of these edits
abbrev pub EditsInTurnAreGroups : Type 0
EditsInTurnAreGroups = (es : List PlainEdit) (h done : History) → made_in_turn es (started (text_now h)) ≡ Some done → step (Group es) h ≡ Ok (with_step h (text_now done) (done_splices done))
