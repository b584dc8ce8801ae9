-- What edits, undoing and redoing make of a history (own).
use Rattle.std.specs.Result.{result_err, result_ok, result_unwrap_or}
use Rattle.std.specs.Prelude.{◌≡◌, ◌+◌, ◌-◌, ◌≤◌, ◌++◌, if◌then◌else◌, ℕ, Option, option_and_then, None, Some, Result, Ok, Err, List, [], ◌∷◌, length, take, slice_index_or, nat_lt, suc, zero}
use Rattle.mk_tree.specs.Documents.{Document, tree, printed}
use Rattle.mk_decide.specs.Edits.{Order, Do, Group, Undo, Redo, Refusal, NothingToUndo, NothingToRedo, Member}
use Rattle.mk_decide.specs.Outcomes.{edited}
use Rattle.mk_decide.specs.EditSplices.{splices_of}
use Rattle.mk_splice.specs.Splices.{Splice, LeadsTo}
use Rattle.mk_edit.specs.Groups.{Together, together}
use Rattle.mk_edit.specs.History.{History}

-- each step leads from its text to the next, and back
abbrev pub AreLinked : List ℕ → List (List ℕ) → List (List Splice) → Type 0
AreLinked x [] [] = Unit {0}
AreLinked x [] (s ∷ ss) = ⊥
AreLinked x (y ∷ ys) [] = ⊥
AreLinked x (y ∷ ys) (s ∷ ss) = LeadsTo s x y × AreLinked y ys ss

-- texts that are linked by the steps, and a place among them
pub record IsHistory (h : History) : Type 0 where
  pub first : List ℕ
  pub others : List (List ℕ)
  pub texts : h.texts ≡ first ∷ others
  pub linked : AreLinked first others h.steps
  pub within : h.place ≤ length h.steps

-- the text that stands now
abbrev pub text_now : History → List ℕ
text_now h = slice_index_or h.texts h.place []

-- the first of its texts
abbrev pub first_text : History → List ℕ
first_text h = slice_index_or h.texts 0 []

-- the history of a session just begun
abbrev pub started : List ℕ → History
started text = record { texts = text ∷ []; steps = []; place = 0 }

-- one step more, in the place of what was undone
abbrev pub with_step : History → List ℕ → List Splice → History
with_step h text step = record { texts = take (h.place + 1) h.texts ++ text ∷ []; steps = take h.place h.steps ++ step ∷ []; place = h.place + 1 }

-- the splices of steps, one after another
abbrev pub all_splices : List (List Splice) → List Splice
all_splices [] = []
all_splices (s ∷ ss) = s ++ all_splices ss

-- all splices of the steps that are done
abbrev pub done_splices : History → List Splice
done_splices h = all_splices (take h.place h.steps)

-- what an accepted or refused edit makes of a history
abbrev pub edited_by : History → List Splice → Result Document Refusal → Result History Refusal
edited_by h step (Ok t) = Ok (with_step h (printed t) step)
edited_by h step (Err e) = Err e

-- what an accepted group makes of a history: one step more, with all splices; or its refused edit and the reason
abbrev pub grouped_by : History → Together → Result History Refusal
grouped_by h (Ok p) = Ok (with_step h (printed p.0) p.1)
grouped_by h (Err q) = Err (Member q.0 q.1)

-- what an order makes of a history, or the reason why it is refused
abbrev pub step : Order → History → Result History Refusal
step (Do e) h = edited_by h (splices_of e (tree (text_now h))) (edited e (tree (text_now h)))
step (Group es) h = grouped_by h (together es (tree (text_now h)))
step Undo h = if nat_lt 0 h.place then Ok (record h { place = h.place - 1 }) else Err NothingToUndo
step Redo h = if nat_lt h.place (length h.steps) then Ok (record h { place = h.place + 1 }) else Err NothingToRedo

-- what is answered to orders, one after another, and what they leave
abbrev pub replies : List Order → History → List (Option Refusal)
replies [] h = []
replies (o ∷ os) h = result_err (step o h) ∷ replies os (result_unwrap_or (step o h) h)

-- what orders leave, one after another
abbrev pub after_all : List Order → History → History
after_all [] h = h
after_all (o ∷ os) h = after_all os (result_unwrap_or (step o h) h)

-- the history after an order given so often; nothing where it is refused on the way
abbrev pub repeated : ℕ → Order → History → Option History
repeated zero o h = Some h
repeated (suc n) o h = option_and_then (repeated n o) (result_ok (step o h))
