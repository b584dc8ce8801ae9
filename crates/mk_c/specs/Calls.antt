-- What the calls of C do (own): each is a step of mk_edit or a view of mk_view, or says why not.
use Rattle.std.specs.Result.{result_ok}
use Rattle.std.specs.Prelude.{IsOk, ◌≡◌, ◌≢◌, ◌++◌, ℕ, Option, Some, None, Result, Ok, Err, List, [], ◌∷◌, length}
use Rattle.mk_tree.specs.Documents.{tree}
use Rattle.mk_tree.specs.Sections.{Placed, section_at}
use Rattle.mk_decide.specs.declared.edits.Edit.{Edit as HeldEdit}
use Rattle.mk_decide.specs.Answers.{IsRefusedBy, refusal_of}
use Rattle.mk_decide.specs.Edits.{PlainEdit, Order, Group, Refusal, Member}
use Rattle.mk_decide.specs.Outcomes.{edited}
use Rattle.mk_decide.specs.Views.{edit_of}
use Rattle.mk_edit.specs.History.{History}
use Rattle.mk_edit.specs.Histories.{step, text_now}
use Rattle.mk_edit.specs.Saving.{RefusesJournal, loaded}
use Rattle.mk_view.specs.declared.extracting.ExtractError.TheVariants as extract
use Rattle.mk_view.specs.Extracts.{IsExtractRefused}
use Rattle.mk_view.specs.TextNames.{text_name}
use Rattle.mk_c.specs.declared.status.Place.{Place}
use Rattle.mk_c.specs.declared.status.Reason.{Reason}
use Rattle.mk_c.specs.declared.status.Reason.TheVariants.{Closed, Memory, BadSize, NoEdit, NoName, Edit, Journal, Content}
use Rattle.mk_c.specs.Desks.{Desk, opened, put_down}
use Rattle.mk_c.specs.Statuses.{status_and_place}

-- how a call ends
abbrev pub Ending : Type 0
Ending = Result (Unit {0}) Reason

-- a call with a handle: a closed one stays closed; an open one stays open, the status is how the call ends, and that is as it should be
abbrev pub Calls : (Ending → Desk → Desk → Type 0) → ℕ → Place → Option Desk → Option Desk → Type 0
Calls Does status place None new = ((status, place) ≡ status_and_place {X = Unit {0}} (Err Closed)) × (new ≡ None)
Calls Does status place (Some old) None = ⊥
Calls Does status place (Some old) (Some new) = (ending : Ending) × ((status, place) ≡ status_and_place ending) × Does ending old new

-- an edit is put down after the others, or memory ran out
abbrev pub PutsDown : PlainEdit → Ending → Desk → Desk → Type 0
PutsDown e (Ok x) old new = (new.history ≡ old.history) × (put_down new ≡ put_down old ++ e ∷ []) × (new.answer ≡ old.answer)
PutsDown e (Err reason) old new = (reason ≡ Memory) × (new ≡ old)

-- a reason is the one that is defined; running out of memory is none
abbrev pub IsReasonAgainst : {X : Type 0} → Reason → Result X Refusal → Type 0
IsReasonAgainst (Edit index error) defined = (index ≡ 0) × IsRefusedBy (refusal_of error) defined
IsReasonAgainst Memory defined = Unit {0}
IsReasonAgainst other defined = ⊥

-- the same of a group, with the edit that is refused
abbrev pub IsGroupReason : {X : Type 0} → Reason → Result X Refusal → Type 0
IsGroupReason (Edit index error) defined = (refusal : Refusal) × (refusal_of error ≡ Some refusal) × (defined ≡ Err (Member index refusal))
IsGroupReason Memory defined = Unit {0}
IsGroupReason other defined = ⊥

-- an undo or a redo does what is defined; refused, it changes nothing
abbrev pub Obeys : Order → Ending → Desk → Desk → Type 0
Obeys order (Ok x) old new = (step order old.history ≡ Ok new.history) × (new ≡ record old { history = new.history })
Obeys order (Err reason) old new = (new ≡ old) × IsReasonAgainst reason (step order old.history)

-- the edits that were put down are made as one step, all or none
abbrev pub MakesPutDown : Ending → Desk → Desk → Type 0
MakesPutDown (Ok x) old new = (step (Group (put_down old)) old.history ≡ Ok new.history) × (new ≡ record old { history = new.history; pending = [] })
MakesPutDown (Err reason) old new = (new ≡ record old { pending = [] }) × IsGroupReason reason (step (Group (put_down old)) old.history)

-- what an edit would answer; there has to be one
abbrev pub IsChecked : List HeldEdit → List ℕ → Ending → Type 0
IsChecked [] text ending = ending ≡ Err NoEdit
IsChecked (e ∷ others) text (Ok x) = IsOk (edited (edit_of e) (tree text))
IsChecked (e ∷ others) text (Err reason) = IsReasonAgainst reason (edited (edit_of e) (tree text))

-- an answer that is as it should be; a call that is refused leaves the answer before
abbrev pub AnswersWith : (Desk → List ℕ → Type 0) → (Desk → Reason → Type 0) → Ending → Desk → Desk → Type 0
AnswersWith Is Refuses (Ok x) old new = Is old new.answer × (new ≡ record old { answer = new.answer })
AnswersWith Is Refuses (Err reason) old new = Refuses old reason × (new ≡ old)

-- only memory can be missing
abbrev pub IsMemory : Desk → Reason → Type 0
IsMemory d reason = reason ≡ Memory

-- why no content of the section at a path is shown
abbrev pub NoContentAt : List ℕ → Desk → Reason → Type 0
NoContentAt path d (Content error) = IsExtractRefused (section_at path (tree (text_now d.history))) error
NoContentAt path d Memory = Unit {0}
NoContentAt path d other = ⊥

-- the text that the fields of the section at a path say as its name
abbrev pub IsNameAt : List ℕ → Desk → List ℕ → Type 0
IsNameAt path d answer = (p : Placed) × (section_at path (tree (text_now d.history)) ≡ Some p) × (text_name p ≡ Some answer)

-- why no name is shown: there is no section, or its fields say none
abbrev pub NoNameAt : List ℕ → Desk → Reason → Type 0
NoNameAt path d (Content error) = (error ≡ extract.NoSuchSection) × (section_at path (tree (text_now d.history)) ≡ None)
NoNameAt path d NoName = (p : Placed) × (section_at path (tree (text_now d.history)) ≡ Some p) × (text_name p ≡ None)
NoNameAt path d Memory = Unit {0}
NoNameAt path d other = ⊥

-- a call begins with a desk, or memory ran out
abbrev pub BeginsWith : Desk → Result Desk Reason → Type 0
BeginsWith desk (Ok d) = d ≡ desk
BeginsWith desk (Err reason) = reason ≡ Memory

-- a journal is loaded with its text, or refused for the reason that is defined
abbrev pub Loads : List ℕ → List ℕ → Result Desk Reason → Type 0
Loads text journal (Ok d) = (h : History) × (loaded text journal ≡ Ok h) × (d ≡ opened h)
Loads text journal (Err (Journal error)) = RefusesJournal error (loaded text journal)
Loads text journal (Err Memory) = Unit {0}
Loads text journal (Err other) = ⊥

-- a call that opens a handle
abbrev pub Opens : (Result Desk Reason → Type 0) → ℕ → Place → Option Desk → Type 0
Opens Does status place new = (ending : Result Desk Reason) × ((status, place) ≡ status_and_place ending) × (new ≡ result_ok ending) × Does ending

-- the bytes of the answer, where as many are wanted; it is let go then
abbrev pub Copies : List ℕ → List ℕ → Ending → Desk → Desk → Type 0
Copies before after (Ok x) old new = (after ≡ old.answer) × (new ≡ record old { answer = [] })
Copies before after (Err reason) old new = (reason ≡ BadSize) × (length before ≢ length old.answer) × (after ≡ before) × (new ≡ old)
