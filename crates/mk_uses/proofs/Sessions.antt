-- What the histories of sessions give where one step is made and taken back.
use Rattle.std.proofs.Common.{◌≡◌, ◌-◌, ℕ, List, [], ◌∷◌, refl, ap, sym, subst, ◌∙◌, None, Some, Ok, Err}
use Rattle.std.specs.Prelude.{Option, Result}
use Rattle.mk_tree.specs.Documents.{Document, tree, printed}
use Rattle.mk_splice.specs.Splices.{Splice}
use Rattle.mk_decide.specs.Answers.{IsRefusedBy}
use Rattle.mk_decide.specs.Edits.{Do, Group, PlainEdit, Refusal, Undo}
use Rattle.mk_decide.specs.EditSplices.{splices_of}
use Rattle.mk_decide.specs.Outcomes.{edited}
use Rattle.mk_edit.specs.Groups.{Together, together}
use Rattle.mk_edit.specs.History.{History}
use Rattle.mk_edit.specs.Histories.{IsHistory, edited_by, grouped_by, started, step, text_now, with_step}
use Rattle.std.specs.Result.{result_unwrap_or}
use Rattle.mk_edit.specs.Laws.{HistoriesStay, TextsStart}
use Rattle.mk_edit.specs.Saving.{SavedIsLoaded, loaded}
use Rattle.mk_uses.specs.Uses.{KeepsEdits, ShowsEdit}

-- an edit that was made gives a document, and is a step of the history
edit_made : (h g : History) (ss : List Splice) (r : Result Document Refusal) → edited_by h ss r ≡ Ok g → (t : Document) × (r ≡ Ok t) × (g ≡ with_step h (printed t) ss)
edit_made h g ss (Ok t) e = let same : with_step h (printed t) ss ≡ g = cc in (t, refl, sym same)
edit_made h g ss (Err x) e = cc

-- the text is what the edit gives
pub edit_shown : (message : List ℕ) (e : PlainEdit) (g : History) → step (Do e) (started message) ≡ Ok g → ShowsEdit e message (text_now g)
edit_shown message e g made =
    let m = edit_made (started message) g (splices_of e (tree message)) (edited e (tree message)) made in
    (m.0, m.1, ap text_now m.2)

-- the history after the first step was taken back
undone : (message text : List ℕ) (ss : List Splice) (f : History) → step Undo (with_step (started message) text ss) ≡ Ok f → text_now f ≡ message
undone message text ss f e = let same : record (with_step (started message) text ss) { place = 0 } ≡ f = cc in ap text_now (sym same)

-- taking an edit back gives the message
pub edit_undone : (message : List ℕ) (e : PlainEdit) (g f : History) → step (Do e) (started message) ≡ Ok g → step Undo g ≡ Ok f → text_now f ≡ message
edit_undone message e g f made back =
    let m = edit_made (started message) g (splices_of e (tree message)) (edited e (tree message)) made in
    undone message (printed m.0) (splices_of e (tree message)) f (subst (λ h. step Undo h ≡ Ok f) m.2 back)

-- an answer that isn't given for a reason is given for none
pub no_reason : {X Y : Type 0} (o : Option Refusal) (x : X) (r : Result X Refusal) (q : Result Y Refusal) → r ≡ Ok x → IsRefusedBy o r → IsRefusedBy o q
no_reason None x r q e h = h
no_reason (Some reason) x r q e h = let bad : Ok x ≡ Err reason = sym e ∙ h in cc

-- an edit that was made can be taken back
pub edit_goes_back : (message : List ℕ) (e : PlainEdit) (g : History) → step (Do e) (started message) ≡ Ok g → step Undo g ≡ Ok (record g { place = g.place - 1 })
edit_goes_back message e g made =
    let m = edit_made (started message) g (splices_of e (tree message)) (edited e (tree message)) made in
    subst (λ h. step Undo h ≡ Ok (record h { place = h.place - 1 })) (sym m.2) refl

-- a group that was made is a step of the history
group_made : (h g : History) (r : Together) → grouped_by h r ≡ Ok g → (text : List ℕ) × (ss : List Splice) × (g ≡ with_step h text ss)
group_made h g (Ok p) e = let same : with_step h (printed p.0) p.1 ≡ g = cc in (printed p.0, p.1, sym same)
group_made h g (Err q) e = cc

-- taking a group back gives the message
group_undone : (message : List ℕ) (es : List PlainEdit) (g f : History) → step (Group es) (started message) ≡ Ok g → step Undo g ≡ Ok f → text_now f ≡ message
group_undone message es g f made back =
    let m = group_made (started message) g (together es (tree message)) made in
    undone message m.0 m.1 f (subst (λ h. step Undo h ≡ Ok f) m.2 back)

-- what was kept of a message is loaded again
kept_loads : TextsStart → HistoriesStay → SavedIsLoaded → (message text journal : List ℕ) (es : List PlainEdit) → (k : KeepsEdits message text journal es) → loaded text journal ≡ Ok k.history
kept_loads starts stays loads message text journal es k =
    let made : IsHistory (result_unwrap_or (step (Group es) (started message)) (started message)) = stays (started message) (Group es ∷ []) (starts message).0 in
    let history : IsHistory k.history = subst (λ r. IsHistory (result_unwrap_or r (started message))) k.made made in
    ap (λ t. loaded t journal) k.now ∙ ap (loaded (text_now k.history)) k.written ∙ loads k.history history k.small

-- taking back what was kept gives the message
pub kept_undone : TextsStart → HistoriesStay → SavedIsLoaded → (message text journal : List ℕ) (es : List PlainEdit) (g f : History) → KeepsEdits message text journal es → loaded text journal ≡ Ok g → step Undo g ≡ Ok f
    → text_now f ≡ message
kept_undone starts stays loads message text journal es g f k read back =
    let both : Ok g ≡ Ok k.history = sym read ∙ kept_loads starts stays loads message text journal es k in
    let same : g ≡ k.history = cc in
    group_undone message es k.history f k.made (subst (λ h. step Undo h ≡ Ok f) same back)
