-- A group of one edit is what the edit alone is.
use Rattle.std.proofs.Common.{◌≡◌, ℕ, map, subst, List, [], ◌∷◌, Result, Ok, Err, Option, Some, None, refl, ap, sym, ◌∙◌}
use Rattle.std.proofs.lemmas.List.{append-nil}
use Rattle.mk_tree.specs.Documents.{Document, tree, printed}
use Rattle.mk_splice.specs.Splices.{Splice}
use Rattle.mk_decide.specs.Answers.{refusal_of, IsRefusedBy}
use Rattle.mk_decide.specs.Edits.{PlainEdit, Do, Group, Refusal, Member}
use Rattle.mk_decide.specs.EditSplices.{splices_of}
use Rattle.mk_decide.specs.Outcomes.{edited}
use Rattle.mk_decide.specs.declared.errors.EditError.{EditError}
use Rattle.std.specs.Global.{Vec}
use Rattle.mk_splice.specs.declared.splicing.Splice.{Splice as SpliceIn}
use Rattle.mk_splice.specs.Views.{splice_of}
use Rattle.mk_edit.specs.Made.{AreMade}
use Rattle.mk_edit.specs.Groups.{together, made_on}
use Rattle.mk_edit.specs.Histories.{edited_by, grouped_by, step, text_now, with_step}
use Rattle.mk_edit.specs.History.{History}

-- what an order gives, as the only member of a group
abbrev alone : Result History Refusal → Result History Refusal
alone (Ok h) = Ok h
alone (Err reason) = Err (Member 0 reason)

one_made : (h : History) (s : List Splice) (r : Result Document Refusal) → grouped_by h (made_on s (together []) r) ≡ alone (edited_by h s r)
one_made h s (Ok t) = ap (λ xs. Ok (with_step h (printed t) xs)) (append-nil s)
one_made h s (Err reason) = refl

one_of_group : (e : PlainEdit) (h : History) → step (Group (e ∷ [])) h ≡ alone (step (Do e) h)
one_of_group e h = one_made h (splices_of e (tree (text_now h))) (edited e (tree (text_now h)))

refused_for : (o : Option Refusal) (r : Result History Refusal) (reason : Refusal) → IsRefusedBy o r → o ≡ Some reason → r ≡ Err reason
refused_for None r reason h p = cc
refused_for (Some e) r reason h p = cc

pub one_refused : (e : PlainEdit) (h : History) (error : EditError) → IsRefusedBy (refusal_of error) (step (Do e) h) → (reason : Refusal) → refusal_of error ≡ Some reason → step (Group (e ∷ [])) h ≡ Err (Member 0 reason)
one_refused e h error p reason q = one_of_group e h ∙ ap alone (refused_for (refusal_of error) (step (Do e) h) reason p q)

-- no edit makes nothing
pub none_made : (x : List ℕ) (v : Vec SpliceIn) → v.items ≡ [] → AreMade [] x (map splice_of v.items) x
none_made x v e =
    let P : List SpliceIn → Type 0 = λ items. AreMade [] x (map splice_of items) x in
    subst P (sym e) (record { accepted = refl; goes = tt; text = refl })
