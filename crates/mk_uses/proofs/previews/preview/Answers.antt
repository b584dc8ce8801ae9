use Rattle.std.proofs.Common.{◌-◌, ◌∷◌, [], false, sym, ◌∙◌, subst}
use Rattle.std.proofs.lemmas.Result.{err_from_is_err_and}
use Rattle.mk_tree.specs.Documents.{tree}
use Rattle.mk_decide.specs.Answers.{refusal_of, IsRefusedBy}
use Rattle.mk_decide.specs.Edits.{AddField, Undo}
use Rattle.mk_decide.specs.Outcomes.{edited}
use Rattle.mk_edit.specs.Histories.{step}
use Rattle.mk_uses.proofs.Sessions.{edit_goes_back, edit_shown, edit_undone, no_reason}
use Rattle.mk_uses.proofs.previews.preview.Goals as goal

pub returns-in_err-undo-clause-refused : goal.returns-in_err-undo-clause-refused
returns-in_err-undo-clause-refused c =
    let made = rw (c.in-Ok.ensures.ok, c.in_ok-from_slice.ensures.items) at c.in_ok-edit.ensures.does in
    let goes = edit_goes_back c.args.message.items (AddField (1 ∷ []) false c.args.field.items) c.edit.new.self made in
    let stopped = err_from_is_err_and c.from_residual-in_err-undo.result c.from_residual-in_err-undo.ensures.1 in
    let result = edited (AddField (1 ∷ []) false c.args.field.items) (tree c.args.message.items) in
    rw stopped.1 (subst (λ error. IsRefusedBy (refusal_of error) result) (sym stopped.2)
    (no_reason (refusal_of c.in_err-undo.field-0.0) (record c.edit.new.self { place = c.edit.new.self.place - 1 }) (step Undo c.edit.new.self) result goes c.in_err-undo.ensures.1))

pub returns-clause-shown : goal.returns-clause-shown
returns-clause-shown c =
    let made = rw (c.in-Ok.ensures.ok, c.in_ok-from_slice.ensures.items) at c.in_ok-edit.ensures.does in
    let shown = edit_shown c.args.message.items (AddField (1 ∷ []) false c.args.field.items) c.edit.new.self made in
    (shown.0, shown.1, c.in_ok-shown.ensures.items ∙ c.text.ensures.now ∙ shown.2)

pub returns-clause-back : goal.returns-clause-back
returns-clause-back c =
    let made = rw (c.in-Ok.ensures.ok, c.in_ok-from_slice.ensures.items) at c.in_ok-edit.ensures.does in
    c.in_ok-back.ensures.items ∙ c.text-2.ensures.now
    ∙ edit_undone c.args.message.items (AddField (1 ∷ []) false c.args.field.items) c.edit.new.self c.undo.new.self made c.in_ok-undo.ensures
