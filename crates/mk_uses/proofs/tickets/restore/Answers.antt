use Rattle.std.proofs.Common.{◌≡◌, ◌∙◌, subst, Ok}
use Rattle.mk_edit.specs.Saving.{loaded}
use Rattle.mk_uses.proofs.Sessions.{kept_undone}
use Rattle.mk_uses.proofs.tickets.restore.Goals as goal

pub returns-in-Ok-from_slice-clause-restored : goal.returns-in-Ok-from_slice-clause-restored
returns-in-Ok-from_slice-clause-restored c = λ message edits kept.
    c.in-Ok-from_slice.ensures.items ∙ c.text.ensures.now
    ∙ kept_undone c.texts_start.ensures c.histories_stay.ensures c.saved_journals_are_loaded.ensures message c.args.row.message.items c.args.row.journal.items edits c.in-Ok.session c.undo.new.self kept
    (subst (λ journal. loaded c.args.row.message.items journal ≡ Ok c.in-Ok.session) c.deref.ensures.value c.in-Ok.ensures.ok) c.in-Ok-undo.ensures
