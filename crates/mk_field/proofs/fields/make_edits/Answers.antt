use Rattle.std.proofs.Common.{map}
use Rattle.mk_decide.specs.Views.{edit_of}
use Rattle.mk_field.proofs.RoundLemmas.{edits_made, edits_refused}
use Rattle.mk_field.proofs.fields.make_edits.Goals as goal

pub returns-in-Ok-clause-made : goal.returns-in-Ok-clause-made
returns-in-Ok-clause-made c = edits_made (map edit_of c.args.edits.now) c.args.session.now c.group.new.self c.in-Ok.ensures

pub returns-in-Err-Member-clause-made : goal.returns-in-Err-Member-clause-made
returns-in-Err-Member-clause-made c =
    let refused = rw c.in-Err-Member.field-0-is at c.in-Err-Member.ensures in
    edits_refused (map edit_of c.args.edits.now) c.args.session.now c.group.new.self c.in-Err-Member.field-0-0 c.in-Err-Member.refusal refused.0 refused.1
