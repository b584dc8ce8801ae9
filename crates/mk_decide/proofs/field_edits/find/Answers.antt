use Rattle.mk_decide.proofs.FieldPlaces.{some_there, none_there}
use Rattle.mk_decide.proofs.field_edits.find.Goals as goal

pub returns-clause-some : goal.returns-clause-some
returns-clause-some c = some_there c.args.head.now c.args.name.now c.args.k c.field_at.result c.requires c.field_at.ensures

pub returns-clause-none : goal.returns-clause-none
returns-clause-none c = none_there c.args.head.now c.args.name.now c.args.k c.field_at.result c.requires c.field_at.ensures
