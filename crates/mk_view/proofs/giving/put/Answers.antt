use Rattle.std.proofs.Common.{Some}
use Rattle.mk_view.proofs.Taken.{kept}
use Rattle.mk_view.proofs.giving.put.Goals as goal

pub returns : goal.returns
returns c = kept c.args.taken.now c.insert.new.self c.args.name.items (Some c.args.number) c.in_ok-insert.ensures.updates
