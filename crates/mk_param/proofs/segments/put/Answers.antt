use Rattle.mk_param.proofs.Kept.{kept_value}
use Rattle.mk_param.proofs.segments.put.Goals as goal

pub returns : goal.returns
returns c = kept_value c.args.values.now c.insert.new.self c.args.name.items c.args.value c.in_ok-insert.ensures.updates
