use Rattle.std.proofs.Common.{◌∙◌, sym, arith}
use Rattle.mk_line.proofs.Starts.{unnamed, unstarted, named}
use Rattle.mk_line.proofs.kinds.name_len.Goals as goal

pub returns-then-name-eq0 : goal.returns-then-name-eq0
returns-then-name-eq0 c = unnamed c.args.content.now c.run_of-name.result c.run_of-name.ensures.front c.if-name-eq0.true

pub returns-then-opens_value : goal.returns-then-opens_value
returns-then-opens_value c = named c.args.content.now c.run_of-name.result c.run_of-name.ensures.front (omega arith) (sym c.opens_value.ensures ∙ c.if-opens_value.true)

pub returns-else-opens_value : goal.returns-else-opens_value
returns-else-opens_value c = unstarted c.args.content.now c.run_of-name.result c.run_of-name.ensures.front (omega arith) (sym c.opens_value.ensures ∙ c.if-opens_value.false)
