use Rattle.mk_line.specs.Views.{line_of}
use Rattle.mk_decide.proofs.LineLooks.{next_is, end_is}
use Rattle.mk_decide.proofs.looking.look.Goals as goal

pub returns-in-Some-clause-some : goal.returns-in-Some-clause-some
returns-in-Some-clause-some c = next_is c.args.text.now c.args.place c.size-size.result (line_of c.in-Some.line) c.requires c.in-Some.ensures.line c.size-size.ensures

pub returns-in-None-clause-none : goal.returns-in-None-clause-none
returns-in-None-clause-none c = end_is c.args.text.now c.args.place c.in-None.ensures.line
