use Rattle.mk_line.proofs.FirstBytes.{found, unfound, split_found, split_first, split_unfound}
use Rattle.mk_line.proofs.parting.split_at_first.Goals as goal

pub returns-in-Some-clause-some : goal.returns-in-Some-clause-some
returns-in-Some-clause-some c = found c.args.mark c.in-Some.place c.args.text.now c.in-Some.ensures

pub returns-in-Some-clause-parts : goal.returns-in-Some-clause-parts
returns-in-Some-clause-parts c = split_found c.args.mark c.args.text.now c.in-Some.place c.in-Some.ensures

pub returns-in-Some-clause-first : goal.returns-in-Some-clause-first
returns-in-Some-clause-first c = split_first c.args.mark c.args.text.now c.in-Some.place c.in-Some.ensures

pub returns-in-None-clause-none : goal.returns-in-None-clause-none
returns-in-None-clause-none c = unfound c.args.mark c.args.text.now c.in-None.ensures

pub returns-in-None-clause-parts : goal.returns-in-None-clause-parts
returns-in-None-clause-parts c = split_unfound c.args.mark c.args.text.now c.in-None.ensures

pub returns-in-None-clause-first : goal.returns-in-None-clause-first
returns-in-None-clause-first c = split_unfound c.args.mark c.args.text.now c.in-None.ensures
