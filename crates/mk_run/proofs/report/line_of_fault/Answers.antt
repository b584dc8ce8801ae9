use Rattle.mk_run.specs.inner.Making.{fault_in}
use Rattle.mk_run.proofs.WordsMade.{line_named}
use Rattle.mk_run.proofs.report.line_of_fault.Goals as goal

pub returns-in-Some-clause-line : goal.returns-in-Some-clause-line
returns-in-Some-clause-line c = line_named c.args.number (fault_in c.args.fault) c.in-Some.name.now c.line_of_name.result c.in-Some.ensures c.line_of_name.ensures
