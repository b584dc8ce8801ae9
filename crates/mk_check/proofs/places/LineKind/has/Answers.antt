use Rattle.mk_check.proofs.places.LineKind.has.Goals as goal

pub returns-in-Begins : goal.returns-in-Begins
returns-in-Begins c = rw c.in-Begins.is (c.begins.ensures c.args.line.ending)
