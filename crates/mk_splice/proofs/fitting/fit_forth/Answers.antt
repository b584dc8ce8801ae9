use Rattle.std.proofs.Common.{refl}
use Rattle.std.proofs.Math.Seq.{drop-length}
use Rattle.mk_splice.proofs.fitting.fit_forth.Goals as goal

pub returns-then-done-steps-clause-ok : goal.returns-then-done-steps-clause-ok
returns-then-done-steps-clause-ok c = rw (c.if-done-steps.true, drop-length c.args.steps.now) (c.args.text.now, refl)
