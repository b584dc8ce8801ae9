use Rattle.std.proofs.Common.{arith, ap}
use Rattle.std.proofs.lemmas.List.{take_rest}
use Rattle.mk_head.specs.inner.Folds.{fold_size}
use Rattle.mk_head.proofs.FoldSizes.{fold_lines}
use Rattle.mk_head.proofs.folds.folded_size.Goals as goal

pub returns-then-run-lt-LANES-clause-size : goal.returns-then-run-lt-LANES-clause-size
returns-then-run-lt-LANES-clause-size c = omega (arith, c.each.invariant.front, c.folded_at-run.ensures.ends, fold_lines c.args.text.now)

pub returns-clause-size : goal.returns-clause-size
returns-clause-size c = omega (arith, c.each.invariant.front, fold_lines c.args.text.now, ap fold_size (take_rest c.args.text.now c.each.size))
