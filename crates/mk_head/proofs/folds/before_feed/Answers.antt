use Rattle.mk_head.proofs.FoldSizes.{fold_found, fold_unfound}
use Rattle.mk_head.proofs.folds.before_feed.Goals as goal

pub returns-in-Some-clause-passed : goal.returns-in-Some-clause-passed
returns-in-Some-clause-passed c = fold_found c.args.text.now c.in-Some.place c.in-Some.ensures

pub returns-in-None-clause-passed : goal.returns-in-None-clause-passed
returns-in-None-clause-passed c = fold_unfound c.args.text.now c.in-None.ensures
