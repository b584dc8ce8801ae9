use Rattle.std.proofs.lemmas.Result.{IfOk-weaker}
use Rattle.mk_tree.specs.Documents.{tree}
use Rattle.mk_show.proofs.choosing.asked_leaves.Goals as goal

pub returns-in-Some-clause-placed : goal.returns-in-Some-clause-placed
returns-in-Some-clause-placed c =
    IfOk-weaker c.within.result _ _ (λ kept placed. placed (tree c.args.doc.now) c.in_ok-leaves.ensures.placed) c.within.ensures.placed
