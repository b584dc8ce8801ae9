use Rattle.mk_split.proofs.SplitLemmas.{leaves_split}
use Rattle.mk_split.proofs.splitting.try_split.Goals as goal

pub returns-clause-leaves : goal.returns-clause-leaves
returns-clause-leaves g c =
    let left = c.try_each.ensures.leaves in
    (left.0, left.1, leaves_split g.row.F.Denot g.F.Folder.files c.args.options.now c.try_each.result _ _ _ _ _ left.2)
