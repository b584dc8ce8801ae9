use Rattle.std.proofs.Common.{◌++◌, ◌∙◌, ap, map}
use Rattle.std.specs.Vec.Iter.{into_iter_items}
use Rattle.mk_splice.specs.Views.{splice_of, steps_of}
use Rattle.mk_splice.proofs.Trials.{steps_taken}
use Rattle.mk_edit.specs.Histories.{all_splices}
use Rattle.mk_edit.proofs.stepping.joined.Goals as goal

pub loop-step-init : goal.loop-step-init
loop-step-init c =
    ap (λ xs. map splice_of xs ++ all_splices (steps_of (into_iter_items c.into_iter-step-iterator.result))) c.new-all.ensures.items
    ∙ (ap (λ vs. all_splices (steps_of vs)) (c.into_iter-step-iterator.ensures.into_iter_gives.0 ∙ c.truncate.ensures.items)
    ∙ ap all_splices (steps_taken c.args.steps.items c.args.count))
