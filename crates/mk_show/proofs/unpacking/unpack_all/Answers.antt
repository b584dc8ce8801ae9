use Rattle.std.proofs.Common.{◌∷◌, [], ◌∙◌, arith}
use Rattle.std.proofs.lemmas.Result.{err_from_is_err_and}
use Rattle.mk_view.specs.LeafViews.{leaf_view}
use Rattle.mk_show.specs.Unpacking.{task_of}
use Rattle.mk_show.proofs.LeavesInTurn.{at_index, safe_at, tasks_all, tasks_around, tasks_more}
use Rattle.mk_show.proofs.UnpackLemmas.{UnpackedAll-following, UnpackedSome-following}
use Rattle.mk_show.proofs.unpacking.unpack_all.Goals as goal

pub unpack_task-requires : goal.unpack_task-requires
unpack_task-requires g c = safe_at c.args.leaves.now c.loop-leaf.leaf-index c.leaf-item.result c.loop-leaf-test.true c.leaf-item.is c.requires

pub returns-in_err-refused-clause-some : goal.returns-in_err-refused-clause-some
returns-in_err-refused-clause-some g c =
    let stopped = err_from_is_err_and c.from_residual.result c.from_residual.ensures.1 in
    let i = c.loop-leaf.leaf-index in
    let leaf = c.leaf-item.result in
    let around = tasks_around c.args.cut c.args.leaves.now i leaf c.loop-leaf-test.true c.leaf-item.is in
    rw stopped.1 (λ t h.
    let here = at_index t c.args.leaves.now i leaf c.loop-leaf-test.true c.leaf-item.is h in
    UnpackedSome-following c.args.manner t _ (task_of c.args.cut (leaf_view leaf) ∷ []) _ _ _ _ _ _ (c.loop-leaf.invariant.done t h) (c.in_err-refused.ensures.some t here) around)

pub loop-leaf-preserved : goal.loop-leaf-preserved
loop-leaf-preserved g c =
    let before = c.loop-leaf.invariant.well in
    let well = c.in_ok-refused.ensures.well in
    let i = c.loop-leaf.leaf-index in
    let leaf = c.leaf-item.result in
    let more = tasks_more c.args.cut c.args.leaves.now i leaf c.loop-leaf-test.true c.leaf-item.is in
    record {
      done = λ t h.
          let here = at_index t c.args.leaves.now i leaf c.loop-leaf-test.true c.leaf-item.is h in
          rw more (UnpackedAll-following c.args.manner t _ (task_of c.args.cut (leaf_view leaf) ∷ []) _ _ _ _ _ (c.loop-leaf.invariant.done t h) (c.in_ok-refused.ensures.all t here));
      well = record { output = well.output ∙ before.output; errors = well.errors ∙ before.errors; folder = well.folder ∙ before.folder };
      unfinished = c.in_ok-refused.ensures.unfinished ∙ c.loop-leaf.invariant.unfinished;
    }

pub returns-clause-all : goal.returns-clause-all
returns-clause-all g c =
    let all = tasks_all c.args.cut c.args.leaves.now c.loop-leaf.leaf-index (omega (arith, c.loop-leaf-test.false)) in
    λ t h. rw all at (c.loop-leaf.invariant.done t h)
