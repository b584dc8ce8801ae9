use Rattle.std.proofs.Common.{◌≡◌, ◌∙◌, if◌then◌else◌, map, inr}
use Rattle.mk_transfer.specs.declared.status.Status.TheVariants.{Well, Refused}
use Rattle.mk_tree.specs.Documents.{tree}
use Rattle.mk_view.specs.LeafViews.{leaf_view}
use Rattle.mk_transfer.proofs.GivenUp.{not_reading}
use Rattle.mk_show.specs.Chosen.{asked_of}
use Rattle.mk_show.proofs.UnpackLemmas.{EndsStored-all, UnpackedAll-halted}
use Rattle.mk_show.proofs.unpacking.try_unpack.Goals as goal
use Rattle.mk_show.proofs.unpacking.try_unpack.Goals.{then-refused, else-refused}

pub returns-in-Ok-finish-clause-leaves : goal.returns-in-Ok-finish-clause-leaves
returns-in-Ok-finish-clause-leaves g c =
    let t = tree c.in-Ok.doc in
    let lines = c.deref.ensures.value ∙ c.in-Ok-missing_lines.ensures in
    let all = (rw (lines, c.deref-2.ensures.value) at c.in-Ok-unpack_after.ensures.all) t c.in-Ok-asked_leaves.ensures.placed in
    let status_is : c.if-refused.result ≡ (if c.in-Ok-unpack_after.refused then Refused else Well) = elim c.if-refused.branch [
      | then-refused w ↦ rw w.if-refused.true w.result-is
      | else-refused w ↦ rw w.if-refused.false w.result-is
    ] in (
      c.in-Ok.doc,
      c.in-Ok.ensures.all,
      EndsStored-all (asked_of c.args.options) t (map leaf_view c.in-Ok-asked_leaves.leaves.items) c.in-Ok-unpack_after.refused c.if-refused.result _ _ _ _ _ _ _ _ _ c.in-Ok-asked_leaves.ensures.asked all c.in-Ok-finish.ensures.kept status_is c.in-Ok.ensures.ended,
    )

pub returns-clause-leaves : goal.returns-clause-leaves
returns-clause-leaves g c =
    let t = tree c.in-Ok.doc in
    let lines = c.deref.ensures.value ∙ c.in-Ok-missing_lines.ensures in
    let all = (rw (lines, c.deref-2.ensures.value) at c.in-Ok-unpack_after.ensures.all) t c.in-Ok-asked_leaves.ensures.placed in (
      c.in-Ok.doc,
      c.in-Ok.ensures.all,
      inr (record {
        leaves = map leaf_view c.in-Ok-asked_leaves.leaves.items;
        are_leaves = c.in-Ok-asked_leaves.ensures.asked;
        some = UnpackedAll-halted _ _ _ _ _ _ _ _ _ _ _ _ all c.in-Err-finish.ensures.kept;
        writing = λ r. not_reading c.in-Err-finish.stop c.writing-in-Err-finish.result c.writing-in-Err-finish.ensures r;
      }),
    )

pub returns-in-Err-unpack_after-clause-leaves : goal.returns-in-Err-unpack_after-clause-leaves
returns-in-Err-unpack_after-clause-leaves g c =
    let t = tree c.in-Ok.doc in
    let lines = c.deref.ensures.value ∙ c.in-Ok-missing_lines.ensures in
    let some = (rw (lines, c.deref-2.ensures.value) at c.in-Err-unpack_after.ensures.some) t c.in-Ok-asked_leaves.ensures.placed in (
      c.in-Ok.doc,
      c.in-Ok.ensures.all,
      inr (record {
        leaves = map leaf_view c.in-Ok-asked_leaves.leaves.items;
        are_leaves = c.in-Ok-asked_leaves.ensures.asked;
        some = some;
        writing = λ r. not_reading c.in-Err-unpack_after.stop c.writing.result c.writing.ensures r;
      }),
    )
