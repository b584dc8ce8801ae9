use Rattle.std.proofs.Common.{◌++◌, ◌∙◌, take, rules}
use Rattle.std.proofs.KnownBytes.{Appends-trans}
use Rattle.mk_transfer.proofs.Slices.{append-take-drop}
use Rattle.mk_transfer.proofs.transfer.write_all.Goals as goal

pub loop-rest-preserved : goal.loop-rest-preserved
loop-rest-preserved g c =
    let before = c.loop-rest.invariant.bytes in
    let count = c.in_ok-count.count in
    record {
      bytes = (
        before.0 ++ take count c.loop-rest.rest.now,
        append-take-drop count before.0 c.loop-rest.rest.now _ before.1,
        Appends-trans _ _ _ _ _ before.2 c.in_ok-count.ensures.bytes,
      );
      well = search rules;
      unfinished = c.in_ok-count.ensures.unfinished ∙ c.loop-rest.invariant.unfinished;
    }
