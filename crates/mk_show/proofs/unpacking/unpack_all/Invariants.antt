use Rattle.std.proofs.Common.{◌≡◌, map, take}
use Rattle.mk_tree.specs.Documents.{Document}
use Rattle.mk_view.specs.LeafViews.{AreAt, leaf_view}
use Rattle.mk_show.specs.Unpacking.{task_of}
use Rattle.mk_show.specs.UnpackClauses.{UnpackedAll, written, NoneFailed, failures}
use Rattle.mk_show.proofs.unpacking.unpack_all.Given as goal

abbrev pub invariant-loop-leaf : goal.invariant-loop-leaf
invariant-loop-leaf g l = record {
  done : (t : Document) → AreAt t l.leaves → UnpackedAll l.manner t (map (task_of l.cut) (map leaf_view (take l.leaf-index l.leaves))) l.refused
      (written (g.O.Sink.contents l.fn.out) (g.E.Sink.contents l.fn.err) (g.F.Folder.files l.fn.dir))
      (written (g.O.Sink.contents l.out) (g.E.Sink.contents l.err) (g.F.Folder.files l.dir));
  well : NoneFailed (failures (g.O.Sink.failures l.fn.out) (g.E.Sink.failures l.fn.err) (g.F.Folder.failures l.fn.dir))
      (failures (g.O.Sink.failures l.out) (g.E.Sink.failures l.err) (g.F.Folder.failures l.dir));
  unfinished : g.O.Sink.finishes l.out ≡ g.O.Sink.finishes l.fn.out;
}
