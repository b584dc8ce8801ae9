use Rattle.std.proofs.Common.{◌≡◌, ◌++◌, map}
use Rattle.std.specs.Vec.Iter.{into_iter_items}
use Rattle.mk_tree.specs.Documents.{Document}
use Rattle.mk_view.specs.GivenNames.{AreSafe}
use Rattle.mk_view.specs.LeafViews.{AreAt, leaf_view}
use Rattle.mk_show.specs.Chosen.{within}
use Rattle.mk_script.specs.ScriptViews.{items_of}
use Rattle.mk_show.proofs.choosing.within.Given as goal

abbrev pub invariant-loop-leaf : goal.invariant-loop-leaf
invariant-loop-leaf l = record {
  kept : map leaf_view l.kept.items ++ within (items_of l.sections) (map leaf_view (into_iter_items l.leaf-iterator)) ≡ within (items_of l.sections) (map leaf_view l.fn.leaves.items);
  safe : AreSafe (map leaf_view l.fn.leaves.items) → AreSafe (map leaf_view (into_iter_items l.leaf-iterator)) × AreSafe (map leaf_view l.kept.items);
  placed : (t : Document) → AreAt t l.fn.leaves.items → AreAt t (into_iter_items l.leaf-iterator) × AreAt t l.kept.items;
}
