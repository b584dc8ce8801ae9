use Rattle.std.proofs.Common.{[], map}
use Rattle.std.specs.Vec.Iter.{into_iter_items}
use Rattle.mk_tree.specs.Documents.{Document}
use Rattle.mk_view.specs.GivenNames.{AreGiven, given_after}
use Rattle.mk_view.specs.LeafViews.{AreAt, leaf_view}
use Rattle.mk_view.specs.inner.Taken.{Knows, number_at}
use Rattle.mk_view.proofs.giving.give_all.Given as goal

abbrev pub invariant-loop-leaf : goal.invariant-loop-leaf
invariant-loop-leaf l = record {
  knows : Knows (number_at l.taken) (given_after [] (map leaf_view l.leaves.items));
  given : AreGiven [] (map leaf_view l.yielded) (map leaf_view l.leaves.items);
  placed : (t : Document) → AreAt t l.fn.list.items → AreAt t (into_iter_items l.leaf-iterator) × AreAt t l.leaves.items;
}
