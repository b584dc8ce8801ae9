use Rattle.std.proofs.Common.{◌≡◌, ◌++◌, length, map}
use Rattle.std.specs.List.{flat_map}
use Rattle.std.specs.Vec.Iter.{into_iter_items, into_iter_len}
use Rattle.mk_tree.specs.Documents.{tree}
use Rattle.mk_view.specs.LeafViews.{AreAt, leaf_view}
use Rattle.mk_view.specs.Listed.{listed}
use Rattle.mk_view.specs.ListedViews.{AreListedAt, listed_view}
use Rattle.mk_view.specs.TextNames.{stored_in}
use Rattle.mk_view.proofs.storing.leaves_in.Given as goal

abbrev pub invariant-loop-listed : goal.invariant-loop-listed
invariant-loop-listed l = record {
  stored : map leaf_view l.list.items ++ flat_map (stored_in l.storing) (map listed_view (into_iter_items l.listed-iterator)) ≡ flat_map (stored_in l.storing) (listed (tree l.doc));
  placed : AreAt (tree l.doc) l.list.items;
  counted : length (into_iter_items l.listed-iterator) ≡ into_iter_len l.listed-iterator;
  rest : AreListedAt (tree l.doc) (into_iter_items l.listed-iterator);
}
