use Rattle.std.proofs.Common.{◌≡◌, ◌++◌, length, map}
use Rattle.std.specs.List.{flat_map}
use Rattle.std.specs.Vec.Iter.{into_iter_items, into_iter_len}
use Rattle.mk_tree.specs.Documents.{tree}
use Rattle.mk_decide.specs.Views.{edit_of}
use Rattle.mk_view.specs.Listed.{listed}
use Rattle.mk_view.specs.ListedViews.{listed_view}
use Rattle.mk_uses.specs.Inserted.{insertion}
use Rattle.mk_uses.proofs.insertions.insertions.Given as goal

abbrev pub invariant-loop-listed : goal.invariant-loop-listed
invariant-loop-listed l = record {
  made : map edit_of l.edits.items ++ flat_map (insertion l.part) (map listed_view (into_iter_items l.listed-iterator)) ≡ flat_map (insertion l.part) (listed (tree l.doc));
  counted : length (into_iter_items l.listed-iterator) ≡ into_iter_len l.listed-iterator;
}
