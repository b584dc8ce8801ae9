use Rattle.std.proofs.Common.{◌≡◌, length, map}
use Rattle.std.specs.Vec.Iter.{into_iter_items, into_iter_len}
use Rattle.mk_tree.specs.Documents.{tree}
use Rattle.mk_view.specs.Listed.{listed}
use Rattle.mk_view.specs.ListedViews.{listed_view}
use Rattle.mk_check.proofs.InTurn.{GoesOnto}
use Rattle.mk_check.proofs.checking.findings.Given as goal

abbrev pub invariant-loop-listed : goal.invariant-loop-listed
invariant-loop-listed l = record {
  lines : GoesOnto l.form (listed (tree l.doc)) (map listed_view (into_iter_items l.listed-iterator)) l.text.items;
  counted : length (into_iter_items l.listed-iterator) ≡ into_iter_len l.listed-iterator;
}
