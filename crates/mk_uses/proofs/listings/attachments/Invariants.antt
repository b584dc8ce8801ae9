use Rattle.std.proofs.Common.{◌≡◌, map}
use Rattle.mk_tree.specs.Documents.{tree}
use Rattle.mk_view.specs.LeafViews.{AreAt, leaf_view}
use Rattle.mk_uses.specs.Walked.{AreContents, path_and_name}
use Rattle.mk_uses.proofs.listings.attachments.Given as goal

abbrev pub invariant-loop-leaf : goal.invariant-loop-leaf
invariant-loop-leaf l = (map path_and_name l.found.items ≡ map leaf_view l.yielded) × AreContents (tree l.doc) l.found.items × AreAt (tree l.doc) l.leaf-iterator.rest.items
