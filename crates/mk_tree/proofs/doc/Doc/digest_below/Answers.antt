use Rattle.mk_tree.specs.Documents.{tree}
use Rattle.mk_tree.proofs.Spliced.{begins_at}
use Rattle.mk_tree.proofs.doc.Doc.digest_below.Goals as goal

pub overflow_sub-place : goal.overflow_sub-place
overflow_sub-place c = (begins_at (tree c.args.self.now) c.args.path.now c.args.place c.args.count c.start.result c.args.text.now c.requires c.section.result c.in-Some.section c.section.ensures c.in-Some.is c.start.ensures).0

pub digest_after-requires : goal.digest_after-requires
digest_after-requires c = (begins_at (tree c.args.self.now) c.args.path.now c.args.place c.args.count c.start.result c.args.text.now c.requires c.section.result c.in-Some.section c.section.ensures c.in-Some.is c.start.ensures).1
