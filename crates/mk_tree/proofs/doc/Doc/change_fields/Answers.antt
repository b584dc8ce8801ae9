use Rattle.mk_tree.proofs.Spliced.{fields_put}
use Rattle.mk_tree.proofs.Stability.{read_stable}
use Rattle.mk_tree.specs.Documents.{tree}
use Rattle.mk_tree.proofs.doc.Doc.change_fields.Goals as goal

pub put-requires : goal.put-requires
put-requires c = fields_put (tree c.args.self.now) c.args.path.now c.args.place c.args.count c.args.text.now c.in_ok-digest.digest c.requires (read_stable c.args.self.now) c.in_ok-digest.ensures
