use Rattle.mk_tree.specs.Documents.{tree}
use Rattle.mk_decide.specs.Views.{edit_of}
use Rattle.mk_expand.specs.Views.{pieces_of}
use Rattle.mk_script.specs.ScriptViews.{said_by}
use Rattle.mk_run.proofs.PlainWords.{popped}
use Rattle.mk_run.proofs.making.plain_edit.Goals as goal

pub returns-in-Some : goal.returns-in-Some
returns-in-Some c =
    popped edit_of (pieces_of c.args.pieces) c.args.eol (tree c.args.doc.now) (said_by c.args.word.now) c.in-Ok.edits.items c.pop.new.self.items c.pop.result c.in-Some.edit c.requires.plain c.in-Ok.ensures.edits c.pop.ensures.items c.in-Some.is
