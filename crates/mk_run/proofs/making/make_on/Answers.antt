use Rattle.std.proofs.Common.{refl, subst}
use Rattle.mk_tree.specs.Documents.{tree}
use Rattle.mk_edit.specs.Histories.{text_now}
use Rattle.mk_expand.specs.Words.{meaning_of}
use Rattle.mk_expand.specs.Views.{pieces_of, IsFault}
use Rattle.mk_script.specs.ScriptViews.{said_by}
use Rattle.mk_run.proofs.WordsMade.{fault_refused}
use Rattle.mk_run.proofs.making.make_on.Goals as goal

pub returns-in-Err : goal.returns-in-Err
returns-in-Err c = (
  refl,
  fault_refused _ (tree (text_now c.args.session.now)) c.in-Err.fault (meaning_of (pieces_of c.args.pieces) c.args.eol (tree (text_now c.args.session.now)) (said_by c.args.word.word))
      (subst (λ x. IsFault c.in-Err.fault (meaning_of (pieces_of c.args.pieces) c.args.eol (tree x) (said_by c.args.word.word))) c.doc.ensures c.in-Err.ensures.fault),
)
