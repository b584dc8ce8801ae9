use Rattle.std.proofs.Common.{◌∙◌, ap}
use Rattle.mk_line.specs.Lines.{cut, eol_of}
use Rattle.mk_expand.specs.Views.{pieces_of}
use Rattle.mk_script.specs.ScriptViews.{said_by}
use Rattle.mk_run.proofs.InTurn.{word_does}
use Rattle.mk_run.proofs.making.make_word.Goals as goal

pub returns : goal.returns
returns c =
    word_does c.make_on.result (pieces_of c.args.pieces) c.args.word.number (said_by c.args.word.word) c.eol_of-eol.result c.args.session.now c.make_on.new.session
    (c.eol_of-eol.ensures ∙ ap (λ x. eol_of (cut x)) c.text.ensures.now) c.make_on.ensures
