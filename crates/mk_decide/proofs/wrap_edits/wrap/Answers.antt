use Rattle.std.proofs.Common.{◌∙◌, sym}
use Rattle.mk_decide.proofs.FieldAnswers.{following_is}
use Rattle.mk_decide.proofs.WrapAnswered.{in_ok, in_err}
use Rattle.mk_decide.proofs.wrap_edits.wrap.Goals as goal

pub returns-clause-ok : goal.returns-clause-ok
returns-clause-ok c =
    in_ok c.args.doc.now c.args.path.now _ c.args.subtype.now c.args.boundary.now c.args.section.now c.wrap_in_place.result (following_is c.args.path.now) (sym c.is_boundary.ensures ∙ c.if-not-is_boundary.false) (sym c.is_token.ensures ∙ c.if-not-is_token.false)
    c.wrap_in_place.ensures.ok

pub returns-clause-err : goal.returns-clause-err
returns-clause-err c =
    in_err c.args.doc.now c.args.path.now _ c.args.subtype.now c.args.boundary.now c.args.section.now c.wrap_in_place.result (following_is c.args.path.now) (sym c.is_boundary.ensures ∙ c.if-not-is_boundary.false) (sym c.is_token.ensures ∙ c.if-not-is_token.false)
    c.wrap_in_place.ensures.err
