use Rattle.std.proofs.Common.{◌∙◌, refl, sym}
use Rattle.mk_decide.specs.Edits.{SetBody}
use Rattle.mk_decide.specs.LocalAnswers.{after_first}
use Rattle.mk_decide.specs.SectionAnswers.{body_answer}
use Rattle.mk_decide.proofs.BodyFits.{body_answers}
use Rattle.mk_decide.proofs.Decisions.{told_ok, told_err, told_none}
use Rattle.mk_decide.proofs.section_edits.decide_body.Goals as goal

pub returns-in-Some-clause-ok : goal.returns-in-Some-clause-ok
returns-in-Some-clause-ok c =
    told_ok (SetBody c.args.path.now c.args.text.now) c.args.doc.now (body_answer c.args.doc.now (after_first c.args.path.now) c.args.text.now c.in-Some.section) c.body_in_place.result
    (body_answers c.args.doc.now c.args.path.now c.args.text.now c.in-Some.section (sym c.section.ensures ∙ c.in-Some.is)) c.body_in_place.ensures.ok

pub returns-in-Some-clause-err : goal.returns-in-Some-clause-err
returns-in-Some-clause-err c =
    told_err (SetBody c.args.path.now c.args.text.now) c.args.doc.now (body_answer c.args.doc.now (after_first c.args.path.now) c.args.text.now c.in-Some.section) c.body_in_place.result
    (body_answers c.args.doc.now c.args.path.now c.args.text.now c.in-Some.section (sym c.section.ensures ∙ c.in-Some.is)) c.body_in_place.ensures.err

pub returns-in-None-clause-err : goal.returns-in-None-clause-err
returns-in-None-clause-err c = told_none (SetBody c.args.path.now c.args.text.now) c.args.doc.now c.args.path.now c.section.result refl c.section.ensures c.in-None.is
