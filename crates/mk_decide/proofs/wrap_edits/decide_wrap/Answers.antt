use Rattle.std.proofs.Common.{◌∙◌, arith, refl, sym}
use Rattle.mk_decide.specs.Edits.{Wrap}
use Rattle.mk_decide.specs.LocalAnswers.{after_first}
use Rattle.mk_decide.specs.WrapAnswers.{wrap_answer}
use Rattle.mk_decide.proofs.Decisions.{told_ok, told_err, told_none}
use Rattle.mk_decide.proofs.WrapCounts.{looked_most}
use Rattle.mk_decide.proofs.WrapFits.{wrap_answers}
use Rattle.mk_decide.proofs.wrap_edits.decide_wrap.Goals as goal

pub returns-in-Some-clause-ok : goal.returns-in-Some-clause-ok
returns-in-Some-clause-ok c =
    let path = c.args.path.now in
    let subtype = c.args.subtype.now in
    let boundary = c.args.boundary.now in
    let section = c.in-Some.section in
    told_ok (Wrap path subtype boundary) c.args.doc.now (wrap_answer c.args.doc.now (after_first path) subtype boundary section) c.wrap.result (wrap_answers c.args.doc.now path subtype boundary section (sym c.section.ensures ∙ c.in-Some.is)) c.wrap.ensures.ok

pub returns-in-Some-clause-err : goal.returns-in-Some-clause-err
returns-in-Some-clause-err c =
    let path = c.args.path.now in
    let subtype = c.args.subtype.now in
    let boundary = c.args.boundary.now in
    let section = c.in-Some.section in
    told_err (Wrap path subtype boundary) c.args.doc.now (wrap_answer c.args.doc.now (after_first path) subtype boundary section) c.wrap.result (wrap_answers c.args.doc.now path subtype boundary section (sym c.section.ensures ∙ c.in-Some.is)) c.wrap.ensures.err

pub returns-in-Some-clause-most : goal.returns-in-Some-clause-most
returns-in-Some-clause-most c =
    let most = looked_most c.args.doc.now c.args.path.now c.args.subtype.now c.args.boundary.now c.in-Some.section (sym c.section.ensures ∙ c.in-Some.is) in
    omega (arith, most, c.wrap.ensures.most)

pub returns-in-None-clause-err : goal.returns-in-None-clause-err
returns-in-None-clause-err c = told_none (Wrap c.args.path.now c.args.subtype.now c.args.boundary.now) c.args.doc.now c.args.path.now c.section.result refl c.section.ensures c.in-None.is
