use Rattle.std.proofs.Common.{arith}
use Rattle.mk_decide.proofs.FieldAnswers.{following_is, found_ok, found_err, missing_err}
use Rattle.mk_decide.proofs.LineCounts.{found_most}
use Rattle.mk_decide.proofs.field_answers.decide_fields.Goals as goal

pub returns-in-Some-clause-ok : goal.returns-in-Some-clause-ok
returns-in-Some-clause-ok c = found_ok c.args.doc.now c.args.path.now _ c.args.edit.now c.in-Some.section c.section.result c.decide_at.result c.section.ensures c.in-Some.is (following_is c.args.path.now) c.decide_at.ensures.ok

pub returns-in-Some-clause-err : goal.returns-in-Some-clause-err
returns-in-Some-clause-err c = found_err c.args.doc.now c.args.path.now _ c.args.edit.now c.in-Some.section c.section.result c.decide_at.result c.section.ensures c.in-Some.is (following_is c.args.path.now) c.decide_at.ensures.err

pub returns-in-None-clause-err : goal.returns-in-None-clause-err
returns-in-None-clause-err c = missing_err c.args.doc.now c.args.path.now c.args.edit.now c.section.result c.section.ensures c.in-None.is

pub returns-in-Some-clause-most : goal.returns-in-Some-clause-most
returns-in-Some-clause-most c =
    let most = found_most c.args.doc.now c.args.path.now c.args.edit.now c.in-Some.section c.section.result c.section.ensures c.in-Some.is in
    omega (arith, most, c.decide_at.ensures.most)
