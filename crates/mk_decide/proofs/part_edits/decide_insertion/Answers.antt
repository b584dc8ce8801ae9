use Rattle.std.proofs.Common.{◌∙◌, refl, sym}
use Rattle.mk_decide.specs.Edits.{InsertPart}
use Rattle.mk_decide.specs.LocalAnswers.{after_first}
use Rattle.mk_decide.specs.SectionAnswers.{insertion_answer}
use Rattle.mk_decide.proofs.InsertionFits.{insertion_answers}
use Rattle.mk_decide.proofs.Decisions.{told_ok, told_err, told_none}
use Rattle.mk_decide.proofs.part_edits.decide_insertion.Goals as goal

pub returns-in-Some-clause-ok : goal.returns-in-Some-clause-ok
returns-in-Some-clause-ok c =
    told_ok (InsertPart c.args.path.now c.args.place c.args.text.now) c.args.doc.now (insertion_answer c.args.doc.now (after_first c.args.path.now) c.args.text.now c.args.place c.in-Some.section) c.insert.result
    (insertion_answers c.args.doc.now c.args.path.now c.args.text.now c.args.place c.in-Some.section (sym c.section.ensures ∙ c.in-Some.is)) c.insert.ensures.ok

pub returns-in-Some-clause-err : goal.returns-in-Some-clause-err
returns-in-Some-clause-err c =
    told_err (InsertPart c.args.path.now c.args.place c.args.text.now) c.args.doc.now (insertion_answer c.args.doc.now (after_first c.args.path.now) c.args.text.now c.args.place c.in-Some.section) c.insert.result
    (insertion_answers c.args.doc.now c.args.path.now c.args.text.now c.args.place c.in-Some.section (sym c.section.ensures ∙ c.in-Some.is)) c.insert.ensures.err

pub returns-in-None-clause-err : goal.returns-in-None-clause-err
returns-in-None-clause-err c = told_none (InsertPart c.args.path.now c.args.place c.args.text.now) c.args.doc.now c.args.path.now c.section.result refl c.section.ensures c.in-None.is
