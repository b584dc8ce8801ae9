use Rattle.std.proofs.Common.{◌∙◌, refl, sym}
use Rattle.mk_tree.specs.Documents.{tree}
use Rattle.mk_tree.specs.Sections.{section_at}
use Rattle.mk_decide.specs.Edits.{RemovePart}
use Rattle.mk_decide.specs.SectionAnswers.{outer_path, last_number, removal_answer}
use Rattle.mk_decide.proofs.RemovalFits.{removal_answers}
use Rattle.mk_decide.proofs.Decisions.{told_ok, told_err, told_none}
use Rattle.mk_decide.proofs.part_edits.decide_removal.Goals as goal

pub returns-in-Some-clause-ok : goal.returns-in-Some-clause-ok
returns-in-Some-clause-ok c =
    told_ok (RemovePart c.args.path.now) c.args.doc.now (removal_answer (last_number c.args.path.now) (section_at (outer_path c.args.path.now) (tree c.args.doc.now)) c.in-Some.section) c.remove.result
    (removal_answers c.args.doc.now c.args.path.now c.in-Some.section (sym c.section.ensures ∙ c.in-Some.is)) c.remove.ensures.ok

pub returns-in-Some-clause-err : goal.returns-in-Some-clause-err
returns-in-Some-clause-err c =
    told_err (RemovePart c.args.path.now) c.args.doc.now (removal_answer (last_number c.args.path.now) (section_at (outer_path c.args.path.now) (tree c.args.doc.now)) c.in-Some.section) c.remove.result
    (removal_answers c.args.doc.now c.args.path.now c.in-Some.section (sym c.section.ensures ∙ c.in-Some.is)) c.remove.ensures.err

pub returns-in-None-clause-err : goal.returns-in-None-clause-err
returns-in-None-clause-err c = told_none (RemovePart c.args.path.now) c.args.doc.now c.args.path.now c.section.result refl c.section.ensures c.in-None.is
