use Rattle.std.proofs.Common.{◌∙◌, refl, sym}
use Rattle.mk_tree.specs.Documents.{tree}
use Rattle.mk_tree.specs.Sections.{section_at}
use Rattle.mk_decide.specs.Edits.{SetSection}
use Rattle.mk_decide.specs.LocalAnswers.{after_first}
use Rattle.mk_decide.specs.SectionAnswers.{outer_path, section_answer}
use Rattle.mk_decide.proofs.SectionFits.{section_answers}
use Rattle.mk_decide.proofs.Decisions.{told_ok, told_err, told_none}
use Rattle.mk_decide.proofs.section_edits.decide_section.Goals as goal

pub returns-in-Some-clause-ok : goal.returns-in-Some-clause-ok
returns-in-Some-clause-ok c =
    told_ok (SetSection c.args.path.now c.args.text.now) c.args.doc.now (section_answer c.args.doc.now (after_first c.args.path.now) c.args.text.now (section_at (outer_path c.args.path.now) (tree c.args.doc.now)) c.in-Some.section) c.section_in_place.result
    (section_answers c.args.doc.now c.args.path.now c.args.text.now c.in-Some.section (sym c.section.ensures ∙ c.in-Some.is)) c.section_in_place.ensures.ok

pub returns-in-Some-clause-err : goal.returns-in-Some-clause-err
returns-in-Some-clause-err c =
    told_err (SetSection c.args.path.now c.args.text.now) c.args.doc.now (section_answer c.args.doc.now (after_first c.args.path.now) c.args.text.now (section_at (outer_path c.args.path.now) (tree c.args.doc.now)) c.in-Some.section) c.section_in_place.result
    (section_answers c.args.doc.now c.args.path.now c.args.text.now c.in-Some.section (sym c.section.ensures ∙ c.in-Some.is)) c.section_in_place.ensures.err

pub returns-in-None-clause-err : goal.returns-in-None-clause-err
returns-in-None-clause-err c = told_none (SetSection c.args.path.now c.args.text.now) c.args.doc.now c.args.path.now c.section.result refl c.section.ensures c.in-None.is
