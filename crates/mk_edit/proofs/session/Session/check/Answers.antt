use Rattle.std.proofs.Common.{arith}
use Rattle.std.proofs.lemmas.Result.{err_from_is_err_and}
use Rattle.mk_tree.specs.Documents.{tree}
use Rattle.mk_edit.specs.Histories.{text_now}
use Rattle.mk_decide.specs.LocalAnswers.{plain_splice}
use Rattle.mk_decide.specs.Outcomes.{edited}
use Rattle.mk_decide.specs.Views.{edit_of}
use Rattle.mk_splice.specs.Views.{steps_of}
use Rattle.mk_edit.proofs.Moves.{put_text, refused_at, decided_at, is_accepted, lines_same}
use Rattle.mk_edit.proofs.session.Session.check.Goals as goal

pub returns-in_err-decide-clause-answers : goal.returns-in_err-decide-clause-answers
returns-in_err-decide-clause-answers c =
    let p = err_from_is_err_and c.from_residual.result c.from_residual.ensures.1 in
    rw (p.1, p.2) (refused_at (edit_of c.args.edit.now) c.self.inside.doc (text_now c.args.self.now) _ (put_text c.args.self.now c.self.inside.doc (steps_of c.self.inside.steps.items) c.self.inside.done c.self.invariant c.self.view_is) c.in_err-decide.ensures.err)

pub returns-in_err-decide-clause-most : goal.returns-in_err-decide-clause-most
returns-in_err-decide-clause-most c = omega (arith, c.in_err-decide.ensures.most, lines_same (edit_of c.args.edit.now) c.self.inside.doc (text_now c.args.self.now) (put_text c.args.self.now c.self.inside.doc (steps_of c.self.inside.steps.items) c.self.inside.done c.self.invariant c.self.view_is))

pub returns-clause-answers : goal.returns-clause-answers
returns-clause-answers c =
    let d = decided_at (edit_of c.args.edit.now) c.self.inside.doc (text_now c.args.self.now) (plain_splice c.in_ok-decide.field-0) (put_text c.args.self.now c.self.inside.doc (steps_of c.self.inside.steps.items) c.self.inside.done c.self.invariant c.self.view_is) c.in_ok-decide.ensures.ok in
    is_accepted (edited (edit_of c.args.edit.now) (tree (text_now c.args.self.now))) d.document d.accepted

pub returns-clause-most : goal.returns-clause-most
returns-clause-most c = omega (arith, c.in_ok-decide.ensures.most, lines_same (edit_of c.args.edit.now) c.self.inside.doc (text_now c.args.self.now) (put_text c.args.self.now c.self.inside.doc (steps_of c.self.inside.steps.items) c.self.inside.done c.self.invariant c.self.view_is))
