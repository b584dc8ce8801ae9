use Rattle.std.proofs.Common.{refl, arith}
use Rattle.std.proofs.lemmas.Result.{err_from_is_err_and}
use Rattle.mk_edit.specs.Histories.{text_now}
use Rattle.mk_decide.specs.LocalAnswers.{plain_splice}
use Rattle.mk_decide.specs.Views.{edit_of}
use Rattle.mk_splice.specs.Views.{steps_of}
use Rattle.mk_edit.proofs.Moves.{put_text, step_refused, decided_at, lines_same}
use Rattle.mk_edit.proofs.session.Session.edit.Goals as goal

pub returns-in_err-made-clause-does : goal.returns-in_err-made-clause-does
returns-in_err-made-clause-does c =
    let p = err_from_is_err_and c.from_residual.result c.from_residual.ensures.1 in
    rw (p.1, p.2) (refl, step_refused (edit_of c.args.edit.now) c.args.self.now c.self.inside.doc _ (put_text c.args.self.now c.self.inside.doc (steps_of c.self.inside.steps.items) c.self.inside.done c.self.invariant c.self.view_is) c.in_err-made.ensures.err)

pub returns-in_err-made-clause-most : goal.returns-in_err-made-clause-most
returns-in_err-made-clause-most c = omega (arith, c.in_err-made.ensures.most, lines_same (edit_of c.args.edit.now) c.self.inside.doc (text_now c.args.self.now) (put_text c.args.self.now c.self.inside.doc (steps_of c.self.inside.steps.items) c.self.inside.done c.self.invariant c.self.view_is))

pub put-requires : goal.put-requires
put-requires c = decided_at (edit_of c.args.edit.now) c.self.inside.doc (text_now c.args.self.now) (plain_splice c.in_ok-made.made) (put_text c.args.self.now c.self.inside.doc (steps_of c.self.inside.steps.items) c.self.inside.done c.self.invariant c.self.view_is) c.in_ok-made.ensures.ok

pub returns-in_err-put-clause-most : goal.returns-in_err-put-clause-most
returns-in_err-put-clause-most c = omega (arith, c.in_ok-made.ensures.most, lines_same (edit_of c.args.edit.now) c.self.inside.doc (text_now c.args.self.now) (put_text c.args.self.now c.self.inside.doc (steps_of c.self.inside.steps.items) c.self.inside.done c.self.invariant c.self.view_is))

pub returns-clause-most : goal.returns-clause-most
returns-clause-most c = omega (arith, c.in_ok-made.ensures.most, lines_same (edit_of c.args.edit.now) c.self.inside.doc (text_now c.args.self.now) (put_text c.args.self.now c.self.inside.doc (steps_of c.self.inside.steps.items) c.self.inside.done c.self.invariant c.self.view_is))
