use Rattle.std.proofs.Common.{◌∙◌, ◌++◌, [], ◌∷◌, refl, ap, map, take}
use Rattle.std.proofs.lemmas.Result.{err_from_is_err_and}
use Rattle.mk_decide.specs.Views.{edit_of}
use Rattle.mk_splice.specs.Views.{splice_of, steps_of}
use Rattle.mk_edit.proofs.GroupMoves.{group_moves, group_accepted, group_refused}
use Rattle.mk_edit.proofs.Moves.{put_text}
use Rattle.mk_edit.proofs.session.Session.group.Goals as goal

pub returns-in_err-doc : goal.returns-in_err-doc
returns-in_err-doc c =
    let p = err_from_is_err_and c.from_residual.result c.from_residual.ensures.1 in
    rw (p.1, p.2) (refl, group_refused (map edit_of c.args.list.now) c.args.self.now c.self.inside.doc _ (put_text c.args.self.now c.self.inside.doc (steps_of c.self.inside.steps.items) c.self.inside.done c.self.invariant c.self.view_is) c.in_err-doc.ensures.err)

pub invariant_of-self-2 : goal.invariant_of-self-2
invariant_of-self-2 c =
    (group_moves (map edit_of c.args.list.now) c.self.inside.doc c.self.inside.steps.items c.put_step.new.steps.items c.self.inside.done c.in_ok-doc.step c.in_ok-doc.doc c.self.invariant c.in_ok-doc.ensures.ok
    (c.put_step.ensures ∙ ap (λ vs. take c.self.inside.done vs ++ c.in_ok-doc.step ∷ []) c.in_ok-reserve.ensures.items)).fits

pub returns : goal.returns
returns c =
    group_accepted (map edit_of c.args.list.now) c.args.self.now c.self.inside.doc c.in_ok-doc.doc (steps_of c.self.inside.steps.items) (steps_of c.put_step.new.steps.items) c.self.inside.done (map splice_of c.in_ok-doc.step.items) c.self.invariant c.self.view_is c.in_ok-doc.ensures.ok
    (group_moves (map edit_of c.args.list.now) c.self.inside.doc c.self.inside.steps.items c.put_step.new.steps.items c.self.inside.done c.in_ok-doc.step c.in_ok-doc.doc c.self.invariant c.in_ok-doc.ensures.ok
    (c.put_step.ensures ∙ ap (λ vs. take c.self.inside.done vs ++ c.in_ok-doc.step ∷ []) c.in_ok-reserve.ensures.items))
