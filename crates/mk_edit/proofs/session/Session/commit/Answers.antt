use Rattle.std.proofs.Common.{◌∙◌, ◌++◌, [], ◌∷◌, ap, map, take}
use Rattle.mk_splice.specs.Views.{splice_of, steps_of}
use Rattle.mk_edit.proofs.GroupsKept.{commit_moves, commit_seen}
use Rattle.mk_edit.proofs.session.Session.commit.Goals as goal

pub invariant_of-self-2 : goal.invariant_of-self-2
invariant_of-self-2 c =
    (commit_moves c.args.self.now c.args.group c.self.inside.doc c.group.inside.doc c.self.inside.steps.items c.put_step.new.steps.items c.group.inside.steps.items c.self.inside.done c.group.inside.done c.in_ok-step.step
    c.self.invariant c.self.view_is c.group.invariant c.group.view_is c.requires c.in_ok-step.ensures
    (c.put_step.ensures ∙ ap (λ vs. take c.self.inside.done vs ++ c.in_ok-step.step ∷ []) c.in_ok-reserve.ensures.items)).fits

pub returns-clause-ok : goal.returns-clause-ok
returns-clause-ok c =
    commit_seen c.args.self.now c.args.group c.self.inside.doc c.group.inside.doc (steps_of c.self.inside.steps.items) (steps_of c.put_step.new.steps.items) (steps_of c.group.inside.steps.items) c.self.inside.done c.group.inside.done (map splice_of c.in_ok-step.step.items)
    c.self.view_is c.group.invariant c.group.view_is c.in_ok-step.ensures
    (commit_moves c.args.self.now c.args.group c.self.inside.doc c.group.inside.doc c.self.inside.steps.items c.put_step.new.steps.items c.group.inside.steps.items c.self.inside.done c.group.inside.done c.in_ok-step.step
    c.self.invariant c.self.view_is c.group.invariant c.group.view_is c.requires c.in_ok-step.ensures
    (c.put_step.ensures ∙ ap (λ vs. take c.self.inside.done vs ++ c.in_ok-step.step ∷ []) c.in_ok-reserve.ensures.items))
