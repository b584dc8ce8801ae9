use Rattle.std.proofs.Common.{◌∙◌, ◌++◌, [], ◌∷◌, ap, map, take}
use Rattle.mk_splice.specs.Views.{splice_of, steps_of}
use Rattle.mk_edit.proofs.GroupMoves.{group_moves, group_accepted}
use Rattle.mk_edit.proofs.OneEdit.{none_made}
use Rattle.mk_edit.proofs.session.Session.edit_nothing.Goals as goal

pub invariant_of-self-2 : goal.invariant_of-self-2
invariant_of-self-2 c =
    (group_moves [] c.self.inside.doc c.self.inside.steps.items c.put_step.new.steps.items c.self.inside.done c.new-none.result c.self.inside.doc c.self.invariant (none_made c.self.inside.doc c.new-none.result c.new-none.ensures.items)
    (c.put_step.ensures ∙ ap (λ vs. take c.self.inside.done vs ++ c.new-none.result ∷ []) c.in_ok-reserve.ensures.items)).fits

pub returns : goal.returns
returns c =
    group_accepted [] c.args.self.now c.self.inside.doc c.self.inside.doc (steps_of c.self.inside.steps.items) (steps_of c.put_step.new.steps.items) c.self.inside.done (map splice_of c.new-none.result.items) c.self.invariant c.self.view_is (none_made c.self.inside.doc c.new-none.result c.new-none.ensures.items)
    (group_moves [] c.self.inside.doc c.self.inside.steps.items c.put_step.new.steps.items c.self.inside.done c.new-none.result c.self.inside.doc c.self.invariant (none_made c.self.inside.doc c.new-none.result c.new-none.ensures.items)
    (c.put_step.ensures ∙ ap (λ vs. take c.self.inside.done vs ++ c.new-none.result ∷ []) c.in_ok-reserve.ensures.items))
