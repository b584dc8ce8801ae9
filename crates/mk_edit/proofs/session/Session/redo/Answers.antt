use Rattle.std.proofs.Common.{◌∙◌}
use Rattle.mk_splice.specs.Views.{steps_of}
use Rattle.mk_edit.proofs.Moves.{redo_less, redo_ready, redo_moves, redo_steps}
use Rattle.mk_edit.proofs.session.Session.redo.Goals as goal

pub make_again-requires : goal.make_again-requires
make_again-requires c =
    redo_ready c.self.inside.doc c.self.inside.steps.items c.self.inside.done c.index.result.now c.deref.result.now c.self.invariant
    (redo_less c.self.inside.doc c.self.inside.steps.items c.self.inside.done c.len.result c.self.invariant (c.len.ensures ∙ c.self.inside.steps.ok.0) c.if-self-len.false)
    c.index.ensures c.deref.ensures.value

pub invariant_of-self-2 : goal.invariant_of-self-2
invariant_of-self-2 c =
    (redo_moves c.self.inside.doc c.self.inside.steps.items c.self.inside.done c.index.result.now c.deref.result.now c.make_again.new.self c.self.invariant
    (redo_less c.self.inside.doc c.self.inside.steps.items c.self.inside.done c.len.result c.self.invariant (c.len.ensures ∙ c.self.inside.steps.ok.0) c.if-self-len.false)
    c.index.ensures c.deref.ensures.value c.in_ok-make_again.ensures.ok).fits

pub returns : goal.returns
returns c =
    redo_steps c.args.self.now c.self.inside.doc c.make_again.new.self (steps_of c.self.inside.steps.items) c.self.inside.done c.self.view_is
    (redo_less c.self.inside.doc c.self.inside.steps.items c.self.inside.done c.len.result c.self.invariant (c.len.ensures ∙ c.self.inside.steps.ok.0) c.if-self-len.false)
    (redo_moves c.self.inside.doc c.self.inside.steps.items c.self.inside.done c.index.result.now c.deref.result.now c.make_again.new.self c.self.invariant
    (redo_less c.self.inside.doc c.self.inside.steps.items c.self.inside.done c.len.result c.self.invariant (c.len.ensures ∙ c.self.inside.steps.ok.0) c.if-self-len.false)
    c.index.ensures c.deref.ensures.value c.in_ok-make_again.ensures.ok)
