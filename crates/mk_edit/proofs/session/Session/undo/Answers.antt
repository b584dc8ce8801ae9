use Rattle.mk_splice.specs.Views.{steps_of}
use Rattle.mk_edit.proofs.Moves.{undo_ready, undo_moves, undo_steps}
use Rattle.mk_edit.proofs.session.Session.undo.Goals as goal

pub take_back-requires : goal.take_back-requires
take_back-requires c = undo_ready c.self.inside.doc c.self.inside.steps.items c.self.inside.done c.index.result.now c.deref.result.now c.self.invariant c.if-self-eq0.false c.index.ensures c.deref.ensures.value

pub invariant_of-self-2 : goal.invariant_of-self-2
invariant_of-self-2 c =
    (undo_moves c.self.inside.doc c.self.inside.steps.items c.self.inside.done c.index.result.now c.deref.result.now c.take_back.new.self c.self.invariant c.if-self-eq0.false c.index.ensures c.deref.ensures.value c.in_ok-take_back.ensures.ok).fits

pub returns : goal.returns
returns c =
    undo_steps c.args.self.now c.self.inside.doc c.take_back.new.self (steps_of c.self.inside.steps.items) c.self.inside.done c.self.view_is c.if-self-eq0.false
    (undo_moves c.self.inside.doc c.self.inside.steps.items c.self.inside.done c.index.result.now c.deref.result.now c.take_back.new.self c.self.invariant c.if-self-eq0.false c.index.ensures c.deref.ensures.value c.in_ok-take_back.ensures.ok)
