use Rattle.std.proofs.Common.{◌+◌, ◌++◌, ◌∷◌, [], ◌∙◌, ap, refl, arith, length, take, drop}
use Rattle.mk_splice.specs.Splices.{spliced}
use Rattle.mk_edit.specs.Histories.{text_now}
use Rattle.mk_decide.specs.LocalAnswers.{plain_splice}
use Rattle.mk_decide.specs.Views.{edit_of}
use Rattle.mk_splice.specs.Views.{steps_of}
use Rattle.mk_edit.proofs.Moves.{put_text, put_within, put_moves, put_steps, decided_with, step_accepted}
use Rattle.mk_edit.proofs.session.Session.put.Goals as goal

pub copied-requires : goal.copied-requires
copied-requires c = omega (arith, ap length c.text.ensures, put_within c.args.self.now c.self.inside.doc (steps_of c.self.inside.steps.items) c.self.inside.done (c.args.made.place + c.args.made.count) c.self.invariant c.self.view_is c.requires.within)

pub change-requires : goal.change-requires
change-requires c = decided_with (edit_of c.args.edit.now) c.self.inside.doc (text_now c.args.self.now) c.args.made.place c.args.made.count c.args.made.new.items c.in_ok-text.text.items (put_text c.args.self.now c.self.inside.doc (steps_of c.self.inside.steps.items) c.self.inside.done c.self.invariant c.self.view_is) (c.in_ok-text.ensures.items ∙ c.deref.ensures.value) c.requires

pub invariant_of-self-2 : goal.invariant_of-self-2
invariant_of-self-2 c =
    (put_moves c.self.inside.doc c.self.inside.steps.items c.put_step.new.steps.items c.self.inside.done c.args.made.place c.args.made.count c.push_reserved.new.self _ c.change.new.doc c.args.made.new.items c.self.invariant
    (put_within c.args.self.now c.self.inside.doc (steps_of c.self.inside.steps.items) c.self.inside.done (c.args.made.place + c.args.made.count) c.self.invariant c.self.view_is c.requires.within)
    (c.put_step.ensures ∙ ap (λ vs. take c.self.inside.done vs ++ c.push_reserved.new.self ∷ []) c.in_ok-reserve.ensures.items)
    (c.push_reserved.ensures.items ∙ ap (λ ss. ss ++ record { place = c.args.made.place; old = c.in_ok-old.old; new = c.args.made.new } ∷ []) c.in_ok-step.ensures.items)
    refl
    (c.in_ok-old.ensures ∙ ap (λ x. take c.args.made.count (drop c.args.made.place x)) c.text.ensures)
    refl
    (c.in_ok-change.ensures.ok ∙ ap (λ b. spliced c.args.made.place c.args.made.count b c.self.inside.doc) (c.in_ok-text.ensures.items ∙ c.deref.ensures.value))).fits

pub returns-clause-ok : goal.returns-clause-ok
returns-clause-ok c =
    step_accepted (edit_of c.args.edit.now) c.args.self.now _ (plain_splice c.args.made) c.requires
    (put_steps c.args.self.now c.self.inside.doc c.change.new.doc c.args.made.new.items (steps_of c.self.inside.steps.items) (steps_of c.put_step.new.steps.items) c.self.inside.done c.args.made.place c.args.made.count c.self.invariant c.self.view_is
    (c.in_ok-change.ensures.ok ∙ ap (λ b. spliced c.args.made.place c.args.made.count b c.self.inside.doc) (c.in_ok-text.ensures.items ∙ c.deref.ensures.value))
    (put_moves c.self.inside.doc c.self.inside.steps.items c.put_step.new.steps.items c.self.inside.done c.args.made.place c.args.made.count c.push_reserved.new.self _ c.change.new.doc c.args.made.new.items c.self.invariant
    (put_within c.args.self.now c.self.inside.doc (steps_of c.self.inside.steps.items) c.self.inside.done (c.args.made.place + c.args.made.count) c.self.invariant c.self.view_is c.requires.within)
    (c.put_step.ensures ∙ ap (λ vs. take c.self.inside.done vs ++ c.push_reserved.new.self ∷ []) c.in_ok-reserve.ensures.items)
    (c.push_reserved.ensures.items ∙ ap (λ ss. ss ++ record { place = c.args.made.place; old = c.in_ok-old.old; new = c.args.made.new } ∷ []) c.in_ok-step.ensures.items)
    refl
    (c.in_ok-old.ensures ∙ ap (λ x. take c.args.made.count (drop c.args.made.place x)) c.text.ensures)
    refl
    (c.in_ok-change.ensures.ok ∙ ap (λ b. spliced c.args.made.place c.args.made.count b c.self.inside.doc) (c.in_ok-text.ensures.items ∙ c.deref.ensures.value))))
