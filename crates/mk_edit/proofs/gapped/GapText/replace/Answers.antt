use Rattle.std.proofs.Common.{◌+◌, ◌-◌, ◌≡◌, ◌≤◌, ◌++◌, ◌∙◌, ap, arith, drop, length, length-append, length-drop, refl, sym, take}
use Rattle.std.proofs.lemmas.List.{length-take-le}
use Rattle.mk_splice.specs.Splices.{spliced}
use Rattle.mk_edit.specs.inner.Gaps.{Gapped, without_gap}
use Rattle.mk_edit.proofs.OnOks.{on_ok}
use Rattle.mk_edit.proofs.Gaps.{gap_spliced, gap_tail}
use Rattle.mk_edit.proofs.gapped.GapText.replace.Goals as goal

pub returns-clause-ok : goal.returns-clause-ok
returns-clause-ok c =
    let front = c.self.inside.front in
    let items = c.self.inside.items.items in
    let long : length (take front items) ≡ front = length-take-le front items (omega (arith, c.self.invariant, c.self.inside.items.ok.0)) in
    let following : front + (c.args.place - front) ≡ c.args.place = omega (arith, c.requires.after, long, ap (λ (t : Gapped). length t.front) c.self.view_is) in
    gap_spliced front (c.args.place - front) c.args.place c.args.count c.in_ok-rest.rest (c.in_ok-rest.rest + (c.args.place - front) + c.args.count - length c.args.text.now) c.args.text.now c.make_room.new.items.items c.move_and_write.new.items.items
    (take front items) (drop c.self.inside.rest items) (sym c.in_ok-rest.ensures.front) (sym c.in_ok-rest.ensures.rest) long (sym following) (omega (arith, c.in_ok-rest.ensures.room, c.saturating_sub-room.ensures)) c.move_and_write.ensures.front c.move_and_write.ensures.rest
    ∙ ap (λ (t : Gapped). spliced c.args.place c.args.count c.args.text.now (without_gap t)) c.self.view_is

pub returns-then-len-self-clause-ok : goal.returns-then-len-self-clause-ok
returns-then-len-self-clause-ok c =
    let front = c.self.inside.front in
    let rest = c.self.inside.rest in
    let items = c.self.inside.items.items in
    let from = c.args.place - front in
    let new = c.replace.new.items.items in
    let long : length (take front items) ≡ front = length-take-le front items (omega (arith, c.self.invariant, c.self.inside.items.ok.0)) in
    let after : front + from ≡ c.args.place = omega (arith, c.requires.after, long, ap (λ (t : Gapped). length t.front) c.self.view_is) in
    let within : rest + from + c.args.count ≤ length items =
    omega (arith, c.requires.within, ap (λ (t : Gapped). length (without_gap t)) c.self.view_is, length-append (take front items) (drop rest items), long, length-drop rest items, after, c.self.invariant, c.self.inside.items.ok.0) in
    on_ok (new ≡ spliced (rest + from) c.args.count c.args.text.now items) (take front new ++ drop rest new ≡ spliced c.args.place c.args.count c.args.text.now (without_gap c.args.self.now)) c.replace.result c.replace.ensures.ok
    (λ e. gap_tail front from c.args.place c.args.count rest c.args.text.now items new (take front items) (drop rest items) e (omega (arith, c.self.invariant)) within refl refl long (sym after)
    ∙ ap (λ (t : Gapped). spliced c.args.place c.args.count c.args.text.now (without_gap t)) c.self.view_is)
