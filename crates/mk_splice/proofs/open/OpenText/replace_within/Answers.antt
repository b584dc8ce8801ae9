use Rattle.std.proofs.Common.{◌≡◌, ◌+◌, ◌-◌, ◌∙◌, ap, arith, drop, length, length-append, length-drop, take}
use Rattle.std.proofs.lemmas.List.{length-take-le}
use Rattle.mk_splice.specs.Splices.{spliced}
use Rattle.mk_splice.specs.inner.Open.{Opened, shut}
use Rattle.mk_splice.proofs.Gaps.{gap_written}
use Rattle.mk_splice.proofs.open.OpenText.replace_within.Goals as goal

pub returns-clause-bytes : goal.returns-clause-bytes
returns-clause-bytes c =
    let front = c.self.inside.front in
    let rest = c.self.inside.rest in
    let x = c.self.inside.items.items in
    let moved = c.move_gap-rest in
    let size : length (shut c.args.self.now) + rest ≡ front + length x =
    omega (arith, ap (λ (t : Opened). length (shut t)) c.self.view_is, length-append (take front x) (drop rest x), length-take-le front x (omega (arith, c.self.invariant, c.self.inside.items.ok.0)), length-drop rest x, c.self.invariant, c.self.inside.items.ok.0) in
    let whole : c.args.self.now.room ≡ length x = omega (arith, ap (λ (t : Opened). t.room) c.self.view_is, c.self.inside.items.ok.0) in
    gap_written c.args.place moved.result c.args.count c.args.text.now moved.new.items.items c.overwrite.new.items.items c.overwrite.ensures.items
    (omega (arith, moved.ensures.rest, c.self.invariant))
    (omega (arith, moved.ensures.rest, size, whole, c.requires.room, c.self.invariant))
    (omega (arith, moved.ensures.rest, moved.ensures.len, size, c.requires.inside, c.self.invariant, c.self.inside.items.ok.0, moved.new.items.ok.0))
    ∙ ap (spliced c.args.place c.args.count c.args.text.now) (moved.ensures.same ∙ ap (λ (t : Opened). shut t) c.self.view_is)
