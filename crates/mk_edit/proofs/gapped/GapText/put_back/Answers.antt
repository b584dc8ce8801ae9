use Rattle.std.proofs.Common.{◌+◌, ◌-◌, ◌≡◌, ◌∙◌, ◌++◌, ap, arith, drop, take}
use Rattle.mk_edit.specs.inner.Gaps.{Gapped, without_gap}
use Rattle.mk_splice.proofs.Gaps.{gap_back}
use Rattle.mk_edit.proofs.gapped.GapText.put_back.Goals as goal

pub returns-then-place-self-clause-same : goal.returns-then-place-self-clause-same
returns-then-place-self-clause-same c =
    let front = c.self.inside.front in
    let rest = c.self.inside.rest in
    let items = c.self.inside.items.items in
    let count = front - c.args.place in
    let to = rest - count in
    let before : c.args.place + count ≡ front = omega (arith, c.if-place-self.true) in
    let after : to + count ≡ rest = omega (arith, c.self.invariant, c.if-place-self.true) in
    gap_back c.args.place count to items c.copy.new.items.items c.copy.ensures.items (omega (arith, c.self.invariant, c.if-place-self.true)) (omega (arith, after, c.self.invariant, c.self.inside.items.ok.0))
    ∙ (ap (λ n. take n items ++ drop (to + count) items) before ∙ (ap (λ n. take front items ++ drop n items) after
    ∙ ap (λ (t : Gapped). without_gap t) c.self.view_is))
