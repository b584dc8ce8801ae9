use Rattle.std.proofs.Common.{◌≡◌, ◌+◌, ◌-◌, ◌++◌, ◌∙◌, ap, arith, drop, sym, take}
use Rattle.std.specs.List.{copy_within}
use Rattle.mk_splice.proofs.Gaps.{gap_back, gap_forth}
use Rattle.mk_splice.proofs.open.move_gap.Goals as goal

pub returns-then-place-front-clause-same : goal.returns-then-place-front-clause-same
returns-then-place-front-clause-same c =
    let x = c.args.items.now.items in
    let place = c.args.place in
    let count = c.args.front - place in
    let to = c.args.rest - c.args.front + place in
    let before : place + count ≡ c.args.front = omega (arith, c.if-place-front.true) in
    let after : to + count ≡ c.args.rest = omega (arith, c.if-place-front.true) in
    gap_back place count to x c.copy_within.new.self.items (c.copy_within.ensures.items ∙ ap (λ n. copy_within x place n to) (sym before)) (omega (arith, c.if-place-front.true)) (omega (arith, after, c.args.items.now.ok.0))
    ∙ (ap (λ n. take n x ++ drop (to + count) x) before ∙ ap (λ n. take c.args.front x ++ drop n x) after)

pub returns-else-place-front-clause-same : goal.returns-else-place-front-clause-same
returns-else-place-front-clause-same c =
    let x = c.args.items.now.items in
    let z = c.copy_within-else-place-front.new.self.items in
    let count = c.args.place - c.args.front in
    let to = c.args.rest - c.args.front + c.args.place in
    let before : c.args.place ≡ c.args.front + count = omega (arith, c.if-place-front.false) in
    let after : to ≡ c.args.rest + count = omega (arith, c.if-place-front.false) in
    ap (λ n. take n z ++ drop to z) before ∙ (ap (λ n. take (c.args.front + count) z ++ drop n z) after
    ∙ gap_forth c.args.front c.args.rest count x z (c.copy_within-else-place-front.ensures.items ∙ ap (λ n. copy_within x c.args.rest n c.args.front) after) (omega arith) (omega (arith, after, c.args.items.now.ok.0)))
