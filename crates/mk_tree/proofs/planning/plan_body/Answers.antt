use Rattle.std.proofs.Common.{ap, ◌∙◌, ◌++◌, ◌-◌, length, take, arith}
use Rattle.mk_line.specs.Lines.{cut}
use Rattle.mk_tree.specs.Spans.{span_of}
use Rattle.mk_tree.specs.Tree.{read}
use Rattle.mk_tree.proofs.Planned.{makes_body, front_is, body_within}
use Rattle.mk_tree.proofs.planning.plan_body.Goals as goal

pub overflow_sub-raw : goal.overflow_sub-raw
overflow_sub-raw c = omega (arith, ap length c.body-count.ensures, ap length c.raw-2.ensures, body_within c.args.section.now.entity)

pub returns : goal.returns
returns c =
    let p = c.args.section.now in
    let whole = c.deref.ensures.value in
    makes_body p c.args.left c.args.text.now c.deref.result.now c.body_start.result (length c.body-count.result.now) c.in_ok-node.node c.body_start.ensures (ap length c.body-count.ensures)
    (c.deref.ensures.value
    ∙ (c.in_ok-extend_from_slice.ensures.items
    ∙ ap (λ t. t ++ c.args.text.now)
    (c.in_ok-whole.ensures.items
    ∙ (c.split_at.ensures.front
    ∙ (ap (take (length c.raw-2.result.now - length c.body-count.result.now)) c.raw.ensures
    ∙ front_is p (length c.raw-2.result.now - length c.body-count.result.now) (λ i. length (c.raw-2.ensures i) - length (c.body-count.ensures i)))))))
    (c.in_ok-node.ensures ∙ ap (λ d. span_of d 0 (read c.args.left d (cut c.deref.result.now))) c.default_message.ensures)
