use Rattle.std.proofs.Common.{ap, ◌∙◌, length}
use Rattle.mk_line.specs.Lines.{cut}
use Rattle.mk_tree.specs.Spans.{span_of}
use Rattle.mk_tree.specs.Tree.{read}
use Rattle.mk_tree.proofs.Planned.{makes_entity}
use Rattle.mk_tree.proofs.planning.plan_entity.Goals as goal

pub returns : goal.returns
returns c =
    makes_entity c.args.section.now c.args.left c.args.text.now c.start.result (length c.raw.result.now) c.in_ok-node.node c.start.ensures (ap length c.raw.ensures)
    (c.in_ok-node.ensures ∙ ap (λ d. span_of d 0 (read c.args.left d (cut c.args.text.now))) c.default_message.ensures)
