use Rattle.std.proofs.Common.{ap, ◌∙◌}
use Rattle.mk_line.specs.Lines.{cut}
use Rattle.mk_tree.specs.Spans.{span_of}
use Rattle.mk_tree.specs.Tree.{read}
use Rattle.mk_tree.proofs.Descent.{upto_none}
use Rattle.mk_tree.proofs.planning.read_whole.Goals as goal

pub returns : goal.returns
returns c = c.in_ok-node.ensures.node ∙ ap (λ ls. span_of c.args.digest c.args.delimiter (read c.args.left c.args.digest ls)) (upto_none (cut c.args.text.now))
