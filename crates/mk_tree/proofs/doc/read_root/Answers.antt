use Rattle.std.proofs.Common.{ap, sym, ◌∙◌, arith, false}
use Rattle.mk_line.specs.Lines.{cut as lines_of}
use Rattle.mk_tree.specs.Documents.{levels}
use Rattle.mk_tree.specs.Spans.{span_of}
use Rattle.mk_tree.specs.Tree.{read}
use Rattle.mk_tree.proofs.Descent.{upto_none}
use Rattle.mk_tree.proofs.doc.read_root.Goals as goal

pub returns : goal.returns
returns c = record {
  lengths =
      c.in_ok-root.ensures.node
      ∙ (ap (λ ls. span_of false 0 (read levels false ls)) (upto_none (lines_of c.skip_envelope-message.result.now))
      ∙ ap (span_of false 0) (sym c.skip_envelope-message.ensures.message));
  front = omega (arith, c.skip_envelope-message.ensures.envelope);
}
