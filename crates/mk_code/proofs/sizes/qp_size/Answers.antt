use Rattle.std.proofs.Common.{◌∙◌, ap, length, arith}
use Rattle.std.specs.List.{flat_map}
use Rattle.mk_line.specs.Lines.{text_of}
use Rattle.mk_line.specs.Views.{line_of}
use Rattle.mk_line.proofs.Cuts.{text_cut}
use Rattle.mk_code.specs.QuotedPrintable.{line_unquoted}
use Rattle.mk_code.proofs.QpSizes.{size_line, line_fits}
use Rattle.mk_code.proofs.sizes.qp_size.Goals as goal

pub loop-line-init : goal.loop-line-init
loop-line-init c =
    let lines = c.into_iter-line-iterator.ensures.into_iter_gives ∙ c.cut-line-items.ensures.lines in
    record {
      size = omega (arith, ap (λ ls. length (flat_map line_unquoted ls)) lines);
      few = omega (arith, ap (λ ls. length (text_of ls)) lines, ap length (text_cut c.args.text.now));
    }

pub loop-line-preserved : goal.loop-line-preserved
loop-line-preserved c = record {
  size = size_line c.loop-line.line-iterator c.next.new.self (line_of c.in-Some.line) c.bytes.result.now c.loop-line.size _ c.line_size-size.result c.in-Some.ensures.steps c.bytes.ensures c.line_size-size.ensures.size c.loop-line.invariant.size;
  few = line_fits c.loop-line.line-iterator c.next.new.self (line_of c.in-Some.line) c.bytes.result.now c.loop-line.size _ c.line_size-size.result c.in-Some.ensures.steps c.bytes.ensures c.line_size-size.ensures.few c.loop-line.invariant.few;
}
