use Rattle.std.proofs.Common.{◌+◌, ◌∙◌, ap, length}
use Rattle.std.specs.Option.{option_map}
use Rattle.mk_line.specs.Lines.{text_of}
use Rattle.mk_line.proofs.Cuts.{text_cut}
use Rattle.mk_check.specs.inner.LineKinds.{line_kind_of}
use Rattle.mk_check.specs.Places.{line_place}
use Rattle.mk_check.proofs.places.place_from.Goals as goal

pub loop-line-init : goal.loop-line-init
loop-line-init c =
    let lines = c.into_iter-line-iterator.ensures.into_iter_gives ∙ c.cut-line-items.ensures.lines in record {
      place = ap (λ ls. option_map (λ n. c.args.start + n) (line_place (line_kind_of c.args.kind) c.args.first_counts ls)) lines;
      within = ap (λ ls. c.args.start + length (text_of ls)) lines ∙ ap (λ t. c.args.start + length t) (text_cut c.args.text.now);
    }
