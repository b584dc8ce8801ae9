use Rattle.std.proofs.Common.{◌≡◌, ◌+◌, length}
use Rattle.std.specs.Option.{option_map}
use Rattle.mk_line.specs.Lines.{cut, text_of}
use Rattle.mk_check.specs.inner.LineKinds.{line_kind_of}
use Rattle.mk_check.specs.Places.{line_place}
use Rattle.mk_check.proofs.places.place_from.Given as goal

abbrev pub invariant-loop-line : goal.invariant-loop-line
invariant-loop-line l = record {
  place : option_map (λ n. l.place + n) (line_place (line_kind_of l.kind) l.counts l.line-iterator) ≡ option_map (λ n. l.start + n) (line_place (line_kind_of l.kind) l.first_counts (cut l.text));
  within : l.place + length (text_of l.line-iterator) ≡ l.start + length l.text;
}
