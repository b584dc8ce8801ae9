use Rattle.std.proofs.Common.{◌≡◌, ◌++◌, map}
use Rattle.mk_line.specs.Lines.{cut}
use Rattle.mk_pack.specs.Packing.{fields_in_front}
use Rattle.mk_pack.proofs.packing.fields_in_front.Given as goal

abbrev pub invariant-loop-field : goal.invariant-loop-field
invariant-loop-field l = map (λ f. f.items) l.fields.items ++ map (λ f. f.raw) l.field-iterator ≡ fields_in_front (cut l.text)
