use Rattle.std.proofs.Common.{◌≡◌, ◌++◌, false, filter}
use Rattle.std.specs.List.{flat_map}
use Rattle.mk_line.specs.Lines.{cut}
use Rattle.mk_head.specs.Fields.{fields_of, is_named}
use Rattle.mk_head.specs.Split.{fields_from}
use Rattle.mk_field.specs.Filtering.{after_colon}
use Rattle.mk_field.specs.Wording.{printed_value}
use Rattle.mk_field.proofs.giving.values.Given as goal

abbrev pub invariant-loop-field : goal.invariant-loop-field
invariant-loop-field l = l.text.items ++ flat_map (λ f. printed_value l.form (after_colon f.raw)) (filter (is_named l.name) l.field-iterator) ≡ flat_map (λ f. printed_value l.form (after_colon f.raw)) (filter (is_named l.name) (fields_of (fields_from false (cut l.head))))
