use Rattle.std.proofs.Common.{◌≡◌, ◌++◌, map, drop}
use Rattle.std.specs.List.{flat_map}
use Rattle.mk_build.specs.Building.{closed_field}
use Rattle.mk_build.proofs.building.push_fields.Given as goal

abbrev pub invariant-loop-field : goal.invariant-loop-field
invariant-loop-field l = l.text.items ++ flat_map (closed_field l.eol) (drop l.field-index (map (λ f. f.items) l.fields)) ≡ l.fn.text.items ++ flat_map (closed_field l.eol) (map (λ f. f.items) l.fields)
