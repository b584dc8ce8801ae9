use Rattle.std.proofs.Common.{◌≡◌, ◌++◌, drop, map}
use Rattle.std.specs.List.{flat_map}
use Rattle.mk_check.specs.Findings.{repeated_field, single_names}
use Rattle.mk_check.specs.inner.FoundViews.{found_of}
use Rattle.mk_check.proofs.sections.push_repeated.Given as goal

abbrev pub invariant-loop-name : goal.invariant-loop-name
invariant-loop-name l = map found_of l.found.items ++ flat_map (repeated_field l.section) (map (λ name. name.now) (drop l.name-index l.name-items)) ≡ map found_of l.fn.found.items ++ flat_map (repeated_field l.section) single_names
