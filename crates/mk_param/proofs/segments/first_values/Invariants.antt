use Rattle.std.proofs.Common.{◌≡◌, ℕ, List, drop, map}
use Rattle.std.specs.Option.{option_or}
use Rattle.mk_head.specs.Values.{param_of}
use Rattle.mk_head.specs.ValueViews.{parameter_of}
use Rattle.mk_param.specs.SegmentViews.{value_at}
use Rattle.mk_param.proofs.segments.first_values.Given as goal

abbrev pub invariant-loop-param : goal.invariant-loop-param
invariant-loop-param l = (name : List ℕ) → option_or (value_at l.values name) (param_of name (map parameter_of (drop l.param-index l.params))) ≡ param_of name (map parameter_of l.params)
