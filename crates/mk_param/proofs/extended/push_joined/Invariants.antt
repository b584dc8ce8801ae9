use Rattle.std.proofs.Common.{◌≡◌, ◌++◌, drop, map}
use Rattle.std.specs.Option.{option_map}
use Rattle.mk_param.specs.Extended.{joined}
use Rattle.mk_param.specs.SegmentViews.{segment_of}
use Rattle.mk_param.proofs.extended.push_joined.Given as goal

abbrev pub invariant-loop-segment : goal.invariant-loop-segment
invariant-loop-segment l = option_map (λ bytes. l.out.items ++ bytes) (joined (map segment_of (drop l.segment-index l.segments))) ≡ option_map (λ bytes. l.fn.out.items ++ bytes) (joined (map segment_of l.segments))
