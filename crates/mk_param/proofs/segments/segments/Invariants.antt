use Rattle.std.proofs.Common.{◌≡◌, ◌++◌, ◌-◌, map}
use Rattle.mk_param.specs.Segments.{segments_from}
use Rattle.mk_param.specs.SegmentViews.{segment_of, value_at}
use Rattle.mk_param.proofs.segments.segments.Given as goal

abbrev pub invariant-loop-number : goal.invariant-loop-number
invariant-loop-number l = map segment_of l.found.items ++ segments_from (value_at l.values) l.name l.number (l.most - l.number) ≡ segments_from (value_at l.values) l.name 0 l.most
