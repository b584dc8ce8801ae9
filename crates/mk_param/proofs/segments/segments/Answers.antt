use Rattle.std.proofs.Common.{ap, sym, ◌∙◌}
use Rattle.std.specs.Option.{option_map}
use Rattle.mk_param.specs.SegmentViews.{segment_of, value_at}
use Rattle.mk_param.proofs.Joined.{map_push, segments_end, segments_more}
use Rattle.mk_param.proofs.segments.segments.Goals as goal

pub returns-in_default : goal.returns-in_default
returns-in_default c =
    segments_end (value_at c.args.values.now) c.args.name.now c.loop-number.number c.args.most _ _ c.loop-number-test.true
    (sym (ap (option_map segment_of) c.in_default.is) ∙ c.in_ok-segment.ensures) c.loop-number.invariant

pub loop-number-preserved : goal.loop-number-preserved
loop-number-preserved c =
    segments_more (value_at c.args.values.now) c.args.name.now c.loop-number.number c.args.most _ _ _ (segment_of c.in-Some.segment) c.loop-number-test.true
    (sym (ap (option_map segment_of) c.in-Some.is) ∙ c.in_ok-segment.ensures)
    (map_push segment_of c.loop-number.found.items c.push.new.self.items c.in-Some.segment c.in_ok-push.ensures.items) c.loop-number.invariant
