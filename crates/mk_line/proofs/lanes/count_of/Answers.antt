use Rattle.std.proofs.Common.{arith}
use Rattle.mk_line.proofs.LaneCounts.{block_counted}
use Rattle.mk_line.proofs.lanes.count_of.Goals as goal

pub each-preserved : goal.each-preserved
each-preserved g c = record {
  count = block_counted _ c.args.text.now c.each.place c.each.count c.count_at-count.result c.each.invariant.count c.count_at-count.ensures.count;
  few = omega arith;
  within = omega arith;
}
