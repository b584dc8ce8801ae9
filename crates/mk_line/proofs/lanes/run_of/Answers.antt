use Rattle.std.proofs.Common.{◌≡◌, ◌∙◌, sym, refl, arith}
use Rattle.mk_line.proofs.LaneRuns.{block_ends, block_passed, run_few}
use Rattle.mk_line.proofs.LastBlocks.{last_block}
use Rattle.mk_line.proofs.lanes.run_of.Goals as goal

pub returns-then-run-lt-LANES-clause-front : goal.returns-then-run-lt-LANES-clause-front
returns-then-run-lt-LANES-clause-front g c =
    block_ends _ c.args.text.now c.each.size c.run_at-run.result c.each.invariant.front (omega arith) c.run_at-run.ensures (omega arith)

pub each-preserved : goal.each-preserved
each-preserved g c = record {
  front =
      let few = run_few _ c.args.text.now c.each.size c.run_at-run.result (omega arith) c.run_at-run.ensures in
      let all : c.run_at-run.result ≡ 16 = omega (arith, few) in
      block_passed _ c.args.text.now c.each.size 16 c.each.invariant.front (omega arith) (sym all ∙ c.run_at-run.ensures) refl;
  within = omega arith;
}

pub returns-clause-front : goal.returns-clause-front
returns-clause-front g c =
    last_block _ c.args.text.now c.each.size _ c.run_at.result c.each.invariant.front (omega arith) (omega arith) c.run_at.ensures
