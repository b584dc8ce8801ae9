use Rattle.std.proofs.Common.{◌+◌, ◌-◌, arith}
use Rattle.mk_journal.specs.AllSteps.{times}
use Rattle.mk_journal.proofs.StepLemmas.{once_more}
use Rattle.mk_journal.proofs.scripts.repeated.Goals as goal

pub loop-preserved : goal.loop-preserved
loop-preserved c =
    once_more c.args.line.now c.loop.text.items c.extend_from_slice.new.self.items (times c.args.line.now c.args.count) (c.args.count - c.loop.counter) (c.args.count - (c.loop.counter + 1))
    (omega (arith, c.loop-test.true)) c.in_ok-extend_from_slice.ensures.items c.loop.invariant
