use Rattle.std.proofs.Common.{refl}
use Rattle.std.specs.Option.{option_map}
use Rattle.mk_build.specs.BuildViews.{written_in}
use Rattle.mk_pack.specs.Alone.{IsAlone, no_input}
use Rattle.mk_pack.specs.inner.Judged.{run_of_judged}
use Rattle.mk_transfer.specs.RunClauses.{counts}
use Rattle.mk_pack.proofs.GonePieces.{ShowsSoFar-gone, giving_blamed}
use Rattle.mk_pack.proofs.alone.try_part.Goals as goal

pub returns-in-Ok-clause-leaves : goal.returns-in-Ok-clause-leaves
returns-in-Ok-clause-leaves g c =
    ShowsSoFar-gone (IsAlone (option_map (λ c. c.now) c.args.options.charset) (written_in c.args.options.utf8_names c.args.part.now)) (run_of_judged c.in-Ok.judged) c.give.result no_input no_input _ _ _ _ c.in-Ok.ensures refl c.give.ensures.written c.give.ensures.not_read

pub returns-in-Ok-clause-blamed : goal.returns-in-Ok-clause-blamed
returns-in-Ok-clause-blamed g c =
    giving_blamed c.give.result
    (counts 0 0 (g.O.Sink.failures c.args.out.now) (g.E.Sink.failures c.args.err.now))
    (counts 0 0 (g.O.Sink.failures c.give.new.out) (g.E.Sink.failures c.give.new.err))
    c.give.ensures.not_read c.give.ensures.failed c.give.ensures.memory refl c.give.ensures.counted
