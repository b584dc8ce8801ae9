use Rattle.std.proofs.Common.{map, drop}
use Rattle.mk_field.specs.FilterViews.{round_of}
use Rattle.mk_run.proofs.InRounds.{InRounds}
use Rattle.mk_run.proofs.round_steps.make_in_turn.Given as goal

abbrev pub invariant-loop-round : goal.invariant-loop-round
invariant-loop-round l = InRounds l.path (map round_of l.rounds) (map round_of (drop l.round-index l.rounds)) l.session l.group
