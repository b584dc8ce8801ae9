use Rattle.std.proofs.Common.{drop, map}
use Rattle.mk_field.specs.FilterViews.{round_of}
use Rattle.mk_field.proofs.HeaderRounds.{SoFarBy}
use Rattle.mk_field.proofs.headers.edit_header.Given as goal

abbrev pub invariant-loop-round : goal.invariant-loop-round
invariant-loop-round l = SoFarBy (map round_of l.rounds) (map round_of (drop l.round-index l.rounds)) l.header l.session
