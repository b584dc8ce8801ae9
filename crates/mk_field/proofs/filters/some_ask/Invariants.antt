use Rattle.std.proofs.Common.{◌≡◌, drop, map}
use Rattle.std.specs.List.{list_any}
use Rattle.mk_field.specs.FilterViews.{round_asks, round_of}
use Rattle.mk_field.proofs.filters.some_ask.Given as goal

abbrev pub invariant-loop-round : goal.invariant-loop-round
invariant-loop-round l = list_any round_asks (map round_of (drop l.round-index l.rounds)) ≡ list_any round_asks (map round_of l.rounds)
