use Rattle.std.proofs.Common.{◌≡◌, drop, map}
use Rattle.std.specs.List.{list_all}
use Rattle.mk_field.specs.FilterViews.{round_asks_always, round_of}
use Rattle.mk_field.proofs.filters.all_ask.Given as goal

abbrev pub invariant-loop-round : goal.invariant-loop-round
invariant-loop-round l = list_all round_asks_always (map round_of (drop l.round-index l.rounds)) ≡ list_all round_asks_always (map round_of l.rounds)
