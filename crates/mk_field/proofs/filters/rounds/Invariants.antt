use Rattle.std.proofs.Common.{◌≡◌, map, take}
use Rattle.mk_field.specs.FilterViews.{round_of}
use Rattle.mk_letters.specs.RoundsAsked.{round_letters}
use Rattle.mk_field.proofs.filters.rounds.Given as goal

abbrev pub invariant-loop-round : goal.invariant-loop-round
invariant-loop-round l = map round_of l.rounds.items ≡ map round_letters (take l.round-index l.letters)
