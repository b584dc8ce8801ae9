use Rattle.std.proofs.Common.{◌≡◌, drop, map}
use Rattle.std.specs.Option.{option_map}
use Rattle.mk_field.specs.FilterViews.{round_of}
use Rattle.mk_field.specs.Filtering.{given_of, given_with}
use Rattle.mk_field.proofs.giving.given.Given as goal

abbrev pub invariant-loop-round : goal.invariant-loop-round
invariant-loop-round l =
    given_with (option_map (λ v. v.items) l.given) (given_of l.filter.path.now l.filter.form (map round_of (drop l.round-index l.filter.rounds.now)) l.text)
    ≡ given_of l.filter.path.now l.filter.form (map round_of l.filter.rounds.now) l.text
