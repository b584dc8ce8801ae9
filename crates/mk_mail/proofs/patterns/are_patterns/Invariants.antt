use Rattle.std.proofs.Common.{◌≡◌, drop, map}
use Rattle.std.specs.List.{list_all}
use Rattle.mk_mail.specs.LetterViews.{pattern_of}
use Rattle.mk_line.specs.Kinds.{is_name}
use Rattle.mk_mail.proofs.patterns.are_patterns.Given as goal

abbrev pub invariant-loop-pattern : goal.invariant-loop-pattern
invariant-loop-pattern l = list_all (λ p. is_name p.text) (drop l.pattern-index (map pattern_of l.drops)) ≡ list_all (λ p. is_name p.text) (map pattern_of l.drops)
