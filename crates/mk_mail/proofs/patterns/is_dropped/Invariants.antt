use Rattle.std.proofs.Common.{◌≡◌, drop, map}
use Rattle.std.specs.List.{list_any}
use Rattle.mk_mail.specs.LetterViews.{pattern_of}
use Rattle.mk_mail.specs.Letters.{is_meant}
use Rattle.mk_mail.proofs.patterns.is_dropped.Given as goal

abbrev pub invariant-loop-pattern : goal.invariant-loop-pattern
invariant-loop-pattern l = list_any (λ p. is_meant p l.own) (drop l.pattern-index (map pattern_of l.drops)) ≡ list_any (λ p. is_meant p l.own) (map pattern_of l.drops)
