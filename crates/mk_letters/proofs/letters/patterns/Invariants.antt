use Rattle.std.proofs.Common.{◌≡◌, map, take}
use Rattle.mk_mail.specs.LetterViews.{pattern_of}
use Rattle.mk_letters.specs.Asked.{pattern_asked}
use Rattle.mk_letters.proofs.letters.patterns.Given as goal

abbrev pub invariant-loop-word : goal.invariant-loop-word
invariant-loop-word l = map pattern_of l.patterns.items ≡ map pattern_asked (map (λ s. s.now) (take l.word-index l.words))
