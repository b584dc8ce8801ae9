use Rattle.std.proofs.Common.{take}
use Rattle.std.specs.List.{AllZip}
use Rattle.mk_letters.specs.RoundsAsked.{IsRoundAsked}
use Rattle.mk_letters.proofs.words.letters_of_rounds.Given as goal

abbrev pub invariant-loop-words : goal.invariant-loop-words
invariant-loop-words l = AllZip (IsRoundAsked l.form) (take l.words-index l.rounds) l.all.items
