use Rattle.std.proofs.Common.{◌≡◌, ◌++◌, drop, map}
use Rattle.std.specs.Option.{option_map}
use Rattle.mk_letters.specs.Asked.{words_of}
use Rattle.mk_letters.specs.RoundsAsked.{round_words, rounds_from, rounds_given, word_of}
use Rattle.mk_letters.proofs.words.rounds_of_words.Given as goal

abbrev pub invariant-loop-word : goal.invariant-loop-word
invariant-loop-word l = map round_words l.rounds.items ++ rounds_from (option_map words_of l.round) (map word_of (drop l.word-index l.words)) ≡ rounds_given (map word_of l.words)
