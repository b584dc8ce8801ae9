-- A word and its place in memory as plain data.
use Rattle.std.specs.Prelude.{ℕ}
use Rattle.mk_letters.specs.RoundsAsked.{word_of}
use Rattle.mk_letters.specs.declared.words.LetterWord.{LetterWord}
use Rattle.mk_asked.specs.Found.{PlacedWord}

-- what is in memory
abbrev pub placed_word : ℕ × LetterWord → PlacedWord
placed_word p = record { place = p.0; word = word_of p.1 }
