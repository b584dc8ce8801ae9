use Rattle.std.proofs.Common.{◌≡◌, ◌++◌, drop, map}
use Rattle.mk_asked.specs.Found.{words_placed}
use Rattle.mk_asked.specs.inner.Placed.{placed_word}
use Rattle.mk_asked.proofs.letters.place_each.Given as goal

abbrev pub invariant-loop-word : goal.invariant-loop-word
invariant-loop-word l = map placed_word l.placed.items ++ words_placed l.letter (map (λ s. s.now) (drop l.word-index l.words)) l.places.rest.now ≡ map placed_word l.fn.placed.items ++ words_placed l.letter (map (λ s. s.now) l.words) l.fn.places
