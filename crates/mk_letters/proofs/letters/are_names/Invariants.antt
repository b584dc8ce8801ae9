use Rattle.std.proofs.Common.{◌≡◌, drop, map}
use Rattle.std.specs.List.{list_all}
use Rattle.mk_letters.specs.Asked.{is_name_word}
use Rattle.mk_letters.proofs.letters.are_names.Given as goal

abbrev pub invariant-loop-word : goal.invariant-loop-word
invariant-loop-word l = list_all is_name_word (map (λ s. s.now) (drop l.word-index l.words)) ≡ list_all is_name_word (map (λ s. s.now) l.words)
