use Rattle.std.proofs.Common.{◌≡◌, ◌++◌, length}
use Rattle.mk_code.specs.EncodedWords.{decoded_with, runs, shown}
use Rattle.mk_code.proofs.words_decoding.decode_with.Given as goal

abbrev pub invariant-loop-rest : goal.invariant-loop-rest
invariant-loop-rest l = l.out.items ++ shown l.which l.after (runs l.rest) ≡ decoded_with l.which l.value

abbrev pub decreases-loop-rest : goal.decreases-loop-rest
decreases-loop-rest l = length l.rest
