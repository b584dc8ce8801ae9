use Rattle.std.proofs.Common.{◌≡◌, ◌≤◌, ◌-◌, length, take, drop}
use Rattle.mk_code.specs.EncodedWords.{front_onto, pieces, characters}
use Rattle.mk_code.proofs.words_encoding.split_piece.Given as goal

abbrev pub invariant-loop-size : goal.invariant-loop-size
invariant-loop-size l = record {
  within : l.size ≤ length l.text;
  told : pieces (characters l.text) 0 ≡ front_onto (take l.size l.text) (pieces (characters (drop l.size l.text)) l.size);
}

abbrev pub decreases-loop-size : goal.decreases-loop-size
decreases-loop-size l = length l.text - l.size
