use Rattle.std.proofs.Common.{◌≡◌, ◌++◌, ◌∷◌, [], length}
use Rattle.std.specs.List.{join_by}
use Rattle.std.specs.String.{string_bytes}
use Rattle.mk_line.specs.Ascii.{space}
use Rattle.mk_line.specs.Lines.{ending_bytes}
use Rattle.mk_code.specs.EncodedWords.{encoded_word, pieces, characters}
use Rattle.mk_code.proofs.words_encoding.words_encode.Given as goal

abbrev pub invariant-loop-piece : goal.invariant-loop-piece
invariant-loop-piece l =
    string_bytes l.out ++ join_by encoded_word (ending_bytes l.fn.eol ++ space ∷ []) (pieces (characters l.rest) 0) ≡ join_by encoded_word (ending_bytes l.fn.eol ++ space ∷ []) (pieces (characters l.text) 0)

abbrev pub decreases-loop-piece : goal.decreases-loop-piece
decreases-loop-piece l = length l.rest
