use Rattle.std.proofs.Common.{◌∙◌, ◌++◌, ◌∷◌, []}
use Rattle.std.specs.String.{string_bytes}
use Rattle.mk_line.specs.Lines.{ending_bytes}
use Rattle.mk_code.proofs.Pieces.{word_pushed}
use Rattle.mk_code.proofs.words_encoding.words_encode.Goals as goal

pub loop-piece-preserved : goal.loop-piece-preserved
loop-piece-preserved c =
    word_pushed (ending_bytes c.args.eol ++ 32 ∷ []) c.folding-fold.result.now c.loop-piece.rest.now c.in-Some.piece.now c.in-Some.following.now (string_bytes c.loop-piece.out) _ _ c.folding-fold.ensures c.in-Some.ensures.pieces
    c.in_ok-push_encoded_word.ensures c.in_ok-push_str.ensures.bytes
    ∙ c.loop-piece.invariant
