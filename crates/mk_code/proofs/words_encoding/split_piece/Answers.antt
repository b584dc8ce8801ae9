use Rattle.std.proofs.Common.{arith, refl, inl, inr}
use Rattle.mk_code.proofs.Pieces.{pieces_begun, piece_grows, piece_within}
use Rattle.mk_code.proofs.words_encoding.split_piece.Goals.{else-size-gt0-via-then-size-gt0+else-size-width-gt-PIECE_ROOM, else-size-gt0-via-else-size-gt0}
use Rattle.mk_code.proofs.words_encoding.split_piece.Goals as goal

pub loop-size-init : goal.loop-size-init
loop-size-init c = record { within = omega arith; told = pieces_begun c.args.text.now }

pub loop-size-preserved : goal.loop-size-preserved
loop-size-preserved c = record {
  within = piece_within c.args.text.now _ c.loop-size.size c.character_len-width.result c.loop-size.invariant.within refl c.character_len-width.ensures.within;
  told =
      piece_grows c.args.text.now _ c.loop-size.size c.character_len-width.result c.loop-size.invariant.within refl c.character_len-width.ensures.character c.character_len-width.ensures.within
      (elim c.else-size-gt0.branch [
        | else-size-gt0-via-then-size-gt0+else-size-width-gt-PIECE_ROOM w ↦ inr (omega arith)
        | else-size-gt0-via-else-size-gt0 w ↦ inl (omega arith)
      ])
      c.loop-size.invariant.told;
}
