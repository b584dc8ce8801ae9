use Rattle.std.proofs.Common.{[], refl, ◌∙◌}
use Rattle.std.proofs.KnownBytes.{Appends-nil}
use Rattle.mk_show.proofs.SentPieces.{piece_sent, stopped_in_a_piece}
use Rattle.mk_show.proofs.sending.send_pieces.Goals as goal

pub each-init : goal.each-init
each-init g c = record { sends = λ bytes is. ([], bytes, refl, is, Appends-nil _); well = refl; unfinished = refl }

pub each-preserved : goal.each-preserved
each-preserved g c = record {
  sends =
      piece_sent c.args.content.now c.each.content c.advance.new.self c.piece.result.now _ _ _
      c.each.invariant.sends (rw c.in-Ok-true.field-0-test at c.in-Ok-true.ensures.next) c.piece.ensures c.in-Ok.ensures.sends.whole;
  well = c.in-Ok.ensures.sends.well ∙ c.each.invariant.well;
  unfinished = c.in-Ok.ensures.unfinished ∙ c.each.invariant.unfinished;
}

pub returns-in-Err-send-clause-sends : goal.returns-in-Err-send-clause-sends
returns-in-Err-send-clause-sends g c bytes is =
    stopped_in_a_piece c.args.content.now c.each.content c.advance.new.self c.piece.result.now _ _ _ _ _ _ c.in-Err-send.stop
    c.each.invariant.sends (rw c.in-Ok-true.field-0-test at c.in-Ok-true.ensures.next) c.piece.ensures c.each.invariant.well c.in-Err-send.ensures.sends bytes is
