use Rattle.std.proofs.Common.{[], ◌++◌, ap, refl, ◌∙◌}
use Rattle.std.proofs.KnownBytes.{Appends-nil}
use Rattle.mk_pack.proofs.GonePieces.{more_sent, stopped_sending, stopped_wanting, whole_sent}
use Rattle.mk_pack.proofs.outgoing.send_pieces.Goals as goal

pub each-init : goal.each-init
each-init g c = record { sent = ([], refl, Appends-nil _); ended = λ e. absurd cc; well = refl; unfinished = refl }

pub each-preserved : goal.each-preserved
each-preserved g c = record {
  sent =
      more_sent c.args.pieces.bytes c.each.rest.bytes c.gather.new.pieces.bytes c.deref.result.now _ _ _ c.each.invariant.sent
      (ap (λ t. t ++ c.gather.new.pieces.bytes) c.deref.ensures.value ∙ c.in-Ok.ensures.told) c.in-Ok-send.ensures.sends.whole;
  ended = c.in-Ok.ensures.ended;
  well = c.in-Ok-send.ensures.sends.well ∙ c.each.invariant.well;
  unfinished = c.in-Ok-send.ensures.unfinished ∙ c.each.invariant.unfinished;
}

pub returns-in-Err-send-clause-sends : goal.returns-in-Err-send-clause-sends
returns-in-Err-send-clause-sends g c =
    stopped_sending c.args.pieces.bytes c.each.rest.bytes c.gather.new.pieces.bytes c.deref.result.now _ _ _ _ _ _ c.in-Err-send.stop c.each.invariant.sent
    (ap (λ t. t ++ c.gather.new.pieces.bytes) c.deref.ensures.value ∙ c.in-Ok.ensures.told) c.each.invariant.well c.in-Err-send.ensures.sends

pub returns-in-Err-clause-sends : goal.returns-in-Err-clause-sends
returns-in-Err-clause-sends g c = stopped_wanting c.args.pieces.bytes c.each.rest.bytes _ _ _ _ c.each.invariant.sent c.each.invariant.well

pub returns-clause-sends : goal.returns-clause-sends
returns-clause-sends g c = whole_sent c.args.pieces.bytes c.each.rest.bytes _ _ _ _ c.each.invariant.sent (c.each.invariant.ended c.each-test.false) c.each.invariant.well
