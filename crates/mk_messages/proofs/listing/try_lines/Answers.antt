use Rattle.std.proofs.Common.{refl}
use Rattle.mk_transfer.proofs.Fronts.{AppendsFront-whole}
use Rattle.std.proofs.KnownBytes.{Appends-kept}
use Rattle.mk_messages.specs.MessageLines.{mailbox_lines}
use Rattle.mk_messages.proofs.Listed.{not_both_stops, sending_blamed}
use Rattle.mk_transfer.specs.RunClauses.{counts}
use Rattle.mk_messages.proofs.listing.try_lines.Goals as goal

pub returns-in-Err-clause-listed : goal.returns-in-Err-clause-listed
returns-in-Err-clause-listed g c =
    let left = c.in_ok-list_each.ensures.listed in
    (left.0, left.1, AppendsFront-whole _ _ (mailbox_lines (g.L.MessageLine.text c.args.lines.now) c.args.from_lines left.0) (Appends-kept _ _ _ (mailbox_lines (g.L.MessageLine.text c.args.lines.now) c.args.from_lines left.0) left.2 c.in-Err.ensures.kept))

pub returns-in-Err-clause-blamed : goal.returns-in-Err-clause-blamed
returns-in-Err-clause-blamed g c =
    let clean = c.in_ok-list_each.ensures.clean in
    sending_blamed c.in-Err.stop c.writing.result
    (counts (g.S.Source.failures c.args.input.now) (g.S.Source.read_count c.args.input.now) (g.O.Sink.failures c.args.out.now) 0)
    (counts (g.S.Source.failures c.list_each.new.input) (g.S.Source.read_count c.list_each.new.input) (g.O.Sink.failures c.finish.new.out) 0)
    c.writing.ensures (λ _. rw clean.output at c.in-Err.ensures.fault) (not_both_stops c.in-Err.stop c.in-Err.ensures.only) clean.input refl
