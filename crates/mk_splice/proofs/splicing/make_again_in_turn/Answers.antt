use Rattle.std.proofs.Common.{◌+◌, ◌-◌, ap, arith, drop, length, map}
use Rattle.mk_splice.specs.Peaks.{most_forth}
use Rattle.mk_splice.specs.Views.{splice_of}
use Rattle.mk_splice.proofs.Splicings.{most_next, most_start_forth}
use Rattle.mk_splice.proofs.splicing.make_again_in_turn.Goals as goal

pub replace_within-requires-clause-room : goal.replace_within-requires-clause-room
replace_within-requires-clause-room c =
    let s = c.splice-item.result in
    let n = length c.loop-splice.text.bytes in
    let i = c.loop-splice.splice-index in
    let m = most_next c.args.step.now i s n c.loop-splice-test.true c.splice-item.is in
    let starts = most_start_forth (map splice_of (drop (i + 1) c.args.step.now)) (n - length s.old.items + length s.new.items) in
    omega (arith, m, starts, c.loop-splice.invariant.room, ap length c.deref.ensures.value, c.len.ensures, s.old.ok.0)
