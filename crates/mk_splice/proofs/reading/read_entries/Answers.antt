use Rattle.std.proofs.Common.{◌≡◌, ◌-◌, ◌+◌, ◌∙◌, List, map, sym, arith}
use Rattle.std.proofs.lemmas.Result.{err_from_is_err_and}
use Rattle.std.specs.Global.{Vec}
use Rattle.mk_splice.specs.declared.splicing.Splice.{Splice as SpliceIn}
use Rattle.mk_splice.specs.Splices.{Splice}
use Rattle.mk_splice.specs.Grammar.{Entry, read_entry}
use Rattle.mk_splice.specs.Journals.{splice_meant}
use Rattle.mk_splice.specs.Readers.{read_times}
use Rattle.mk_splice.specs.Views.{splice_of}
use Rattle.mk_splice.proofs.Readings.{one_more_at, one_fails_at, all_read, gives_same, gives_stopped, count_same, entry_consumes}
use Rattle.mk_splice.proofs.reading.read_entries.Goals as goal

pub returns-in_err-entry : goal.returns-in_err-entry
returns-in_err-entry c =
    λ n e. (let stopped = err_from_is_err_and c.from_residual.result c.from_residual.ensures.1 in
    gives_same (List Entry) (Vec SpliceIn) (λ es v. map splice_of v.items ≡ map splice_meant es) (read_times c.args.count read_entry c.args.bytes.now) (read_times n read_entry c.args.bytes.now) c.from_residual.result
    (count_same Entry read_entry entry_consumes c.args.count n c.args.bytes.now e (omega arith))
    (gives_stopped (List Entry) (Vec SpliceIn) (λ es v. map splice_of v.items ≡ map splice_meant es) (read_times c.args.count read_entry c.args.bytes.now) c.from_residual.result stopped.0 c.in_err-entry.field-0.0 stopped.1 stopped.2
    (one_fails_at Entry SpliceIn Splice splice_of splice_meant read_entry c.args.count c.args.bytes.now (c.args.count - c.loop.counter) (c.args.count - c.loop.counter - 1) c.loop.rest.now c.loop.entries.items c.in_err-entry.field-0.0 (omega (arith, c.loop-test.true)) c.loop.invariant c.in_err-entry.ensures)))

pub loop-preserved : goal.loop-preserved
loop-preserved c =
    let read = c.in_ok-entry.ensures in
    one_more_at Entry SpliceIn Splice splice_of splice_meant read_entry c.args.count c.args.bytes.now (c.args.count - c.loop.counter) (c.args.count - (c.loop.counter + 1)) c.loop.rest.now c.in_ok-entry.following.now c.loop.entries.items _ read.0 c.in_ok-entry.entry (omega (arith, c.loop-test.true)) c.in_ok-push.ensures.items c.loop.invariant read.1 read.2

pub returns : goal.returns
returns c =
    λ n e. (let told = all_read Entry SpliceIn Splice splice_of splice_meant read_entry c.args.count c.args.bytes.now (c.args.count - c.loop.counter) c.loop.rest.now c.loop.entries.items (omega (arith, c.loop-test.false)) c.loop.invariant in
    (told.0, sym (count_same Entry read_entry entry_consumes c.args.count n c.args.bytes.now e (omega arith)) ∙ told.1, told.2))
