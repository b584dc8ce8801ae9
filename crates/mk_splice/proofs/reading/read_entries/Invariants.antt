use Rattle.std.proofs.Common.{◌-◌}
use Rattle.mk_splice.specs.declared.splicing.Splice.{Splice as SpliceIn}
use Rattle.mk_splice.specs.Splices.{Splice}
use Rattle.mk_splice.specs.inner.Readings.{SoFar}
use Rattle.mk_splice.specs.Grammar.{Entry, read_entry}
use Rattle.mk_splice.specs.Journals.{splice_meant}
use Rattle.mk_splice.specs.Views.{splice_of}
use Rattle.mk_splice.proofs.reading.read_entries.Given as goal

abbrev pub invariant-loop : goal.invariant-loop
invariant-loop l = SoFar Entry SpliceIn Splice splice_of splice_meant read_entry l.count l.bytes (l.count - l.counter) l.rest l.entries.items
