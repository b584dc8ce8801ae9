use Rattle.std.proofs.Common.{◌-◌, List, map}
use Rattle.std.specs.Global.{Vec}
use Rattle.mk_splice.specs.declared.splicing.Splice.{Splice as SpliceIn}
use Rattle.mk_splice.specs.Splices.{Splice}
use Rattle.mk_splice.specs.inner.Readings.{SoFar}
use Rattle.mk_splice.specs.Grammar.{StepText, read_step}
use Rattle.mk_splice.specs.Views.{splice_of}
use Rattle.mk_splice.specs.inner.Parts.{step_meant}
use Rattle.mk_splice.proofs.reading.read_steps.Given as goal

abbrev pub invariant-loop : goal.invariant-loop
invariant-loop l = SoFar StepText (Vec SpliceIn) (List Splice) (λ v. map splice_of v.items) step_meant (read_step l.version) l.count l.bytes (l.count - l.counter) l.rest l.steps.items
