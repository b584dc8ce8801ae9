use Rattle.std.proofs.Common.{◌≡◌, map, drop}
use Rattle.mk_splice.specs.Misfits.{step_made}
use Rattle.mk_splice.specs.Views.{splice_of}
use Rattle.mk_splice.specs.inner.Open.{shut}
use Rattle.mk_splice.proofs.fitting.try_forth_open.Given as goal

abbrev pub invariant-loop-splice : goal.invariant-loop-splice
invariant-loop-splice l = step_made (map splice_of (drop l.splice-index l.step)) (shut l.gapped) ≡ step_made (map splice_of l.step) l.fn.text.bytes
