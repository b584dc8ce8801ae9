use Rattle.std.proofs.Common.{◌≡◌, map, drop}
use Rattle.mk_splice.specs.Misfits.{step_made}
use Rattle.mk_splice.specs.Views.{splice_of}
use Rattle.mk_splice.proofs.fitting.try_forth_in_turn.Given as goal

abbrev pub invariant-loop-splice : goal.invariant-loop-splice
invariant-loop-splice l = step_made (map splice_of (drop l.splice-index l.step)) l.text.bytes ≡ step_made (map splice_of l.step) l.fn.text.bytes
