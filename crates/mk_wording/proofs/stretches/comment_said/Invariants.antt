use Rattle.std.proofs.Common.{◌≡◌, ◌++◌, drop, false}
use Rattle.mk_wording.specs.Stretches.{comment_said}
use Rattle.mk_wording.proofs.stretches.comment_said.Given as goal

abbrev pub invariant-loop-byte : goal.invariant-loop-byte
invariant-loop-byte l = l.said.items ++ comment_said l.is_escaped (drop l.byte-index l.inside) ≡ comment_said false l.inside
