use Rattle.std.proofs.Common.{◌≡◌, ◌++◌, drop, false}
use Rattle.mk_wording.specs.Stretches.{name_said}
use Rattle.mk_wording.proofs.stretches.name_said.Given as goal

abbrev pub invariant-loop-byte : goal.invariant-loop-byte
invariant-loop-byte l = l.said.items ++ name_said l.is_escaped (drop l.byte-index l.name) ≡ name_said false l.name
