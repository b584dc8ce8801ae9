use Rattle.std.proofs.Common.{◌≡◌, ◌++◌, drop, false}
use Rattle.mk_head.specs.Values.{unquoted}
use Rattle.mk_head.proofs.scanning.unquote.Given as goal

abbrev pub invariant-loop-byte : goal.invariant-loop-byte
invariant-loop-byte l = l.value.items ++ unquoted l.is_escaped (drop l.byte-index l.text) ≡ unquoted false l.text
