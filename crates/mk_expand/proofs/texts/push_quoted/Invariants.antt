use Rattle.std.proofs.Common.{◌≡◌, ◌++◌, drop}
use Rattle.std.specs.List.{flat_map}
use Rattle.mk_expand.specs.Charsets.{quoted_byte}
use Rattle.mk_expand.proofs.texts.push_quoted.Given as goal

abbrev pub invariant-loop-byte : goal.invariant-loop-byte
invariant-loop-byte l = l.text.items ++ flat_map quoted_byte (drop l.byte-index l.value) ≡ l.fn.text.items ++ flat_map quoted_byte l.value
