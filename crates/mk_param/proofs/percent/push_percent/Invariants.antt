use Rattle.std.proofs.Common.{◌≡◌, ◌++◌, take}
use Rattle.mk_param.specs.Percents.{percent_encoded}
use Rattle.mk_param.proofs.percent.push_percent.Given as goal

abbrev pub invariant-loop-byte : goal.invariant-loop-byte
invariant-loop-byte l = l.text.items ≡ l.fn.text.items ++ percent_encoded (take l.byte-index l.bytes)
