use Rattle.std.proofs.Common.{◌≡◌, ◌++◌, replicate}
use Rattle.mk_split.specs.Templates.{zero_digit}
use Rattle.mk_split.proofs.template.push_zeros.Given as goal

abbrev pub invariant-loop-zero : goal.invariant-loop-zero
invariant-loop-zero l = l.text.items ≡ l.fn.text.items ++ replicate l._zero zero_digit
