-- The exit statuses of the program.
use Rattle.std.specs.Prelude.{ℕ}
use Rattle.mk_transfer.specs.declared.status.Status.{Status}
use Rattle.mk_transfer.specs.declared.status.Status.TheVariants.{Well, Refused, Usage, Fault, Memory}

-- 0 well, 1 refused, 2 usage, 3 fault, 4 memory
abbrev pub code_of : Status → ℕ
code_of Well = 0
code_of Refused = 1
code_of Usage = 2
code_of Fault = 3
code_of Memory = 4
