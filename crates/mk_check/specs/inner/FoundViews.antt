-- Findings in memory as what they say.
use Rattle.mk_check.specs.declared.faults.Finding.{Finding}
use Rattle.mk_check.specs.Findings.{FoundFault}

-- a finding in memory
abbrev pub found_of : Finding → FoundFault
found_of f = record { place = f.place; fault = f.fault; field = f.field.now }
