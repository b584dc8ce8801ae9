-- Runs that are given up.
use Rattle.std.proofs.Common.{◌≡◌, ℕ, List, Option, refl}
use Rattle.std.specs.Io.KnownBytes.{Keeps}
use Rattle.mk_mailbox.specs.Devices.{AppendsFront}
use Rattle.mk_transfer.specs.declared.status.Status.{Status}
use Rattle.mk_transfer.specs.declared.status.Status.TheVariants.{Well, Refused, Usage, Fault, Memory as NoRoom}
use Rattle.mk_transfer.specs.declared.status.Cause.{Cause}
use Rattle.mk_transfer.specs.declared.status.Cause.TheVariants.{Read, Write, Memory}
use Rattle.mk_transfer.specs.declared.transfer.Stop.{Stop}
use Rattle.mk_transfer.specs.declared.transfer.Stop.TheVariants.{Fault as Stopped, Memory as Wanting}
use Rattle.mk_transfer.specs.Said.{Run}
use Rattle.mk_transfer.specs.RunClauses.{Ends, Held, Leaves, Reason, cause_of_writing, status_of}

-- what was left before the line that says why a run is given up, and that line
pub Leaves-given_up : (why : Reason) (cause : Cause) (run : Run) (before after : Held) (between : Option (List ℕ))
    → AppendsFront before.output after.output run.output → AppendsFront before.errors between run.errors → why cause between after.errors
    → (cause ≡ Read → Keeps before.output after.output)
    → Leaves why (status_of cause) run before after
Leaves-given_up why Read run before after between output errors line silent = record { output = output; cause = Read; status_is = refl; between = between; errors = errors; line = line; silent = silent }
Leaves-given_up why Write run before after between output errors line silent = record { output = output; cause = Write; status_is = refl; between = between; errors = errors; line = line; silent = silent }
Leaves-given_up why Memory run before after between output errors line silent = record { output = output; cause = Memory; status_is = refl; between = between; errors = errors; line = line; silent = silent }

-- a run that ended by itself was not given up
pub Leaves-ended : (why : Reason) (status : Status) (run : Run) (before after : Held) → Ends status run before after → Leaves why status run before after
Leaves-ended why Well run before after e = e
Leaves-ended why Refused run before after e = e
Leaves-ended why Usage run before after e = e
Leaves-ended why Fault run before after e = absurd e
Leaves-ended why NoRoom run before after e = absurd e

-- no cause of writing is one of reading
pub writing-not_read : (stop : Stop) → cause_of_writing stop ≡ Read → ⊥
writing-not_read Stopped e = cc
writing-not_read Wanting e = cc

pub not_reading : {A : Type 0} (stop : Stop) (cause : Cause) → cause ≡ cause_of_writing stop → cause ≡ Read → A
not_reading Stopped cause e r = cc
not_reading Wanting cause e r = cc
