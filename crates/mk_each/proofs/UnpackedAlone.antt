-- What unpacking leaves in devices in memory.
use Rattle.std.proofs.Common.{◌≡◌, ℕ, List, [], Option, Some, Result, subst}
use Rattle.mk_transfer.specs.declared.status.Cause.{Cause}
use Rattle.mk_transfer.specs.declared.status.Status.{Status}
use Rattle.mk_transfer.specs.RunClauses.{held}
use Rattle.mk_transfer.specs.Said.{Said}
use Rattle.mk_show.specs.Chosen.{Asked}
use Rattle.mk_show.specs.Folders.{Files}
use Rattle.mk_show.specs.UnpackClauses.{LeavesAskedSoFar}
use Rattle.mk_each.specs.EachUnpacked.{IsUnpackedAlone}

-- devices that held this message and nothing were given to the run
pub unpacked_alone : (asked : Asked) (result : Result Status Cause) (message given output errors rest : List ℕ) (raw : Said) (old new : Option Files) → given ≡ message → output ≡ [] → errors ≡ []
    → LeavesAskedSoFar asked result (held (Some given) (Some output) (Some errors)) (held (Some rest) (Some raw.output) (Some raw.errors)) old new → IsUnpackedAlone asked result message raw old new
unpacked_alone asked result message given output errors rest raw old new e f g h =
    let after = held (Some rest) (Some raw.output) (Some raw.errors) in
    let silent = subst (λ o. LeavesAskedSoFar asked result (held (Some given) (Some o) (Some [])) after old new) f (subst (λ r. LeavesAskedSoFar asked result (held (Some given) (Some output) (Some r)) after old new) g h) in
    record { rest = rest; leaves = subst (λ m. LeavesAskedSoFar asked result (held (Some m) (Some []) (Some [])) after old new) e silent }
