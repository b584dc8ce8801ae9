-- A message that is forwarded, in memory, as plain data; and the refusals.
use Rattle.std.specs.Prelude.{◌≡◌, ℕ, Some, List}
use Rattle.mk_build.specs.declared.building.BuildError.{BuildError}
use Rattle.mk_build.specs.declared.building.BuildError.TheVariants as build
use Rattle.mk_build.specs.declared.forwarding.Forward.{Forward}
use Rattle.mk_build.specs.Building.{Attached}
use Rattle.mk_build.specs.Forwards.{Forwarded, refusal_with, without_envelope}
use Rattle.mk_build.specs.Multiparts.{Multipart}

-- what is sent of it
abbrev pub forwarded_of : Forward → Forwarded
forwarded_of f = record { text = without_envelope f.text.items; inline = f.inline }

-- the reason is the first; memory may be wanted at any time
abbrev pub IsRefusedWith : List (List ℕ) → List Attached → List Forwarded → Multipart → BuildError → Type 0
IsRefusedWith fields parts messages m (build.BadField index) = refusal_with fields parts messages m ≡ Some (build.BadField index)
IsRefusedWith fields parts messages m (build.BadType index) = refusal_with fields parts messages m ≡ Some (build.BadType index)
IsRefusedWith fields parts messages m (build.BadName index) = refusal_with fields parts messages m ≡ Some (build.BadName index)
IsRefusedWith fields parts messages m build.BadSubtype = refusal_with fields parts messages m ≡ Some build.BadSubtype
IsRefusedWith fields parts messages m build.BadCharset = refusal_with fields parts messages m ≡ Some build.BadCharset
IsRefusedWith fields parts messages m build.BadBoundary = refusal_with fields parts messages m ≡ Some build.BadBoundary
IsRefusedWith fields parts messages m (build.HoldsBoundary index) = refusal_with fields parts messages m ≡ Some (build.HoldsBoundary index)
IsRefusedWith fields parts messages m build.Memory = Unit {0}
