-- A part that is printed alone (own).
use Rattle.std.specs.Prelude.{◌≡◌, if◌then◌else◌, ℕ, Option, None, Some, List, [], true}
use Rattle.std.specs.Option.{option_map, option_map_or}
use Rattle.mk_line.specs.declared.cutting.Ending.TheVariants.{Lf}
use Rattle.mk_build.specs.declared.attaching.AttachError.{AttachError}
use Rattle.mk_build.specs.declared.attaching.AttachError.TheVariants as attach
use Rattle.mk_build.specs.declared.building.BuildError.{BuildError}
use Rattle.mk_build.specs.declared.building.BuildError.TheVariants as refused
use Rattle.mk_build.specs.Building.{Attached, attach_refusal}
use Rattle.mk_build.specs.Multiparts.{attached_as}
use Rattle.mk_transfer.specs.Said.{Run}
use Rattle.mk_pack.specs.Packing.{told}
use Rattle.mk_head.specs.Values.{is_token}

-- the input of a run that reads none: it is at its end before and after
abbrev pub no_input : Option (List ℕ)
no_input = Some []

-- the reason against a part, as against the first of a message
abbrev pub first_refusal : AttachError → BuildError
first_refusal attach.BadType = refused.BadType 0
first_refusal attach.BadName = refused.BadName 0
first_refusal attach.Memory = refused.Memory

-- why a part with a charset isn't printed: the part first, then the charset
abbrev pub refusal_with : Option (List ℕ) → Option BuildError → Option BuildError
refusal_with charset (Some error) = Some error
refusal_with charset None = if option_map_or is_token charset true then None else Some refused.BadCharset

-- the part, its lines ended by line feeds, which names the charset where it is a text; or the reason against it
abbrev pub alone : Option (List ℕ) → Attached → Run
alone charset a = told (attached_as Lf charset a) (refusal_with charset (option_map first_refusal (attach_refusal a)))

-- the same as a fact
abbrev pub IsAlone : Option (List ℕ) → Attached → Run → Type 0
IsAlone charset a run = run ≡ alone charset a
