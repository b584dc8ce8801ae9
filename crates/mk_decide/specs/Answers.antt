-- What a call answers, beside what is defined.
use Rattle.std.specs.Prelude.{◌≡◌, Bool, Option, None, Some, Result, Ok, Err, IsOk, is_none}
use Rattle.mk_decide.specs.declared.errors.EditError.{EditError}
use Rattle.mk_decide.specs.declared.errors.EditError.TheVariants as error
use Rattle.mk_decide.specs.Edits.{Refusal, NoSuchSection, NotMultipart, NotLeaf, NotPart, NoSuchField, BadPlace, BadField, BadName, BadBoundary, BadSubtype, OpenLine, HoldsBoundary, Recut, NothingToUndo, NothingToRedo}

-- the reason that an error names; running out of memory is none
abbrev pub refusal_of : EditError → Option Refusal
refusal_of error.NoSuchSection = Some NoSuchSection
refusal_of error.NotMultipart = Some NotMultipart
refusal_of error.NotLeaf = Some NotLeaf
refusal_of error.NotPart = Some NotPart
refusal_of error.NoSuchField = Some NoSuchField
refusal_of error.BadPlace = Some BadPlace
refusal_of error.BadField = Some BadField
refusal_of error.BadName = Some BadName
refusal_of error.BadBoundary = Some BadBoundary
refusal_of error.BadSubtype = Some BadSubtype
refusal_of error.OpenLine = Some OpenLine
refusal_of (error.HoldsBoundary level) = Some (HoldsBoundary level)
refusal_of error.Recut = Some Recut
refusal_of error.NothingToUndo = Some NothingToUndo
refusal_of error.NothingToRedo = Some NothingToRedo
refusal_of error.Memory = None

-- running out of memory
abbrev pub is_memory : EditError → Bool
is_memory e = is_none (refusal_of e)

-- an answer is the reason, where one is named
abbrev pub IsRefusedBy : {X : Type 0} → Option Refusal → Result X Refusal → Type 0
IsRefusedBy None r = Unit {0}
IsRefusedBy (Some e) r = r ≡ Err e

-- what a call answered is what is defined
abbrev pub Answers : {X Y : Type 0} → Result X EditError → Result Y Refusal → Type 0
Answers (Ok x) defined = IsOk defined
Answers (Err e) defined = IsRefusedBy (refusal_of e) defined
