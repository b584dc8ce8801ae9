-- How a call ended, as the numbers that C gets (own).
use Rattle.std.specs.Prelude.{ℕ, Result, Ok, Err}
use Rattle.mk_decide.specs.declared.errors.EditError.{EditError}
use Rattle.mk_decide.specs.declared.errors.EditError.TheVariants as edit
use Rattle.mk_edit.specs.declared.errors.LoadError.{LoadError}
use Rattle.mk_edit.specs.declared.errors.LoadError.TheVariants as load
use Rattle.mk_view.specs.declared.extracting.ExtractError.{ExtractError}
use Rattle.mk_view.specs.declared.extracting.ExtractError.TheVariants as extract
use Rattle.mk_build.specs.declared.building.BuildError.{BuildError}
use Rattle.mk_build.specs.declared.building.BuildError.TheVariants as build
use Rattle.mk_c.specs.declared.status.Reason.{Reason}
use Rattle.mk_c.specs.declared.status.Reason.TheVariants.{Closed, Memory, BadSize, NoEdit, NoName, NoMessage, NeedsMore, Edit, Journal, Content, Build}
use Rattle.mk_c.specs.declared.status.Place.{Place}

-- the number of a reason against an edit
abbrev pub edit_number : EditError → ℕ
edit_number edit.Memory = 2
edit_number edit.NoSuchSection = 10
edit_number edit.NotMultipart = 11
edit_number edit.NotLeaf = 12
edit_number edit.NotPart = 13
edit_number edit.NoSuchField = 14
edit_number edit.BadPlace = 15
edit_number edit.BadField = 16
edit_number edit.BadName = 17
edit_number edit.BadBoundary = 18
edit_number edit.BadSubtype = 19
edit_number edit.OpenLine = 20
edit_number (edit.HoldsBoundary level) = 21
edit_number edit.Recut = 22
edit_number edit.NothingToUndo = 23
edit_number edit.NothingToRedo = 24

-- the number of a reason against a journal
abbrev pub journal_number : LoadError → ℕ
journal_number load.Memory = 2
journal_number (load.JournalSyntax offset) = 30
journal_number load.JournalOther = 31
journal_number (load.JournalMismatch entry) = 32

-- the number of a reason why no content is taken out
abbrev pub content_number : ExtractError → ℕ
content_number extract.Memory = 2
content_number extract.NoSuchSection = 10
content_number extract.BadBase64 = 40
content_number extract.UnknownEncoding = 41

-- the number of a reason why no message is built
abbrev pub build_number : BuildError → ℕ
build_number build.Memory = 2
build_number (build.BadField index) = 16
build_number build.BadBoundary = 18
build_number build.BadSubtype = 19
build_number (build.HoldsBoundary index) = 21
build_number (build.BadType index) = 50
build_number (build.BadName index) = 51
build_number build.BadCharset = 52

-- the number of a reason
abbrev pub reason_number : Reason → ℕ
reason_number Closed = 1
reason_number Memory = 2
reason_number BadSize = 3
reason_number NoEdit = 4
reason_number NoName = 5
reason_number NoMessage = 7
reason_number NeedsMore = 8
reason_number (Edit index error) = edit_number error
reason_number (Journal error) = journal_number error
reason_number (Content error) = content_number error
reason_number (Build error) = build_number error

-- how many numbers the path of the multipart has whose boundary a line holds
abbrev pub level_of : EditError → ℕ
level_of (edit.HoldsBoundary level) = level
level_of edit.Memory = 0
level_of edit.NoSuchSection = 0
level_of edit.NotMultipart = 0
level_of edit.NotLeaf = 0
level_of edit.NotPart = 0
level_of edit.NoSuchField = 0
level_of edit.BadPlace = 0
level_of edit.BadField = 0
level_of edit.BadName = 0
level_of edit.BadBoundary = 0
level_of edit.BadSubtype = 0
level_of edit.OpenLine = 0
level_of edit.Recut = 0
level_of edit.NothingToUndo = 0
level_of edit.NothingToRedo = 0

-- where in a journal the reason lies
abbrev pub offset_of : LoadError → ℕ
offset_of (load.JournalSyntax offset) = offset
offset_of (load.JournalMismatch entry) = entry
offset_of load.JournalOther = 0
offset_of load.Memory = 0

-- which field, part or message the reason is against
abbrev pub refused_index : BuildError → ℕ
refused_index (build.BadField index) = index
refused_index (build.BadType index) = index
refused_index (build.BadName index) = index
refused_index (build.HoldsBoundary index) = index
refused_index build.BadSubtype = 0
refused_index build.BadCharset = 0
refused_index build.BadBoundary = 0
refused_index build.Memory = 0

-- nowhere
abbrev pub nowhere : Place
nowhere = record { edit = 0; number = 0 }

-- where a reason lies
abbrev pub reason_place : Reason → Place
reason_place (Edit index error) = record { edit = index; number = level_of error }
reason_place (Journal error) = record { edit = 0; number = offset_of error }
reason_place (Build error) = record { edit = refused_index error; number = 0 }
reason_place (Content error) = nowhere
reason_place Closed = nowhere
reason_place Memory = nowhere
reason_place BadSize = nowhere
reason_place NoEdit = nowhere
reason_place NoName = nowhere
reason_place NoMessage = nowhere
reason_place NeedsMore = nowhere

-- how a call ended, and where it was refused
abbrev pub status_and_place : {X : Type 0} → Result X Reason → ℕ × Place
status_and_place (Ok x) = (0, nowhere)
status_and_place (Err reason) = (reason_number reason, reason_place reason)
