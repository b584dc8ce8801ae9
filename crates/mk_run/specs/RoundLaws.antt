-- Laws of fields that are filtered with a journal.
use Rattle.std.specs.Prelude.{◌≡◌, ℕ, List, Ok}
use Rattle.std.specs.Result.{result_unwrap_or}
use Rattle.mk_decide.specs.Edits.{Group, PlainEdit}
use Rattle.mk_edit.specs.History.{History}
use Rattle.mk_edit.specs.Histories.{step}
use Rattle.mk_mail.specs.Apart.{section_made}
use Rattle.mk_mail.specs.Rounds.{PlainRound}
use Rattle.mk_field.specs.Filtering.{report_of}
use Rattle.mk_transfer.specs.Said.{shown}
use Rattle.mk_run.specs.Journaling.{Anew}
use Rattle.mk_run.specs.RoundSteps.{rounds_step}
use Rattle.mk_run.specs.Runs.{run_of_rounds}

-- a run with a new journal prints and reports what it does without one
abbrev pub JournalsChangeNothing : Type 0
JournalsChangeNothing = (path : List ℕ) (rounds : List PlainRound) (message : List ℕ)
    → (run_of_rounds path rounds Anew message).run ≡ shown (result_unwrap_or (section_made path rounds message) message) (report_of path 1 (section_made path rounds message))

-- rounds that are accepted are one group of edits: they are undone and redone as groups are
abbrev pub RoundsAreGroups : Type 0
RoundsAreGroups = (path : List ℕ) (rounds : List PlainRound) (old new : History) → rounds_step path rounds old ≡ Ok new
    → (edits : List PlainEdit) × (step (Group edits) old ≡ Ok new)
