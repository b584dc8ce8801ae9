-- Runs that list the steps of a journal (own).
use Rattle.std.specs.Prelude.{◌≡◌, ℕ, List, [], Result, Ok, Err}
use Rattle.mk_splice.specs.Journals.{JournalText, journal, meaning}
use Rattle.mk_edit.specs.Saving.{JournalSyntax}
use Rattle.mk_transfer.specs.Said.{Run, shown}
use Rattle.mk_run.specs.Journaling.{journal_line}
use Rattle.mk_journal.specs.StepLines.{journal_lines}

-- what is shown of a journal, or of a file that is none
abbrev pub run_of_journal : Result JournalText ℕ → Run
run_of_journal (Ok j) = shown (journal_lines (meaning j)) []
run_of_journal (Err offset) = shown [] (journal_line (JournalSyntax offset))

-- the steps of a file go out, or the reason why it is no journal
abbrev pub IsJournalRun : List ℕ → Run → Type 0
IsJournalRun file run = run ≡ run_of_journal (journal file)
