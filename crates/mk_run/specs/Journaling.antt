-- What a run keeps for later runs: the journal of its history (own).
use Rattle.std.specs.Prelude.{◌++◌, ◌∷◌, [], ℕ, List, Option, Some, None, Result, Ok, codes, decimal}
use Rattle.mk_line.specs.Ascii.{line_feed}
use Rattle.mk_edit.specs.declared.errors.LoadError.{LoadError}
use Rattle.mk_edit.specs.declared.errors.LoadError.TheVariants.{JournalSyntax as SyntaxIn, JournalOther as OtherIn, JournalMismatch as MismatchIn, Memory as MemoryIn}
use Rattle.mk_edit.specs.History.{History}
use Rattle.mk_edit.specs.Histories.{started}
use Rattle.mk_edit.specs.Saving.{JournalRefusal, JournalSyntax, JournalOther, JournalMismatch, loaded, saved}
use Rattle.mk_run.specs.declared.journaling.Journal.{Journal}
use Rattle.mk_run.specs.declared.journaling.Journal.TheVariants.{Off, New, Old}

-- a run keeps no journal, or a new one, or goes on with the one in a file
pub data Journaling : Type 0 where
  Without : Journaling
  Anew : Journaling
  Onward : List ℕ → Journaling

-- the history that a run begins with, or why its journal is refused
abbrev pub begun : Journaling → List ℕ → Result History JournalRefusal
begun Without message = Ok (started message)
begun Anew message = Ok (started message)
begun (Onward file) message = loaded message file

-- the journal that a run leaves; without one nothing is written
abbrev pub left_journal : Journaling → History → List ℕ
left_journal Without h = []
left_journal Anew h = saved h
left_journal (Onward file) h = saved h

-- what a caller says of the journal
abbrev pub journaling_of : Journal → Journaling
journaling_of Off = Without
journaling_of New = Anew
journaling_of (Old file) = Onward file.now

-- why a journal is refused, as it is reported
abbrev pub journal_reason : JournalRefusal → List ℕ
journal_reason (JournalSyntax offset) = codes "JournalSyntax " ++ decimal offset
journal_reason JournalOther = codes "JournalOther"
journal_reason (JournalMismatch entry) = codes "JournalMismatch " ++ decimal entry

-- the line that reports a refused journal
abbrev pub journal_line : JournalRefusal → List ℕ
journal_line reason = codes "journal: " ++ (journal_reason reason ++ line_feed ∷ [])

-- the reason that an error names; running out of memory is none
abbrev pub named_by : LoadError → Option JournalRefusal
named_by (SyntaxIn offset) = Some (JournalSyntax offset)
named_by OtherIn = Some JournalOther
named_by (MismatchIn entry) = Some (JournalMismatch entry)
named_by MemoryIn = None
