-- What a journal in memory, or its fault, becomes when it is loaded.
use Rattle.std.specs.Prelude.{◌≡◌, ℕ, Ok, List}
use Rattle.mk_splice.specs.declared.journals.Journal.{Journal}
use Rattle.mk_splice.specs.Fits.{Fit}
use Rattle.mk_splice.specs.Views.{steps_of}
use Rattle.mk_splice.specs.declared.journals.JournalError.{JournalError}
use Rattle.mk_splice.specs.declared.journals.JournalError.TheVariants.{Syntax, Memory as NoMemoryToParse}
use Rattle.mk_splice.specs.declared.fitting.FitError.{FitError}
use Rattle.mk_splice.specs.declared.fitting.FitError.TheVariants.{Misfit, Memory as NoMemoryToFit}
use Rattle.mk_edit.specs.declared.errors.LoadError.{LoadError}
use Rattle.mk_edit.specs.declared.errors.LoadError.TheVariants.{JournalSyntax, JournalMismatch, Memory}
use Rattle.mk_edit.specs.History.{history_of}
use Rattle.mk_edit.specs.Saving.{loaded}

-- of a file that is no journal
abbrev pub of_journal : JournalError → LoadError
of_journal (Syntax offset) = JournalSyntax offset
of_journal NoMemoryToParse = Memory

-- of a step that doesn't fit
abbrev pub of_fit : FitError → LoadError
of_fit (Misfit step) = JournalMismatch step
of_fit NoMemoryToFit = Memory

-- a file describes the history of a text with the steps in memory
pub record IsFitting (text file : List ℕ) (j : Journal) : Type 0 where
  pub loads : loaded text file ≡ Ok (history_of text (steps_of j.steps.items) j.done)
  pub fits : Fit text (steps_of j.steps.items) j.done
