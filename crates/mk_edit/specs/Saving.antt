-- Histories and journals: what is written of a history, and what a journal describes with a text (own).
use Rattle.std.specs.Prelude.{◌≡◌, if◌then◌else◌, ℕ, Option, None, Some, Result, Ok, Err, List}
use Rattle.mk_splice.specs.Journals.{JournalText, Meaning, belongs, digest_of, journal, meaning}
use Rattle.mk_splice.specs.Misfits.{misfit}
use Rattle.mk_splice.specs.Printed.{AreSmall, printed}
use Rattle.mk_edit.specs.declared.errors.LoadError.{LoadError}
use Rattle.mk_edit.specs.declared.errors.LoadError.TheVariants.{JournalSyntax as SyntaxIn, JournalOther as OtherIn, JournalMismatch as MismatchIn, Memory as MemoryIn}
use Rattle.mk_edit.specs.History.{History, history_of}
use Rattle.mk_edit.specs.Histories.{IsHistory, text_now}

-- why a journal is refused: it isn't one, from an offset on; it belongs to another text; a step of it doesn't fit
pub data JournalRefusal : Type 0 where
  JournalSyntax : ℕ → JournalRefusal
  JournalOther : JournalRefusal
  JournalMismatch : ℕ → JournalRefusal

-- the journal of a history
abbrev pub saved : History → List ℕ
saved h = printed (digest_of (text_now h)) h.steps h.place

-- a history, unless a step doesn't fit
abbrev pub unless_misfit : Option ℕ → History → Result History JournalRefusal
unless_misfit None h = Ok h
unless_misfit (Some step) h = Err (JournalMismatch step)

-- the history that a journal describes with a text: the journal belongs to the text, and then its steps fit
abbrev pub described : List ℕ → Meaning → Result History JournalRefusal
described text m = if belongs m.digest text then unless_misfit (misfit text m.steps m.done) (history_of text m.steps m.done) else Err JournalOther

-- the same of a file that was read as a journal, or wasn't
abbrev pub described_by : List ℕ → Result JournalText ℕ → Result History JournalRefusal
described_by text (Ok j) = described text (meaning j)
described_by text (Err offset) = Err (JournalSyntax offset)

-- the history that a file describes with a text, or why it is refused
abbrev pub loaded : List ℕ → List ℕ → Result History JournalRefusal
loaded text file = described_by text (journal file)

-- an error says why the file is refused; running out of memory says nothing of it
abbrev pub RefusesJournal : LoadError → Result History JournalRefusal → Type 0
RefusesJournal (SyntaxIn offset) r = r ≡ Err (JournalSyntax offset)
RefusesJournal OtherIn r = r ≡ Err JournalOther
RefusesJournal (MismatchIn entry) r = r ≡ Err (JournalMismatch entry)
RefusesJournal MemoryIn r = Unit {0}

-- the journal of a history describes it with its text
abbrev pub SavedIsLoaded : Type 0
SavedIsLoaded = (h : History) → IsHistory h → AreSmall h.steps → loaded (text_now h) (saved h) ≡ Ok h
