-- What a journal in memory says of a file, and what an error says (own).
use Rattle.std.specs.Prelude.{◌≡◌, ℕ, Result, Ok, Err}
use Rattle.mk_splice.specs.declared.journals.Journal.{Journal}
use Rattle.mk_splice.specs.declared.journals.JournalError.{JournalError}
use Rattle.mk_splice.specs.declared.journals.JournalError.TheVariants.{Syntax, Memory}
use Rattle.mk_splice.specs.Journals.{JournalText, Meaning, meaning}
use Rattle.mk_splice.specs.Views.{steps_of}

-- what a journal in memory says
abbrev pub meaning_of : Journal → Meaning
meaning_of j = record { digest = j.digest; steps = steps_of j.steps.items; done = j.done }

-- a journal in memory says what a file's journal means
abbrev pub SaysText : Journal → Result JournalText ℕ → Type 0
SaysText j (Ok text) = meaning_of j ≡ meaning text
SaysText j (Err offset) = ⊥

-- an error says where a file stops being the beginning of a journal
abbrev pub SaysStop : JournalError → Result JournalText ℕ → Type 0
SaysStop (Syntax offset) read = read ≡ Err offset
SaysStop Memory read = Unit {0}
