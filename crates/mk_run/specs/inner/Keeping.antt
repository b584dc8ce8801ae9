-- Errors that speak of a journal that is kept.
use Rattle.std.specs.Prelude.{Bool, true, false}
use Rattle.mk_edit.specs.declared.errors.LoadError.{LoadError}
use Rattle.mk_edit.specs.declared.errors.LoadError.TheVariants.{JournalSyntax, JournalOther, JournalMismatch, Memory}

-- whether an error says that there is no memory
abbrev pub says_memory : LoadError → Bool
says_memory (JournalSyntax offset) = false
says_memory JournalOther = false
says_memory (JournalMismatch entry) = false
says_memory Memory = true
