-- What a run says: what goes to the output and to the errors, and how it ends.
use Rattle.std.specs.Prelude.{◌++◌, if◌then◌else◌, ℕ, List, []}
use Rattle.mk_line.specs.Lines.{is_nil}
use Rattle.mk_transfer.specs.declared.status.Status.{Status}
use Rattle.mk_transfer.specs.declared.status.Status.TheVariants.{Well, Refused}

-- what goes to the output and what to the errors
pub record Said : Type 0 where
  pub output : List ℕ
  pub errors : List ℕ

-- nothing goes out
abbrev pub silence : Said
silence = record { output = []; errors = [] }

-- what is said, and what is said after it
abbrev pub said_after : Said → Said → Said
said_after first more = record { output = first.output ++ more.output; errors = first.errors ++ more.errors }

-- what a run writes to the output and to the errors, and its status
pub record Run : Type 0 where
  pub output : List ℕ
  pub errors : List ℕ
  pub status : Status

-- what goes out is refused where there is an error line
abbrev pub shown : List ℕ → List ℕ → Run
shown output errors = record { output = output; errors = errors; status = if is_nil errors then Well else Refused }
