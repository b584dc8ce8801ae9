-- The number of a message before each line that is said of it (own).
use Rattle.std.specs.Prelude.{◌++◌, ◌∷◌, [], ℕ, List, codes, decimal}
use Rattle.std.specs.List.{flat_map}
use Rattle.mk_line.specs.Ascii.{space}
use Rattle.mk_line.specs.Lines.{cut, printed_line}
use Rattle.mk_transfer.specs.Said.{Run, Said}

-- a text with a label before each of its lines
abbrev pub labelled : List ℕ → List ℕ → List ℕ
labelled label text = flat_map (λ l. label ++ printed_line l) (cut text)

-- what stands before the lines that report something of a message
abbrev pub message_label : ℕ → List ℕ
message_label number = codes "message " ++ (decimal number ++ codes ": ")

-- what stands before the lines that list something of a message
abbrev pub number_label : ℕ → List ℕ
number_label number = decimal number ++ (space ∷ [])

-- what is said of a message where a run on it alone says this: its output as it is, and its errors with a label before each line
abbrev pub said_of_run_as : List ℕ → Run → Said
said_of_run_as label run = record { output = run.output; errors = labelled label run.errors }

-- the same with the number of the message
abbrev pub said_of_run : ℕ → Run → Said
said_of_run number = said_of_run_as (message_label number)
