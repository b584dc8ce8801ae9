-- Parts of what is read and of what is printed, as private contracts and proofs name them.
use Rattle.std.specs.Prelude.{◌==◌, ◌||◌, ◌<◌, ◌^◌, ◌++◌, if◌then◌else◌, ℕ, Bool, Result, List, [], ◌∷◌, codes, length, map}
use Rattle.std.specs.List.{AllByRecursion, flat_map}
use Rattle.mk_splice.specs.declared.reading.Version.{Version}
use Rattle.mk_splice.specs.declared.reading.Version.TheVariants.{One, Two}
use Rattle.mk_splice.specs.Splices.{Splice}
use Rattle.mk_splice.specs.Readers.{and_then, named, read_byte, read_run, read_text}
use Rattle.mk_splice.specs.Grammar.{Entry, StepText, read_version}
use Rattle.mk_splice.specs.Journals.{JournalText, splice_meant}
use Rattle.mk_splice.specs.Printed.{IsSmall, printed_entry, printed_number, printed_step}

-- a value at the start of another, and at the start of a list
abbrev pub with_first : {A B : Type 0} → A → Result (B × List ℕ) (List ℕ) → Result ((A × B) × List ℕ) (List ℕ)
with_first x read = named (λ y. (x, y)) read

abbrev pub onto : {A : Type 0} → A × List A → List A
onto p = p.0 ∷ p.1

-- a byte that is given
abbrev pub read_mark : ℕ → List ℕ → Result (ℕ × List ℕ) (List ℕ)
read_mark e = read_byte (λ c. c == e)

-- an entry, a step and a journal of what was read
abbrev pub entry_of : (((List ℕ × List ℕ) × List ℕ) × List ℕ) × (List ℕ × ℕ) → Entry
entry_of p = record { place = p.0.0.0.0; old_size = p.0.0.0.1; new_size = p.0.0.1; old = p.0.1; new = p.1.0 }

abbrev pub step_of : List ℕ × List Entry → StepText
step_of p = record { count = p.0; entries = p.1 }

abbrev pub journal_of : (((((List ℕ × Version) × ℕ) × List ℕ) × List ℕ) × List ℕ) × List StepText → JournalText
journal_of p = record { version = p.0.0.0.0.0.1; digest = p.0.0.0.1; done = p.0.0.1; undone = p.0.1; steps = p.1 }

-- new bytes and the line feed after them
abbrev pub read_end : ℕ → List ℕ → Result ((List ℕ × ℕ) × List ℕ) (List ℕ)
read_end n b = and_then (read_run n b) (λ xs. read_mark 10)

-- whether a byte names a version, and which one it names
abbrev pub is_version : ℕ → Bool
is_version c = c == 49 || c == 50

abbrev pub version_of : ℕ → Version
version_of c = if c == 49 then One else Two

-- the first line: its version
abbrev pub read_first : List ℕ → Result (((List ℕ × Version) × ℕ) × List ℕ) (List ℕ)
read_first b = and_then (and_then (read_text (codes "mimejournal ") b) (λ p. read_version)) (λ p. read_mark 10)

-- the splices of a step
abbrev pub step_meant : StepText → List Splice
step_meant s = map splice_meant s.entries

-- the entries of a step, steps, and what stands before them, as they are printed
abbrev pub printed_entries : List Splice → List ℕ
printed_entries ss = flat_map printed_entry ss

abbrev pub printed_steps : List (List Splice) → List ℕ
printed_steps ss = flat_map printed_step ss

abbrev pub printed_front : List ℕ → ℕ → ℕ → List ℕ
printed_front digest done undone = codes "mimejournal 2\n" ++ (digest ++ (10 ∷ [] ++ (printed_number done 32 ++ printed_number undone 10)))

-- splices and steps whose numbers 64 bits hold
abbrev pub AreSmallSplices : List Splice → Type 0
AreSmallSplices ss = AllByRecursion IsSmall ss

abbrev pub AreSmallSteps : List (List Splice) → Type 0
AreSmallSteps ss = AllByRecursion (λ s. (length s < 2 ^ 64) × AreSmallSplices s) ss
