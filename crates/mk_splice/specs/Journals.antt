-- Journals as texts: what a file says, or where it stops being the beginning of one (own).
use Rattle.std.specs.Prelude.{◌≡◌, ◌==◌, ◌+◌, ◌-◌, ◌^◌, ◌++◌, nat_eq, ℕ, Bool, true, Option, None, Some, Result, Ok, List, [], ◌∷◌, length, map, min, codes}
use Rattle.std.specs.List.{flat_map}
use Rattle.std.specs.Cmp.Lexicographic.{pointwise}
use Rattle.sha2.specs.Sha256.{sha256}
use Rattle.hex.specs.Hex.{encode_lower}
use Rattle.mk_splice.specs.declared.reading.Version.{Version}
use Rattle.mk_splice.specs.declared.reading.Version.TheVariants.{One, Two}
use Rattle.mk_splice.specs.Splices.{Splice}
use Rattle.mk_splice.specs.Readers.{named, and_then, read_times, read_byte, read_text, whole, AllGood}
use Rattle.mk_splice.specs.Grammar.{Entry, StepText, IsNumber, IsDigest, IsStep, number_of, read_number, read_version, read_digest, read_step, spell_version, spell_line, spell_step}

-- a journal: its version, the digest's digits, the digits of the counts, and the steps
pub record JournalText : Type 0 where
  pub version : Version
  pub digest : List ℕ
  pub done : List ℕ
  pub undone : List ℕ
  pub steps : List StepText

-- a journal has as many steps as its counts say
pub record IsJournal (j : JournalText) : Type 0 where
  pub digest : IsDigest j.version j.digest
  pub done : IsNumber j.done
  pub undone : IsNumber j.undone
  pub steps : AllGood (IsStep j.version) (number_of j.done + number_of j.undone) j.steps

-- how a journal is spelled
abbrev pub spell_journal : JournalText → List ℕ
spell_journal j = (((((codes "mimejournal " ++ spell_version j.version) ++ 10 ∷ []) ++ spell_line j.version j.digest) ++ (j.done ++ 32 ∷ [])) ++ (j.undone ++ 10 ∷ [])) ++ flat_map (spell_step j.version) j.steps

-- what stands before the steps: a line with the version, the line of the digest, and one with the counts
abbrev pub read_front : List ℕ → Result ((((((List ℕ × Version) × ℕ) × List ℕ) × List ℕ) × List ℕ) × List ℕ) (List ℕ)
read_front b =
    and_then (and_then (and_then (and_then (and_then (read_text (codes "mimejournal ") b) (λ p. read_version)) (λ p. read_byte (λ c. c == 10)))
    (λ p. read_digest p.0.1)) (λ p. read_number 32)) (λ p. read_number 10)

-- a journal and the bytes after it
abbrev pub read_journal : List ℕ → Result (JournalText × List ℕ) (List ℕ)
read_journal b =
    named (λ p. record { version = p.0.0.0.0.0.1; digest = p.0.0.0.1; done = p.0.0.1; undone = p.0.1; steps = p.1 })
    (and_then (read_front b) (λ p. read_times (number_of p.0.1 + number_of p.1) (read_step p.0.0.0.0.1)))

-- the journal that a file is, or the offset of the syntax fault
abbrev pub journal : List ℕ → Result JournalText ℕ
journal file = whole (length file) (read_journal file)

-- a number as 64 bits hold it: what is larger is the greatest, as a place beyond every text
abbrev pub saturated : ℕ → ℕ
saturated n = min n (2 ^ 64 - 1)

-- what a journal says: the digest of its text, if it names one, the steps, and how many of them are done
pub record Meaning : Type 0 where
  pub digest : Option (List ℕ)
  pub steps : List (List Splice)
  pub done : ℕ

-- the digest that a journal names, which version 1 doesn't
abbrev pub digest_meant : Version → List ℕ → Option (List ℕ)
digest_meant One ds = None
digest_meant Two ds = Some ds

-- the splice that an entry is
abbrev pub splice_meant : Entry → Splice
splice_meant e = record { place = saturated (number_of e.place); old = e.old; new = e.new }

-- what a journal says
abbrev pub meaning : JournalText → Meaning
meaning j = record { digest = digest_meant j.version j.digest; steps = map (λ s. map splice_meant s.entries) j.steps; done = number_of j.done }

-- a file is read as a journal that means this
abbrev pub ReadsAs : List ℕ → Meaning → Type 0
ReadsAs file m = (j : JournalText) × (journal file ≡ Ok j) × (meaning j ≡ m)

-- the SHA-256 of a text in 64 lower case hexadecimal digits
abbrev pub digest_of : List ℕ → List ℕ
digest_of text = encode_lower (sha256 text)

-- whether a text is the one that a journal's digest names, if it names one
abbrev pub belongs : Option (List ℕ) → List ℕ → Bool
belongs None text = true
belongs (Some digest) text = pointwise nat_eq digest (digest_of text)
