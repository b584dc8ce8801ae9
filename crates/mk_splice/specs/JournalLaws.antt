-- Laws of journals: what is read, where reading stops, and that what is printed is read (own).
use Rattle.std.specs.Prelude.{◌≡◌, ◌≤◌, ℕ, Some, Ok, Err, List, length, codes}
use Rattle.mk_splice.specs.declared.reading.Version.TheVariants.{Two}
use Rattle.mk_splice.specs.Splices.{Splice}
use Rattle.mk_splice.specs.Readers.{LongestAt}
use Rattle.mk_splice.specs.Grammar.{IsDigest}
use Rattle.mk_splice.specs.Journals.{JournalText, IsJournal, ReadsAs, spell_journal, journal, digest_of}
use Rattle.mk_splice.specs.Printed.{AreSmall, printed}

-- what is read of a file is a journal that spells it
abbrev pub FoundIsSpelled : Type 0
FoundIsSpelled = (file : List ℕ) (j : JournalText) → journal file ≡ Ok j → IsJournal j × (spell_journal j ≡ file)

-- a journal that spells a file is read of it
abbrev pub SpelledIsFound : Type 0
SpelledIsFound = (file : List ℕ) (j : JournalText) → IsJournal j → spell_journal j ≡ file → journal file ≡ Ok j

-- else the offset is the length of the longest front with which some journal begins
abbrev pub OffsetIsLongest : Type 0
OffsetIsLongest = (file : List ℕ) (n : ℕ) → journal file ≡ Err n → LongestAt JournalText IsJournal spell_journal file n

-- a journal that is printed is read, and means what was printed
abbrev pub PrintedIsRead : Type 0
PrintedIsRead = (digest : List ℕ) (ss : List (List Splice)) (done : ℕ) → IsDigest Two digest → done ≤ length ss → AreSmall ss → ReadsAs (printed digest ss done) (record { digest = Some digest; steps = ss; done = done })

-- also with the digest of a text
abbrev pub PrintedOfTextIsRead : Type 0
PrintedOfTextIsRead = (text : List ℕ) (ss : List (List Splice)) (done : ℕ) → done ≤ length ss → AreSmall ss → ReadsAs (printed (digest_of text) ss done) (record { digest = Some (digest_of text); steps = ss; done = done })

-- the SHA-256 of the empty text, and of `abc`
abbrev pub empty_digest : List ℕ
empty_digest = codes "e3b0c44298fc1c149afbf4c8996fb92427ae41e4649b934ca495991b7852b855"

abbrev pub abc_digest : List ℕ
abc_digest = codes "ba7816bf8f01cfea414140de5dae2223b00361a396177a9cb410ff61f20015ad"
