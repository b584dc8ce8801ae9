-- Journals are read exactly where they are spelled, and else the offset is that of the longest front.
use Rattle.mk_splice.specs.Journals.{JournalText, IsJournal, spell_journal, read_journal}
use Rattle.mk_splice.specs.JournalLaws.{FoundIsSpelled, SpelledIsFound, OffsetIsLongest}
use Rattle.mk_splice.proofs.Wholes.{whole_found, whole_again, whole_stops}
use Rattle.mk_splice.proofs.Entries.{reads_journal}

pub found_is_spelled : FoundIsSpelled
found_is_spelled file j h = whole_found JournalText IsJournal spell_journal read_journal reads_journal file j h

pub spelled_is_found : SpelledIsFound
spelled_is_found file j g h = whole_again JournalText IsJournal spell_journal read_journal reads_journal file j g h

pub offset_is_longest : OffsetIsLongest
offset_is_longest file n h = whole_stops JournalText IsJournal spell_journal read_journal reads_journal file n h
