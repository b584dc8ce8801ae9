-- What reads a mailbox in chunks, as what it holds; for private contracts.
use Rattle.std.specs.Prelude.{◌++◌, ℕ, List, drop, take}
use Rattle.mk_mailbox.specs.declared.intake.Intake.{Intake}
use Rattle.mk_mailbox.specs.inner.Gathered.{IsChunk, IsGathered}
use Rattle.mk_mailbox.specs.Held.{Held}

-- the bytes of a chunk that weren't taken from it yet
abbrev pub unread : List ℕ → ℕ → ℕ → List ℕ
unread chunk at filled = drop at (take filled chunk)

-- the bytes that were read and not given yet: the lines gathered, and those in the chunk
abbrev pub kept_by : Intake → List ℕ
kept_by i = i.gathered.bytes.items ++ unread i.chunk.items i.at i.filled

-- an intake in memory as what it holds
abbrev pub held_of : Intake → Held
held_of i = record { kept = kept_by i; ended = i.ended; from_lines = i.gathered.from_lines }

-- what is gathered is one message so far, and the chunk is filled up to a place
pub record IsIntake (i : Intake) : Type 0 where
  pub gathered : IsGathered i.gathered.from_lines i.gathered.bytes.items i.gathered.start i.gathered.line i.gathered.after_empty
  pub chunk : IsChunk i.chunk.items i.at i.filled
