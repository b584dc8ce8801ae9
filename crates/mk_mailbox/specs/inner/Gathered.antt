-- A message that is gathered by lines and by stretches of lines, as private contracts speak of it.
use Rattle.std.specs.Prelude.{◌≡◌, ◌<◌, ◌≤◌, ◌++◌, ◌⊎◌, if◌then◌else◌, ℕ, Bool, true, false, not, List, [], ◌∷◌, map, length, take, drop, codes}
use Rattle.std.specs.List.{list_all}
use Rattle.mk_line.specs.Ascii.{line_feed}
use Rattle.mk_line.specs.Kinds.{is_field_start, is_from_line}
use Rattle.mk_line.specs.Lines.{TextLine, cut, ended, ends_open, has_line_feed, text_of}
use Rattle.mk_mailbox.specs.declared.from_lines.FromLines.{FromLines}
use Rattle.mk_mailbox.specs.declared.gathering.Told.{Told}
use Rattle.mk_mailbox.specs.declared.gathering.Told.TheVariants.{Begins, Waits, Belongs}
use Rattle.mk_mailbox.specs.Pieces.{front, later, mailbox_pieces, may_begin, needs_field}
use Rattle.mk_mailbox.specs.inner.Parts.{IsOpenInFront}

-- the bytes of a text that still belong to a message, and the messages after them
abbrev pub front_of : FromLines → Bool → List ℕ → List ℕ
front_of way after_empty text = text_of (front way after_empty (cut text))

-- the messages after the one that a text goes on with
abbrev pub later_of : FromLines → Bool → List ℕ → List (List ℕ)
later_of way after_empty text = map text_of (later way after_empty (cut text))

-- no byte but the last is a line feed
abbrev pub IsOneLine : List ℕ → Type 0
IsOneLine line = (has_line_feed line ≡ false) ⊎ ((before : List ℕ) × (line ≡ before ++ line_feed ∷ []) × (has_line_feed before ≡ false))

-- a line with its line feed, and its content
pub record IsWholeLine (line content : List ℕ) : Type 0 where
  pub before : List ℕ
  pub parts : line ≡ before ++ line_feed ∷ []
  pub no_feed : has_line_feed before ≡ false
  pub content_is : content ≡ (ended before).content

-- these whole lines belong to one message, whatever follows; the flag tells whether the last of them is empty
abbrev pub IsOnePiece : FromLines → List ℕ → Bool → Type 0
IsOnePiece way text after_empty = (more : List ℕ) → (front_of way false (text ++ more) ≡ text ++ front_of way after_empty more) × (later_of way false (text ++ more) ≡ later_of way after_empty more)

-- a line feed, and the first bytes of a From-line
abbrev pub feed_and_from : List ℕ
feed_and_from = line_feed ∷ codes "From "

-- no line is a From-line
abbrev pub none_from : List TextLine → Bool
none_from ls = list_all (λ l. not (is_from_line l.content)) ls

-- whole lines, or none, and no From-line is among them
pub record AreQuiet (text : List ℕ) : Type 0 where
  pub whole : ends_open text ≡ false
  pub quiet : none_from (cut text) ≡ true

-- a line that begins a message where a field follows it; or none
abbrev pub IsWaiting : FromLines → Bool → List ℕ → Type 0
IsWaiting way after_empty line = (line ≡ []) ⊎ ((content : List ℕ) × IsWholeLine line content × (may_begin way after_empty content ≡ true) × (needs_field way ≡ true))

-- the bytes before a place are whole lines of one message; after it stands a line that waits for the next one, or none, and then
-- at most one line
pub record IsGathered (way : FromLines) (bytes : List ℕ) (start line : ℕ) (after_empty : Bool) : Type 0 where
  pub ordered : start ≤ line
  pub within : line ≤ length bytes
  pub before : IsOnePiece way (take start bytes) after_empty
  pub between : IsWaiting way after_empty (drop start (take line bytes))
  pub following : IsOneLine (drop line bytes)
  pub some : after_empty ≡ true → 0 < start

-- what the next line tells of a message, where a line waits for it or not
abbrev pub told_by : FromLines → Bool → Bool → List ℕ → Told
told_by way true after_empty content = if is_field_start content then Begins else Belongs
told_by way false after_empty content = if may_begin way after_empty content then (if needs_field way then Waits else Begins) else Belongs

-- a piece is a whole message, whatever follows, and the rest begins the next one
pub record IsSplit (way : FromLines) (piece old new : List ℕ) : Type 0 where
  pub parts : old ≡ piece ++ new
  pub some : 0 < length piece
  pub rest : 0 < length new
  pub front : (more : List ℕ) → front_of way false (old ++ more) ≡ piece
  pub later : (more : List ℕ) → later_of way false (old ++ more) ≡ mailbox_pieces way (new ++ more)
  pub closed : (more : List ℕ) → IsOpenInFront (cut (new ++ more)) → ⊥

-- a piece is the first message of a text that nothing follows
pub record IsLastSplit (way : FromLines) (piece old new : List ℕ) : Type 0 where
  pub parts : old ≡ piece ++ new
  pub some : 0 < length piece
  pub front : front_of way false old ≡ piece
  pub later : later_of way false old ≡ mailbox_pieces way new

-- the most bytes of a chunk
abbrev pub chunk_bytes : ℕ
chunk_bytes = 65536

-- a part of a chunk that is filled up to a place
pub record IsChunk (chunk : List ℕ) (at filled : ℕ) : Type 0 where
  pub ordered : at ≤ filled
  pub within : filled ≤ length chunk
  pub small : length chunk ≤ chunk_bytes
