-- What the calls of a mailbox answer (own).
use Rattle.std.specs.Prelude.{◌≡◌, ◌<◌, ◌≤◌, ◌+◌, ◌*◌, ◌++◌, ◌⊎◌, ℕ, Bool, true, false, List, [], ◌∷◌, Some, IsSomeAnd, length, slice_get, unwrap_or}
use Rattle.mk_line.specs.Ascii.{line_feed}
use Rattle.mk_line.specs.Parting.{following}
use Rattle.mk_line.specs.Lines.{cut, has_line_feed, is_open}
use Rattle.mk_mailbox.specs.declared.from_lines.FromLines.{FromLines}
use Rattle.mk_mailbox.specs.Devices.{IsFull}
use Rattle.mk_mailbox.specs.Held.{Held}
use Rattle.mk_mailbox.specs.Pieces.{mailbox_pieces, needs_field}

-- a piece is the first message of what was kept and read, and what follows it is kept
pub record IsNextPiece (piece : List ℕ) (old : Held) (read : List ℕ) (new : Held) : Type 0 where
  pub whole : old.kept ++ read ≡ piece ++ new.kept
  pub first : slice_get (mailbox_pieces old.from_lines (old.kept ++ read)) 0 ≡ Some piece
  -- it stays so, whatever is read later
  pub stays : (more : List ℕ) → (new.ended ≡ true → more ≡ []) → mailbox_pieces old.from_lines ((old.kept ++ read) ++ more) ≡ piece ∷ mailbox_pieces old.from_lines (new.kept ++ more)
  pub some : 0 < length piece
  pub all : new.kept ≡ [] → new.ended ≡ true
  -- its first line has no ending only where the input has ended
  pub closed : IsSomeAnd (slice_get (cut new.kept) 0) (λ l. is_open l.ending ≡ true) → new.ended ≡ true

-- the first line of a message is whole; where a field must follow it, the second one too
abbrev pub is_known_start : Bool → List ℕ → Bool
is_known_start false text = has_line_feed text
is_known_start true text = has_line_feed (unwrap_or (following line_feed text) [])

-- the first message of a text is known to be whole, whatever follows: the line that begins the next one is whole, and the one
-- after it where that must be a field
abbrev pub IsKnownWhole : FromLines → List ℕ → Type 0
IsKnownWhole way text = IsSomeAnd (slice_get (mailbox_pieces way text) 1) (λ next. is_known_start (needs_field way) next ≡ true)

-- nothing was kept or read, and the input has ended
pub record IsOver (old : Held) (read : List ℕ) (new : Held) : Type 0 where
  pub none : old.kept ++ read ≡ []
  pub kept : new.kept ≡ []
  pub ended : new.ended ≡ true

-- more bytes than one read is asked for
abbrev pub read_limit : ℕ
read_limit = 4294967296

-- these bytes came from reads that were counted
abbrev pub FitsReads : List ℕ → ℕ → ℕ → Type 0
FitsReads read old new = (length read + read_limit * old ≤ read_limit * new) ⊎ IsFull new
