-- Parts of dates, messages and mailboxes, as private contracts and proofs name them.
use Rattle.std.specs.Prelude.{◌≡◌, ◌<◌, ◌&&◌, ℕ, Bool, true, not, List, [], ◌∷◌, IsSomeAnd, drop, length, slice_get, unwrap_or}
use Rattle.std.specs.Char.{is_ascii_alphabetic, is_ascii_digit}
use Rattle.std.specs.List.{AllByRecursion, list_all}
use Rattle.mk_line.specs.Ascii.{line_feed}
use Rattle.mk_line.specs.Lines.{TextLine, is_nil, is_open}
use Rattle.mk_line.specs.Parting.{following}
use Rattle.mk_mailbox.specs.declared.from_lines.FromLines.{FromLines}
use Rattle.mk_mailbox.specs.Dates.{begins_with_day, begins_with_month, begins_with_time, begins_with_weekday}
use Rattle.mk_mailbox.specs.Mailboxes.{is_known_start}
use Rattle.mk_mailbox.specs.Pieces.{mailbox_pieces, needs_field}

-- two digits
abbrev pub are_digits : ℕ → ℕ → Bool
are_digits tens ones = is_ascii_digit tens && is_ascii_digit ones

-- one letter or more
abbrev pub are_letters : List ℕ → Bool
are_letters text = not (is_nil text) && list_all is_ascii_alphabetic text

-- a day and its time come first, and a space
abbrev pub begins_with_moment : List ℕ → Bool
begins_with_moment text = begins_with_weekday text && begins_with_month (drop 4 text) && begins_with_day (drop 8 text) && begins_with_time (drop 11 text)

-- one message at most
abbrev pub at_most_one : List (List ℕ) → Bool
at_most_one pieces = is_nil (drop 1 pieces)

-- the first line has no ending
abbrev pub IsOpenInFront : List TextLine → Type 0
IsOpenInFront ls = IsSomeAnd (slice_get ls 0) (λ l. is_open l.ending ≡ true)

-- the bytes after the first line
abbrev pub after_line : List ℕ → List ℕ
after_line text = unwrap_or (following line_feed text) []

-- the first of some messages is known to be whole
abbrev pub KnowsFirst : FromLines → List (List ℕ) → Type 0
KnowsFirst way pieces = IsSomeAnd (slice_get pieces 1) (λ next. is_known_start (needs_field way) next ≡ true)

-- none of some texts is empty
abbrev pub AreSome : List (List ℕ) → Type 0
AreSome texts = AllByRecursion (λ p. 0 < length p) texts

-- each message is read as one
abbrev pub AreOnes : FromLines → List (List ℕ) → Type 0
AreOnes way texts = AllByRecursion (λ p. mailbox_pieces way p ≡ p ∷ []) texts
