-- What a call of a mailbox answers, as private contracts speak of it.
use Rattle.std.specs.Prelude.{ℕ, Option, None, Some, List}
use Rattle.mk_mailbox.specs.Held.{Held}
use Rattle.mk_mailbox.specs.Mailboxes.{IsNextPiece, IsOver}

-- a call that read these bytes answers a message, or that there is none
abbrev pub Answers : Option (List ℕ) → Held → List ℕ → Held → Type 0
Answers (Some piece) old read new = IsNextPiece piece old read new
Answers None old read new = IsOver old read new
