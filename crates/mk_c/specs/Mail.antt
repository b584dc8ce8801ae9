-- What the calls of C do with a mailbox (own): each is a call of the laws of mailboxes.
use Rattle.std.specs.Prelude.{◌≡◌, ◌≤◌, ◌==◌, ◌⊎◌, if◌then◌else◌, ℕ, Bool, true, false, Ok, Err, List, length, take}
use Rattle.mk_mailbox.specs.declared.from_lines.FromLines.{FromLines}
use Rattle.mk_mailbox.specs.declared.from_lines.FromLines.TheVariants.{Any, Dated, Fielded}
use Rattle.mk_mailbox.specs.Held.{Held}
use Rattle.mk_mailbox.specs.Mailboxes.{IsKnownWhole}
use Rattle.mk_mailbox.specs.MailboxLaws.{IsCall, Reply, message, none, error}
use Rattle.mk_c.specs.declared.status.Reason.TheVariants.{Memory, NeedsMore, NoMessage}
use Rattle.mk_c.specs.Calls.{Ending}
use Rattle.mk_c.specs.Desks.{Desk}

-- the From-lines that begin messages, as the number that C gives: 1 for those with a date, 2 for those before a field, else each
abbrev pub way_of : ℕ → FromLines
way_of number = if number == 1 then Dated else (if number == 2 then Fielded else Any)

-- a call of a mailbox that is given bytes reads so many of them; it finds the end only where all of the last ones are read
pub record ReadsOn (given : List ℕ) (last : Bool) (used : ℕ) (reply : Reply) (old new : Held) : Type 0 where
  pub within : used ≤ length given
  pub call : IsCall old (record { read = take used given; reply = reply }) new
  pub ended : new.ended ≡ true → (old.ended ≡ true) ⊎ ((last ≡ true) × (used ≡ length given))

-- more bytes are needed: all that were given are read, they aren't the last, and no message is known to be whole
pub record IsShort (given : List ℕ) (last : Bool) (used : ℕ) (new : Held) : Type 0 where
  pub all : used ≡ length given
  pub more : last ≡ false
  pub unknown : IsKnownWhole new.from_lines new.kept → ⊥

-- the next message is answered, or it is said that there is none, that more bytes are needed, or that memory ran out; what was
-- read is kept in each case
abbrev pub GoesOn : List ℕ → Bool → ℕ → Ending → Desk → Desk → Type 0
GoesOn given last used (Ok x) old new = ReadsOn given last used (message new.answer) old.mail new.mail × (new ≡ record old { answer = new.answer; mail = new.mail })
GoesOn given last used (Err NoMessage) old new = ReadsOn given last used none old.mail new.mail × (new ≡ record old { mail = new.mail })
GoesOn given last used (Err NeedsMore) old new = ReadsOn given last used error old.mail new.mail × IsShort given last used new.mail × (new ≡ record old { mail = new.mail })
GoesOn given last used (Err Memory) old new = ReadsOn given last used error old.mail new.mail × (new ≡ record old { mail = new.mail })
GoesOn given last used (Err other) old new = ⊥
