-- Laws of mailboxes, over the definitions alone.
use Rattle.std.specs.Prelude.{◌≡◌, ◌≤◌, ◌&&◌, ◌++◌, ◌⊎◌, ℕ, Bool, true, false, List, [], ◌∷◌, Option, None, Some, Result, Ok, Err, IfErr, OnOk, length}
use Rattle.std.specs.Global.{Vec}
use Rattle.std.specs.Io.KnownBytes.{Consumes, IsAtEnd}
use Rattle.std.specs.List.{flat_map}
use Rattle.mk_mailbox.specs.declared.from_lines.FromLines.{FromLines}
use Rattle.mk_mailbox.specs.declared.mailbox.MailFault.{MailFault}
use Rattle.mk_mailbox.specs.declared.mailbox.MailFault.TheVariants.{Memory, ReadFault}
use Rattle.mk_mailbox.specs.Devices.{IsLong, Rose}
use Rattle.mk_mailbox.specs.Held.{Held}
use Rattle.mk_mailbox.specs.Mailboxes.{FitsReads, IsKnownWhole, IsNextPiece, IsOver}
use Rattle.mk_line.specs.Lines.{TextLine}
use Rattle.mk_mailbox.specs.Places.{begins_from, ends_empty}

-- what a call answers: a message, that there is none, or an error
pub data Reply : Type 0 where
  message : (piece : List ℕ) → Reply
  none : Reply
  error : Reply

-- a call: the bytes that it read, and what it answers
pub record Call : Type 0 where
  pub read : List ℕ
  pub reply : Reply

-- what one call answers, with what it read and what is kept then
abbrev pub IsReply : Reply → Held → List ℕ → Held → Type 0
IsReply (message piece) old read new = IsNextPiece piece old read new
IsReply none old read new = IsOver old read new
IsReply error old read new = new.kept ≡ old.kept ++ read

-- what a mailbox promises of a call
pub record IsCall (old : Held) (call : Call) (new : Held) : Type 0 where
  pub reply : IsReply call.reply old call.read new
  -- once the input has ended nothing more is read
  pub over : old.ended ≡ true → call.read ≡ []
  pub stays : old.ended ≡ true → new.ended ≡ true
  pub same : new.from_lines ≡ old.from_lines

-- what the laws call the answer of `Mailbox::next`
abbrev pub call_reply : Result (Option (Vec ℕ)) MailFault → Reply
call_reply (Ok (Some piece)) = message piece.items
call_reply (Ok None) = none
call_reply (Err fault) = error

-- what `Mailbox::next` promises, by what its device held, how often it was read and how often it failed, before and after
pub record IsNextCall (left right : Option (List ℕ)) (reads_before reads failures_before failures : ℕ) (answer : Result (Option (Vec ℕ)) MailFault) (old new : Held) : Type 0 where
  -- it is a call of the laws, and takes what it reads from the device
  pub exact : (read : List ℕ) × Consumes left right read × IsCall old (record { read = read; reply = call_reply answer }) new × FitsReads read reads_before reads
  -- the input ends where the device does
  pub ended : new.ended ≡ true → (old.ended ≡ true) ⊎ IsAtEnd right
  -- once the input has ended the device isn't read, and no read fault is answered
  pub idle : old.ended ≡ true → (right ≡ left) × (reads ≡ reads_before) × (failures ≡ failures_before)
  pub only : old.ended ≡ true → IfErr answer (λ e. e ≡ Memory)
  -- nor is it while a message is known to be whole, and at a read fault none of what is kept is known to be
  pub known : IsKnownWhole old.from_lines old.kept → (right ≡ left) × (reads ≡ reads_before)
  pub unknown : IfErr answer (λ e. e ≡ ReadFault → (IsKnownWhole old.from_lines new.kept → ⊥) ⊎ IsLong reads_before reads)
  -- a read fault comes where the device failed, or gave no end in so many reads, each of which but the last took a byte
  pub fault : IfErr answer (λ e. e ≡ ReadFault → Rose failures_before failures ⊎ IsLong reads_before reads)
  pub held : IfErr answer (λ e. e ≡ ReadFault → Rose failures_before failures ⊎ (2147483646 ≤ length new.kept))
  -- without one the device didn't fail
  pub well : OnOk answer (failures ≡ failures_before)
  pub memory : IfErr answer (λ e. e ≡ Memory → failures ≡ failures_before)

-- calls one after another
abbrev pub AreCalls : Held → List Call → Held → Type 0
AreCalls old [] new = new ≡ old
AreCalls old (c ∷ cs) new = (next : Held) × IsCall old c next × AreCalls next cs new

-- a mailbox of which nothing was read yet
abbrev pub unread_mailbox : FromLines → Held
unread_mailbox way = record { kept = []; ended = false; from_lines = way }

-- all that calls read
abbrev pub read_by : List Call → List ℕ
read_by calls = flat_map (λ c. c.read) calls

-- the message that a call gave, if it gave one
abbrev pub message_of : Reply → List (List ℕ)
message_of (message piece) = piece ∷ []
message_of none = []
message_of error = []

-- the messages that calls gave
abbrev pub given_by : List Call → List (List ℕ)
given_by calls = flat_map (λ c. message_of c.reply) calls

-- some lines and those after them are parted: a message ends with an empty line, and the next begins with a From-line that counts
abbrev pub are_parted : FromLines → List TextLine → List TextLine → Bool
are_parted way before after = ends_empty false before && begins_from way after
