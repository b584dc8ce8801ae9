-- A mailbox that is handed in piece by piece.
use Rattle.std.specs.Prelude.{◌++◌, ◌&&◌, if◌then◌else◌, ℕ, Bool, true, false, not, Option, None, Some, Result, Ok, Err, List, [], ◌∷◌, nat_lt}
use Rattle.std.specs.Global.{Vec}
use Rattle.mk_line.specs.Lines.{is_nil}
use Rattle.mk_mailbox.specs.declared.mailbox.MailFault.{MailFault}
use Rattle.mk_mailbox.specs.declared.mailbox.MailFault.TheVariants as fault
use Rattle.mk_mailbox.specs.Held.{Held}
use Rattle.mk_mailbox.specs.MailboxLaws.{message, none, error}
use Rattle.mk_c.specs.declared.status.Reason.{Reason}
use Rattle.mk_c.specs.declared.status.Reason.TheVariants.{Memory, NeedsMore}
use Rattle.mk_c.specs.Mail.{IsShort, ReadsOn}

-- the bytes that are to be read; where more are to come, one more stands for these
abbrev pub to_read : Bool → List ℕ → List ℕ
to_read last rest = if last then rest else rest ++ 0 ∷ []

-- all bytes of a piece were read, more are to come, and there were fewer reads than one call makes at most
abbrev pub is_drained : Bool → ℕ → List ℕ → Bool
is_drained last reads rest = is_nil rest && (not last && nat_lt reads 2147483647)

-- why there is no next message, where all bytes were read and more are to come, or not
abbrev pub reason_for : MailFault → Bool → Reason
reason_for fault.ReadFault true = NeedsMore
reason_for fault.ReadFault false = Memory
reason_for fault.Memory drained = Memory

-- what a mailbox that is given bytes answers
abbrev pub ReadsTo : List ℕ → Bool → ℕ → Result (Option (Vec ℕ)) Reason → Held → Held → Type 0
ReadsTo given last used (Ok (Some m)) old new = ReadsOn given last used (message m.items) old new
ReadsTo given last used (Ok None) old new = ReadsOn given last used none old new
ReadsTo given last used (Err NeedsMore) old new = ReadsOn given last used error old new × IsShort given last used new
ReadsTo given last used (Err Memory) old new = ReadsOn given last used error old new
ReadsTo given last used (Err other) old new = ⊥
