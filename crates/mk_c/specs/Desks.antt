-- What a handle holds: a history, the edits that were put down for the next call, the bytes of the last answer, a mailbox, and what was
-- put down for a message that is to be built (own).
use Rattle.std.specs.Prelude.{ℕ, Bool, Option, None, List, [], map}
use Rattle.mk_decide.specs.declared.edits.Edit.{Edit}
use Rattle.mk_decide.specs.Edits.{PlainEdit}
use Rattle.mk_decide.specs.Views.{edit_of}
use Rattle.mk_edit.specs.History.{History}
use Rattle.mk_edit.specs.Histories.{started}
use Rattle.mk_mailbox.specs.declared.from_lines.FromLines.{FromLines}
use Rattle.mk_mailbox.specs.declared.from_lines.FromLines.TheVariants.{Any}
use Rattle.mk_mailbox.specs.Held.{Held}
use Rattle.mk_mailbox.specs.MailboxLaws.{unread_mailbox}
use Rattle.mk_build.specs.Building.{Attached, named_in_utf8}
use Rattle.mk_build.specs.Forwards.{Forwarded, without_envelope}

-- the fields, the parts and the forwarded messages of a message that is to be built
pub record Drafted : Type 0 where
  pub fields : List (List ℕ)
  pub parts : List Attached
  pub messages : List Forwarded

-- nothing is put down
abbrev pub no_draft : Drafted
no_draft = record { fields = []; parts = []; messages = [] }

-- a part with a name in UTF-8, or without a name (RFC 2231, 4)
abbrev pub part_of : List ℕ → Option (List ℕ) → List ℕ → Bool → Attached
part_of media name text base64 = named_in_utf8 (record { media = media; name = name; said = None; text = text; base64 = base64 })

-- a message that is forwarded, without the line that a mailbox puts before it
abbrev pub forwarded : List ℕ → Bool → Forwarded
forwarded text inline = record { text = without_envelope text; inline = inline }

-- a message under edit, a mailbox and a message to be built, as C sees them
pub record Desk : Type 0 where
  pub history : History
  pub pending : List Edit
  pub answer : List ℕ
  pub mail : Held
  pub draft : Drafted

-- the edits that were put down, as plain data
abbrev pub put_down : Desk → List PlainEdit
put_down d = map edit_of d.pending

-- a desk with a history, where nothing was put down, answered or read
abbrev pub opened : History → Desk
opened h = record { history = h; pending = []; answer = []; mail = unread_mailbox Any; draft = no_draft }

-- a desk with a mailbox that is cut at these From-lines, of which nothing was read yet
abbrev pub opened_mailbox : FromLines → Desk
opened_mailbox way = record (opened (started [])) { mail = unread_mailbox way }
