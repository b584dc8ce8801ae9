-- Mailboxes: messages one after another, each begun by a From-line (own).
use Rattle.std.specs.Prelude.{◌&&◌, ◌||◌, if◌then◌else◌, ℕ, Bool, List, [], ◌∷◌, true, false, not, map}
use Rattle.std.specs.List.{list_all}
use Rattle.mk_line.specs.Kinds.{is_field_start, is_from_line}
use Rattle.mk_line.specs.Lines.{TextLine, cut, is_nil, text_of}
use Rattle.mk_mailbox.specs.declared.from_lines.FromLines.{FromLines}
use Rattle.mk_mailbox.specs.declared.from_lines.FromLines.TheVariants.{Any, Dated, Fielded}
use Rattle.mk_mailbox.specs.Dates.{ends_with_date}

-- a From-line that counts: each one, or one that ends with a date (RFC 4155, appendix A), or one that a field follows
abbrev pub is_mail_start : FromLines → List ℕ → Bool
is_mail_start Any content = is_from_line content
is_mail_start Dated content = is_from_line content && ends_with_date content
is_mail_start Fielded content = is_from_line content

-- a From-line counts only where a field follows it
abbrev pub needs_field : FromLines → Bool
needs_field Any = false
needs_field Dated = false
needs_field Fielded = true

-- the first of some lines is a field start
abbrev pub starts_field : List TextLine → Bool
starts_field [] = false
starts_field (l ∷ ls) = is_field_start l.content

-- the lines after a From-line let it count
abbrev pub is_followed : FromLines → List TextLine → Bool
is_followed way ls = not (needs_field way) || starts_field ls

-- where a From-line needs a date or a field, a message of empty lines alone is what stands before the first one: it is left as it
-- is
abbrev pub is_left_alone : FromLines → List ℕ → Bool
is_left_alone Any text = false
is_left_alone Dated text = list_all (λ l. is_nil l.content) (cut text)
is_left_alone Fielded text = list_all (λ l. is_nil l.content) (cut text)

-- a From-line that directly follows an empty line begins a message, if the lines after it let it count
abbrev pub may_begin : FromLines → Bool → List ℕ → Bool
may_begin way after_empty content = after_empty && is_mail_start way content

-- a message begins at a From-line that counts and directly follows an empty line
abbrev pub is_first : FromLines → Bool → List ℕ → List TextLine → Bool
is_first way after_empty content ls = may_begin way after_empty content && is_followed way ls

-- the lines that still belong to a message, after an empty line or another one
abbrev pub front : FromLines → Bool → List TextLine → List TextLine
front way after_empty [] = []
front way after_empty (l ∷ ls) = if is_first way after_empty l.content ls then [] else l ∷ front way (is_nil l.content) ls

-- the messages after these lines
abbrev pub later : FromLines → Bool → List TextLine → List (List TextLine)
later way after_empty [] = []
later way after_empty (l ∷ ls) =
    if is_first way after_empty l.content ls then (l ∷ front way (is_nil l.content) ls) ∷ later way (is_nil l.content) ls
    else later way (is_nil l.content) ls

-- lines, parted before each line that begins a message
abbrev pub parted : FromLines → List TextLine → List (List TextLine)
parted way [] = []
parted way (l ∷ ls) = (l ∷ front way (is_nil l.content) ls) ∷ later way (is_nil l.content) ls

-- the messages of a mailbox
abbrev pub mailbox_pieces : FromLines → List ℕ → List (List ℕ)
mailbox_pieces way text = map text_of (parted way (cut text))
