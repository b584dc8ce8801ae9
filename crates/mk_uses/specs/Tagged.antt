-- A field put into each message of a mailbox (own).
use Rattle.std.specs.Prelude.{if◌then◌else◌, ℕ, false, Option, None, Some, Result, Ok, Err, List, [], ◌∷◌, map}
use Rattle.std.specs.List.{flat_map}
use Rattle.mk_tree.specs.Documents.{Document, tree, printed}
use Rattle.mk_decide.specs.Edits.{AddField, Refusal}
use Rattle.mk_decide.specs.Outcomes.{edited}
use Rattle.mk_mailbox.specs.declared.from_lines.FromLines.TheVariants.{Any}
use Rattle.mk_mailbox.specs.Pieces.{mailbox_pieces}
use Rattle.mk_mailbox.specs.Places.{takes_place}

-- the text that an edit makes; none where it is refused
abbrev pub text_made : Result Document Refusal → Option (List ℕ)
text_made (Ok t) = Some (printed t)
text_made (Err reason) = None

-- a text where there is one that fits the place of a message, else the message
abbrev pub kept_or : List ℕ → Option (List ℕ) → List ℕ
kept_or message None = message
kept_or message (Some text) = if takes_place Any message text then text else message

-- a message with a field at the end of its header, if it can have it
abbrev pub tagged_one : List ℕ → List ℕ → List ℕ
tagged_one field message = kept_or message (text_made (edited (AddField (1 ∷ []) false field) (tree message)))

-- the messages of a mailbox, each with the field
abbrev pub tagged : List ℕ → List ℕ → List (Option (List ℕ))
tagged field mailbox = map (λ message. Some (tagged_one field message)) (mailbox_pieces Any mailbox)

-- the mailbox of these messages
abbrev pub all_tagged : List ℕ → List ℕ → List ℕ
all_tagged field mailbox = flat_map (tagged_one field) (mailbox_pieces Any mailbox)
