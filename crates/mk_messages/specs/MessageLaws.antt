-- A law of listed messages, over the definitions alone.
use Rattle.std.specs.Prelude.{◌≡◌, ◌+◌, ◌++◌, ◌∷◌, ℕ, List, drop, length, take}
use Rattle.std.specs.List.{flat_map}
use Rattle.mk_mailbox.specs.declared.from_lines.FromLines.{FromLines}
use Rattle.mk_mailbox.specs.Pieces.{mailbox_pieces}
use Rattle.mk_messages.specs.MessageLines.{lines_from, mailbox_listing, message_line}

-- the line of a message has its number, and the bytes of the mailbox from its start, which is after the messages before it, to its
-- end are the message
abbrev pub ListedMessagesAreSlices : Type 0
ListedMessagesAreSlices = (way : FromLines) (text : List ℕ) (before : List (List ℕ)) (message : List ℕ) (after : List (List ℕ)) → mailbox_pieces way text ≡ before ++ (message ∷ after) →
    let start = length (flat_map (λ p. p) before) in
    (mailbox_listing way text ≡ lines_from 1 0 before ++ (message_line (length before + 1) start message ++ lines_from (length before + 2) (start + length message) after))
    × (take (length message) (drop start text) ≡ message)
