-- The messages of a mailbox, listed by a line for each (own).
use Rattle.std.specs.Prelude.{◌+◌, ◌++◌, ◌∷◌, [], ℕ, suc, List, codes, decimal, length}
use Rattle.mk_line.specs.Ascii.{line_feed, space}
use Rattle.mk_line.specs.Lines.{cut}
use Rattle.mk_mailbox.specs.declared.from_lines.FromLines.{FromLines}
use Rattle.mk_mailbox.specs.Pieces.{mailbox_pieces}
use Rattle.mk_tree.specs.Documents.{tree}
use Rattle.mk_view.specs.Listing.{listing}

-- how many sections a message has: the lines of its listing
abbrev pub section_count : List ℕ → ℕ
section_count text = length (cut (listing (tree text)))

-- the line of a message: its number, where it begins and ends in bytes from 0, and how many sections it has
abbrev pub message_line : ℕ → ℕ → List ℕ → List ℕ
message_line number start text =
    decimal number ++ (space ∷ decimal start ++ (space ∷ decimal (start + length text) ++ (space ∷ decimal (section_count text) ++ line_feed ∷ [])))

-- the lines of messages in turn, each by its number, where it begins and its bytes; the first has this number and begins here
abbrev pub lines_by : (ℕ → ℕ → List ℕ → List ℕ) → ℕ → ℕ → List (List ℕ) → List ℕ
lines_by line number start [] = []
lines_by line number start (m ∷ ms) = line number start m ++ lines_by line (suc number) (start + length m) ms

-- the lines of the messages of a mailbox that is cut at these From-lines
abbrev pub mailbox_lines : (ℕ → ℕ → List ℕ → List ℕ) → FromLines → List ℕ → List ℕ
mailbox_lines line way text = lines_by line 1 0 (mailbox_pieces way text)

-- the lines of a listing
abbrev pub lines_from : ℕ → ℕ → List (List ℕ) → List ℕ
lines_from = lines_by message_line

-- the listing of a mailbox that is cut at these From-lines
abbrev pub mailbox_listing : FromLines → List ℕ → List ℕ
mailbox_listing = mailbox_lines message_line

-- the line that reports that a mailbox has no message of a number
abbrev pub missing_line : ℕ → List ℕ
missing_line number = codes "message " ++ decimal number ++ (codes ": NoSuchMessage" ++ line_feed ∷ [])
