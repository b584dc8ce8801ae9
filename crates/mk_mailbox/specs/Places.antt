-- Places of messages in a mailbox, and the texts that may stand there (own).
use Rattle.std.specs.Prelude.{◌&&◌, ◌||◌, ℕ, Bool, false, not, drop, List, [], ◌∷◌}
use Rattle.mk_line.specs.Lines.{TextLine, cut, is_nil}
use Rattle.mk_mailbox.specs.declared.from_lines.FromLines.{FromLines}
use Rattle.mk_mailbox.specs.Pieces.{is_followed, is_mail_start, mailbox_pieces}

-- the first of some lines is a From-line that counts
abbrev pub begins_from : FromLines → List TextLine → Bool
begins_from way [] = false
begins_from way (l ∷ ls) = is_mail_start way l.content && is_followed way ls

-- the last of some lines is empty; `e` where there is none
abbrev pub ends_empty : Bool → List TextLine → Bool
ends_empty e [] = e
ends_empty e (l ∷ ls) = ends_empty (is_nil l.content) ls

-- a text is cut as one message, or is none: there is nothing after the first
abbrev pub is_uncut : FromLines → List ℕ → Bool
is_uncut way text = is_nil (drop 1 (mailbox_pieces way text))

-- a text may stand where a message begins with a From-line that counts, or not, and ends with an empty line, or not
abbrev pub fits_place : FromLines → Bool → Bool → List ℕ → Bool
fits_place way begins ends text = is_uncut way text && ((not begins || begins_from way (cut text)) && (not ends || ends_empty false (cut text)))

-- a text may stand in the place of a message
abbrev pub takes_place : FromLines → List ℕ → List ℕ → Bool
takes_place way old new = fits_place way (begins_from way (cut old)) (ends_empty false (cut old)) new
