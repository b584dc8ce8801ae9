-- Rounds of letters at any section of a message, alone and in a mailbox (own).
use Rattle.std.specs.Prelude.{◌&&◌, if◌then◌else◌, ℕ, Bool, not, Ok, Err, List, is_some}
use Rattle.mk_line.specs.Results.{made_of}
use Rattle.mk_tree.specs.Documents.{tree}
use Rattle.mk_tree.specs.Sections.{section_at}
use Rattle.mk_decide.specs.Edits.{NoSuchSection, Recut}
use Rattle.mk_mailbox.specs.declared.from_lines.FromLines.{FromLines}
use Rattle.mk_mailbox.specs.Pieces.{is_left_alone, needs_field}
use Rattle.mk_mailbox.specs.Places.{takes_place}
use Rattle.mk_mail.specs.Letters.{is_root}
use Rattle.mk_mail.specs.Rounds.{Made, PlainRound, rounds_made_at}
use Rattle.std.specs.Result.{result_unwrap_or}

-- a message has a section at a path
abbrev pub has_section : List ℕ → List ℕ → Bool
has_section path text = is_some (section_at path (tree text))

-- what rounds make of a section of a message: where there is none, they are refused
abbrev pub section_made : List ℕ → List PlainRound → List ℕ → Made
section_made path rs text = if has_section path text then rounds_made_at path rs text else Err NoSuchSection

-- at the root each text that is made does, unless a field must follow a From-line: edits may leave none
abbrev pub always_fits : FromLines → List ℕ → Bool
always_fits way path = is_root path && not (needs_field way)

-- what rounds make of a section of a message of a mailbox that is cut at these From-lines: where not each text fits, one that takes
-- the place of the message in the mailbox, or it is refused
abbrev pub mail_made : FromLines → List ℕ → List PlainRound → List ℕ → Made
mail_made way path rs text =
    if always_fits way path then section_made path rs text
    else made_of (λ made. if takes_place way text made then Ok made else Err Recut) (section_made path rs text)

-- what they leave of it
abbrev pub mail_left : FromLines → List ℕ → List PlainRound → List ℕ → List ℕ
mail_left way path rs text = if is_left_alone way text then text else result_unwrap_or (mail_made way path rs text) text
