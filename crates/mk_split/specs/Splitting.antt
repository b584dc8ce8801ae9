-- What splitting a mailbox does: each message is put into a file of its own (own).
use Rattle.std.specs.Prelude.{◌≡◌, ◌⊎◌, ◌++◌, if◌then◌else◌, ℕ, suc, Bool, false, Option, List, [], ◌∷◌, drop}
use Rattle.mk_line.specs.Ascii.{line_feed}
use Rattle.mk_line.specs.Lines.{cut, text_of}
use Rattle.mk_mailbox.specs.declared.from_lines.FromLines.TheVariants.{Any}
use Rattle.mk_mailbox.specs.Places.{begins_from}
use Rattle.mk_messages.specs.TakenOut.{unmarked, without_separator}
use Rattle.mk_transfer.specs.Said.{Said, silence, said_after}
use Rattle.mk_show.specs.Folders.{Files, Gets, IsThere, MayPut}
use Rattle.mk_show.specs.Unpacking.{exists_line}
use Rattle.mk_split.specs.declared.splitting.SplitOptions.{SplitOptions}
use Rattle.mk_split.specs.Templates.{template_name}

-- a text without the From-line that it begins with
abbrev pub without_from_line : List ℕ → List ℕ
without_from_line text = if begins_from Any (cut text) then text_of (drop 1 (cut text)) else text

-- what of a message goes into its file: the message as it was before it went into the mailbox, without its From-line and without the
-- marks of lines where that is asked for
abbrev pub file_text : SplitOptions → List ℕ → List ℕ
file_text o message =
    let alone = without_separator message in
    let text = if o.bare then without_from_line alone else alone in
    if o.unquote then unmarked text else text

-- the line that says which file was put, unless nothing is to be said
abbrev pub put_line : Bool → List ℕ → List ℕ
put_line silent name = if silent then [] else name ++ line_feed ∷ []

-- a file was put, and that is said
pub record IsFiled (o : SplitOptions) (name text : List ℕ) (said : Said) (old new : Option Files) : Type 0 where
  pub may : MayPut o.over old name
  pub gets : Gets old new name text
  pub said_is : said ≡ record { output = put_line o.silent name; errors = [] }

-- a file has the name already, and that is reported
pub record IsLeftOut (o : SplitOptions) (name : List ℕ) (said : Said) (old new : Option Files) : Type 0 where
  pub kept : o.over ≡ false
  pub there : IsThere old name
  pub same : new ≡ old
  pub said_is : said ≡ record { output = []; errors = exists_line name }

-- what becomes of a message of a number
abbrev pub PutsMessage : SplitOptions → ℕ → List ℕ → Said → Option Files → Option Files → Type 0
PutsMessage o number message said old new =
    IsFiled o (template_name o.names.now number) (file_text o message) said old new ⊎ IsLeftOut o (template_name o.names.now number) said old new

-- what becomes of messages in turn, where the first has this number
abbrev pub Splits : SplitOptions → ℕ → List (List ℕ) → Said → Option Files → Option Files → Type 0
Splits o number [] said old new = (said ≡ silence) × (new ≡ old)
Splits o number (m ∷ ms) said old new =
    (first : Said) × (more : Said) × (between : Option Files) × PutsMessage o number m first old between × Splits o (suc number) ms more between new
    × (said ≡ said_after first more)
