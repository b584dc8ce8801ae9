-- Messages whose fields are filtered by letters, or given (own, after formail).
use Rattle.std.specs.Option.{option_and_then, option_map_or}
use Rattle.std.specs.Prelude.{◌||◌, ◌++◌, ◌∷◌, if◌then◌else◌, [], ℕ, suc, Bool, true, false, Option, None, Some, Ok, Err, List, filter, is_some}
use Rattle.std.specs.List.{flat_map}
use Rattle.mk_line.specs.Ascii.{colon}
use Rattle.mk_head.specs.Fields.{FieldText, is_named}
use Rattle.mk_decide.specs.Edits.{NoSuchSection}
use Rattle.mk_mail.specs.Apart.{has_section, mail_made, section_made}
use Rattle.mk_mail.specs.Letters.{PlainLetters, fields_at, root_path}
use Rattle.mk_mail.specs.Rounds.{Made, PlainRound, letters_for, round_of_letters}
use Rattle.std.specs.Result.{result_unwrap_or}
use Rattle.mk_mailbox.specs.declared.from_lines.FromLines.{FromLines}
use Rattle.mk_mailbox.specs.declared.from_lines.FromLines.TheVariants.{Any}
use Rattle.mk_mailbox.specs.Pieces.{is_left_alone, mailbox_pieces}
use Rattle.mk_script.specs.Paths.{parted}
use Rattle.mk_report.specs.Reports.{message_line_at}
use Rattle.mk_field.specs.declared.filters.ValueForm.{ValueForm}
use Rattle.mk_field.specs.declared.filters.ValueForm.TheVariants.{AsWritten}
use Rattle.mk_field.specs.Wording.{printed_value}
use Rattle.mk_transfer.specs.Said.{Run, shown, Said, said_after, silence}

-- what a filter is asked for: rounds, how values are printed, which From-lines begin the messages of a mailbox, and at
-- which section of a message the letters work
pub record PlainFilter : Type 0 where
  pub rounds : List PlainRound
  pub form : ValueForm
  pub from_lines : FromLines
  pub path : List ℕ

-- rounds alone, at the root
abbrev pub of_rounds : List PlainRound → PlainFilter
of_rounds rs = record { rounds = rs; form = AsWritten; from_lines = Any; path = root_path }

-- letters alone: one round of them, the same for each message
abbrev pub of_letters : PlainLetters → PlainFilter
of_letters l = of_rounds (round_of_letters l ∷ [])

-- the fields of the section at a path that have a name
abbrev pub fields_named : List ℕ → List ℕ → List ℕ → List FieldText
fields_named path name text = filter (is_named name) (fields_at path text)

-- what follows the colon of a field, all its lines and endings as they stand
abbrev pub after_colon : List ℕ → List ℕ
after_colon raw = option_map_or (λ p. p.1) (parted colon raw) []

-- what is reported of what was made at a path: nothing, where no edit was refused
abbrev pub report_of : List ℕ → ℕ → Made → List ℕ
report_of path number (Ok made) = []
report_of path number (Err reason) = message_line_at path number reason

-- what is reported of a message that has no section at a path
abbrev pub missing_report : List ℕ → ℕ → List ℕ → List ℕ
missing_report path number text = if has_section path text then [] else message_line_at path number NoSuchSection

-- what letters at a path give of a message that ask for fields of a name: their values, one after another (`-x`), or the whole fields
-- (`-X`); nothing where none does
abbrev pub given_by : List ℕ → ValueForm → Option (List ℕ) → Option (List ℕ) → List ℕ → Option (List ℕ)
given_by path form (Some name) whole text = Some (flat_map (λ f. printed_value form (after_colon f.raw)) (fields_named path name text))
given_by path form None (Some name) text = Some (flat_map (λ f. f.raw) (fields_named path name text))
given_by path form None None text = None

-- letters that ask for fields
abbrev pub ask : PlainLetters → Bool
ask l = is_some l.take || is_some l.whole

-- whether rounds ask for fields of a message: the letters of the first do
abbrev pub rounds_ask : List PlainRound → List ℕ → Bool
rounds_ask [] text = false
rounds_ask (r ∷ rs) text = option_map_or ask (letters_for r text) false

-- what one round gives, and then what others give
abbrev pub given_with : Option (List ℕ) → Option (List ℕ) → Option (List ℕ)
given_with None others = others
given_with (Some given) None = Some given
given_with (Some given) (Some others) = Some (given ++ others)

-- what a round at a path gives of a message, where its letters ask for fields
abbrev pub given_in : List ℕ → ValueForm → PlainRound → List ℕ → Option (List ℕ)
given_in path form r text = option_and_then (λ l. given_by path form l.take l.whole text) (letters_for r text)

-- what rounds at a path that ask for fields give of a message, one after another
abbrev pub given_of : List ℕ → ValueForm → List PlainRound → List ℕ → Option (List ℕ)
given_of path form [] text = None
given_of path form (r ∷ rs) text = given_with (given_in path form r text) (given_of path form rs text)

-- what a filter makes of a message; of one of a mailbox, where `each` says so, only what may stand in its place
abbrev pub filter_made : Bool → PlainFilter → List ℕ → Made
filter_made each f text = if each then mail_made f.from_lines f.path f.rounds text else section_made f.path f.rounds text

-- what is said of a message of which this was made: what is left of it, and the reason where an edit is refused
abbrev pub said_of_made : List ℕ → ℕ → List ℕ → Made → Said
said_of_made path number text m = record { output = result_unwrap_or m text; errors = report_of path number m }

-- what is said of a message of which this is given, at a path
abbrev pub given_said : List ℕ → ℕ → List ℕ → List ℕ → Said
given_said path number text given = record { output = given; errors = missing_report path number text }

-- what a filter says of a message of a number: what is given of it, or what edits leave
abbrev pub said_filtered : Bool → PlainFilter → ℕ → List ℕ → Said
said_filtered each f number text = option_map_or (given_said f.path number text) (given_of f.path f.form f.rounds text) (said_of_made f.path number text (filter_made each f text))

-- what is said of a message that is left as it is: all of it, or nothing where rounds ask for fields
abbrev pub said_alone : List PlainRound → List ℕ → Said
said_alone rs text = record { output = if rounds_ask rs text then [] else text; errors = [] }

-- what a filter says of a message of a number, some of which are left as they are
abbrev pub said_of : Bool → PlainFilter → ℕ → List ℕ → Said
said_of each f number text = if is_left_alone f.from_lines text then said_alone f.rounds text else said_filtered each f number text

-- what is said of messages in turn, where the first has this number
abbrev pub said_from : Bool → PlainFilter → ℕ → List (List ℕ) → Said
said_from each f number [] = silence
said_from each f number (m ∷ ms) = said_after (said_of each f number m) (said_from each f (suc number) ms)

-- the messages that are filtered: those of a mailbox, each by itself, or all as one
abbrev pub messages_of : FromLines → Bool → List ℕ → List (List ℕ)
messages_of way true text = mailbox_pieces way text
messages_of way false text = text ∷ []

-- the run of a filter on an input
abbrev pub field_run : PlainFilter → Bool → List ℕ → Run
field_run f each text = let said = said_from each f 1 (messages_of f.from_lines each text) in shown said.output said.errors
