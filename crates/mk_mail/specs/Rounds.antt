-- Rounds of letters or of a rule, each on what the one before it left (own).
use Rattle.mk_line.specs.Results.{made_of}
use Rattle.std.specs.Result.{result_unwrap_or}
use Rattle.std.specs.Prelude.{if◌then◌else◌, ℕ, Option, None, Some, Result, Ok, Err, List, [], ◌∷◌}
use Rattle.mk_line.specs.Lines.{cut, eol_of, is_lf}
use Rattle.mk_tree.specs.Documents.{printed, tree}
use Rattle.mk_decide.specs.Edits.{PlainEdit, Refusal}
use Rattle.mk_edit.specs.Groups.{Together, together}
use Rattle.mk_mail.specs.Letters.{PlainLetters, edits_at, fields_at, root_path}
use Rattle.mk_mail.specs.Rules.{FieldRule, rule_edits}
use Rattle.mk_mailbox.specs.declared.from_lines.FromLines.{FromLines}
use Rattle.mk_mailbox.specs.Pieces.{is_left_alone}

-- one round: the letters for a text whose lines end with LF and those for one whose lines end with CR LF, or a rule for texts of fields
pub data PlainRound : Type 0 where
  ByLetters : (lf crlf : PlainLetters) → PlainRound
  ByRule : (rule : FieldRule) → PlainRound

-- the same letters for each text
abbrev pub round_of_letters : PlainLetters → PlainRound
round_of_letters l = ByLetters l l

-- those of two letters that are for a text, by its ending
abbrev pub letters_by_ending : PlainLetters → PlainLetters → List ℕ → PlainLetters
letters_by_ending lf crlf text = if is_lf (eol_of (cut text)) then lf else crlf

-- the letters of a round for a text; a rule has none
abbrev pub letters_for : PlainRound → List ℕ → Option PlainLetters
letters_for (ByLetters lf crlf) text = Some (letters_by_ending lf crlf text)
letters_for (ByRule rule) text = None

-- the edits of a round on the section at a path of the document of a text
abbrev pub round_edits : List ℕ → List ℕ → PlainRound → List PlainEdit
round_edits path text (ByLetters lf crlf) = edits_at path text (letters_by_ending lf crlf text)
round_edits path text (ByRule rule) = rule_edits path (eol_of (cut text)) rule (Some 1) (fields_at path text)

-- what they give of it, made one after another
abbrev pub round_outcome : List ℕ → List ℕ → PlainRound → Together
round_outcome path text r = together (round_edits path text r) (tree text)

-- a text that was made, or the reason why it wasn't
abbrev pub Made : Type 0
Made = Result (List ℕ) Refusal

-- the text of edits that were made, or the reason against the first that was refused
abbrev pub made_text : Together → Made
made_text (Ok p) = Ok (printed p.0)
made_text (Err q) = Err q.1

-- what rounds at a path make of a text, each of what the one before it made, up to the first reason
abbrev pub rounds_made_at : List ℕ → List PlainRound → List ℕ → Made
rounds_made_at path [] text = Ok text
rounds_made_at path (r ∷ rs) text = made_of (rounds_made_at path rs) (made_text (round_outcome path text r))

-- the same at the root
abbrev pub rounds_made : List PlainRound → List ℕ → Made
rounds_made rs text = rounds_made_at root_path rs text

-- what rounds leave of a text: where an edit of one is refused, all of it
abbrev pub rounds_left : List PlainRound → List ℕ → List ℕ
rounds_left rs text = result_unwrap_or (rounds_made rs text) text

-- what rounds leave of a message of a mailbox that is cut at these From-lines
abbrev pub rounds_left_in : FromLines → List PlainRound → List ℕ → List ℕ
rounds_left_in way rs text = if is_left_alone way text then text else rounds_left rs text
