-- What letters make of the messages of a mailbox (own).
use Rattle.std.specs.Prelude.{◌≡◌, if◌then◌else◌, ℕ, Bool, not, List}
use Rattle.std.specs.Result.{result_map_both, result_unwrap_or}
use Rattle.mk_line.specs.Lines.{TextLine, is_nil}
use Rattle.mk_tree.specs.Documents.{Document, printed, tree}
use Rattle.mk_tree.specs.Tree.{with_fields}
use Rattle.mk_edit.specs.Groups.{Together, together}
use Rattle.mk_mail.specs.Letters.{PlainLetters, edits_at, root_path}
use Rattle.mk_mailbox.specs.declared.from_lines.FromLines.{FromLines}
use Rattle.mk_mailbox.specs.Pieces.{is_left_alone}

-- what the edits of letters at a path give of a message, made one after another
abbrev pub outcome_at : List ℕ → PlainLetters → List ℕ → Together
outcome_at path l text = together (edits_at path text l) (tree text)

-- what letters leave of a message: the text that their edits at the root give, or the text as it came where one of them is refused
abbrev pub filtered : PlainLetters → List ℕ → List ℕ
filtered l text = result_unwrap_or (result_map_both (λ p. printed p.0) (λ q. q) (outcome_at root_path l text)) text

-- what is left of a message of a mailbox that is cut at these From-lines
abbrev pub filtered_in : FromLines → PlainLetters → List ℕ → List ℕ
filtered_in way l text = if is_left_alone way text then text else filtered l text

-- two documents that differ in the fields of the root alone
pub record IsFielded (t u : Document) : Type 0 where
  pub fields : List TextLine
  pub same : u ≡ record { envelope = t.envelope; root = with_fields fields t.root }

-- a byte of it is left
abbrev pub is_left : List ℕ → Bool
is_left text = not (is_nil text)
