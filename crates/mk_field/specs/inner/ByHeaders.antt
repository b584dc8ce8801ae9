-- What is made of a message by its header alone; for private contracts.
use Rattle.std.specs.Prelude.{◌≡◌, ◌++◌, ℕ, true, false, Some, Ok, List}
use Rattle.mk_line.specs.Lines.{ends_open}
use Rattle.mk_tree.specs.Tree.{entity_head}
use Rattle.mk_decide.specs.Answers.{is_memory}
use Rattle.mk_decide.specs.Looks.{has_separator}
use Rattle.mk_edit.specs.Histories.{text_now}
use Rattle.mk_edit.specs.RootFields.{root_in}
use Rattle.mk_mail.specs.Rounds.{Made}
use Rattle.mk_field.specs.declared.headers.ByHeader.{ByHeader}
use Rattle.mk_field.specs.declared.headers.ByHeader.TheVariants.{Made as MadeBy, Refused, Untold}
use Rattle.mk_field.specs.FilterClauses.{IsReason}

-- whole lines, and a separator after the fields of the root
pub record IsHeader (text : List ℕ) : Type 0 where
  pub separated : has_separator (entity_head (root_in text).entity).separator ≡ true
  pub whole : ends_open text ≡ false

-- what is told of a message whose body follows the header
abbrev pub Tells : ByHeader → List ℕ → Made → Type 0
Tells (MadeBy h) body m = m ≡ Ok (text_now h ++ body)
Tells (Refused e) body m = IsReason (Some e) m × (is_memory e ≡ false)
Tells Untold body m = Unit {0}
