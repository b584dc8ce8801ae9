-- What is known of edits that were made in a text.
use Rattle.std.specs.Prelude.{◌≡◌, ℕ, Ok, List, [], ◌∷◌}
use Rattle.mk_tree.specs.Documents.{tree}
use Rattle.mk_decide.specs.Edits.{PlainEdit}
use Rattle.mk_decide.specs.EditSplices.{splices_of}
use Rattle.mk_edit.specs.Groups.{together}
use Rattle.mk_decide.specs.Outcomes.{edited}
use Rattle.mk_splice.specs.Splices.{Splice, Stands, forth_one, forth_step, GoesForth}

-- an edit was accepted, and its splice made
pub record IsMade (e : PlainEdit) (before : List ℕ) (s : Splice) (after : List ℕ) : Type 0 where
  pub accepted : edited e (tree before) ≡ Ok (tree after)
  pub splices : splices_of e (tree before) ≡ s ∷ []
  pub stands : Stands s.place s.old before
  pub text : after ≡ forth_one s before

-- edits were accepted one after another, and their splices made
pub record AreMade (es : List PlainEdit) (before : List ℕ) (ss : List Splice) (after : List ℕ) : Type 0 where
  pub accepted : together es (tree before) ≡ Ok (tree after, ss)
  pub goes : GoesForth ss before
  pub text : after ≡ forth_step ss before
