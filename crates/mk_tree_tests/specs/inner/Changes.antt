-- Changes that can be made.
use Rattle.std.specs.Prelude.{ℕ, List}
use Rattle.mk_tree.specs.declared.splicing.Change.{Change}
use Rattle.mk_tree.specs.Documents.{Document, tree}
use Rattle.mk_tree.specs.ChangeViews.{ChangesTo}

-- some document comes of the change of the section at a path of a text
unfoldable pub Changes : List ℕ → List ℕ → Change → Type 0
Changes text path change = (u : Document) × ChangesTo path change (tree text) u
