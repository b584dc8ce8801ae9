-- The law of messages in which nothing is found.
use Rattle.std.specs.Prelude.{ℕ, List, [], ◌∷◌}
use Rattle.mk_tree.specs.Documents.{tree}
use Rattle.mk_view.specs.Extracts.{IsContentOf}
use Rattle.mk_view.specs.Listed.{Listed, listed}
use Rattle.mk_check.specs.declared.lines.FindingForm.{FindingForm}
use Rattle.mk_check.specs.FindingLines.{AreFindingLines}

-- each of these sections has a content
abbrev pub HaveContents : List Listed → Type 0
HaveContents [] = Unit {0}
HaveContents (s ∷ ss) = ((bytes : List ℕ) × IsContentOf s.section bytes) × HaveContents ss

-- where nothing is found in a message, the content of each section can be decoded
abbrev pub CleanMessagesDecode : Type 0
CleanMessagesDecode = (form : FindingForm) (message : List ℕ) → AreFindingLines form (listed (tree message)) [] → HaveContents (listed (tree message))
