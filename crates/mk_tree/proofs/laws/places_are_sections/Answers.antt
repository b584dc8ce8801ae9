use Rattle.mk_tree.proofs.Placed.{sections_placed}
use Rattle.mk_tree.proofs.laws.places_are_sections.Goals as goal

pub returns : goal.returns
returns c = sections_placed
