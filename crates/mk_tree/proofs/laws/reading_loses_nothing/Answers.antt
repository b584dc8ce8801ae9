use Rattle.mk_tree.proofs.Kept.{text_kept}
use Rattle.mk_tree.proofs.laws.reading_loses_nothing.Goals as goal

pub returns : goal.returns
returns c = text_kept
