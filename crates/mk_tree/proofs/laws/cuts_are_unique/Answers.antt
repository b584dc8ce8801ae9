use Rattle.mk_tree.proofs.OneCut.{cut_is, cut_of}
use Rattle.mk_tree.proofs.laws.cuts_are_unique.Goals as goal

pub returns : goal.returns
returns c = record { some = cut_is; only = cut_of }
