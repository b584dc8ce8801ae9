use Rattle.mk_tree_tests.proofs.tests.+count.Given as goal

abbrev pub decreases-count : goal.decreases-count
decreases-count l = l.levels
