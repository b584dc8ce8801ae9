use Rattle.mk_tree_tests.proofs.tests.changes.+same_sections.Given as goal

abbrev pub decreases-same_sections : goal.decreases-same_sections
decreases-same_sections g l = l.levels
