-- Each section below is put with a level less.
use Rattle.mk_edit_tests.proofs.tests.flat.Listing.+put_entity.Given as goal

abbrev pub decreases-put_entity : goal.decreases-put_entity
decreases-put_entity l = l.levels

abbrev pub invariant-loop-child : goal.invariant-loop-child
invariant-loop-child l =
    (goal.iterator-loop-child).can_next l.child-iterator ×
    (goal.iterator-loop-child).is_finite l.child-iterator
