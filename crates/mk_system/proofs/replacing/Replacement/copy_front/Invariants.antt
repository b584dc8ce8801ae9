use Rattle.mk_system.proofs.replacing.Replacement.copy_front.Given as goal

abbrev pub decreases-loop-rest : goal.decreases-loop-rest
decreases-loop-rest l = l.rest
