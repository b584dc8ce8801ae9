use Rattle.std.proofs.Common.{drop}
use Rattle.mk_script.specs.ScriptViews.{items_of}
use Rattle.mk_transfer.specs.Said.{Said, said_after}
use Rattle.mk_show.specs.Portions.{AreTakenAs}
use Rattle.mk_show.specs.inner.SaidAnswers.{said_of_answer}
use Rattle.mk_show.proofs.portions.given_all.Given as goal

abbrev pub invariant-loop-path : goal.invariant-loop-path
invariant-loop-path l = (more : Said) → AreTakenAs l.wanted (items_of (drop l.path-index l.paths)) l.doc more → AreTakenAs l.wanted (items_of l.paths) l.doc (said_after (said_of_answer l.all) more)
