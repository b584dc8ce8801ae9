use Rattle.std.proofs.Common.{◌≡◌, ◌++◌, drop, map}
use Rattle.std.specs.List.{flat_map}
use Rattle.mk_splice.specs.Views.{splice_of}
use Rattle.mk_journal.specs.StepLines.{splice_words}
use Rattle.mk_journal.proofs.lines.push_splices.Given as goal

abbrev pub invariant-loop-splice : goal.invariant-loop-splice
invariant-loop-splice l = l.text.items ++ flat_map splice_words (map splice_of (drop l.splice-index l.step)) ≡ l.fn.text.items ++ flat_map splice_words (map splice_of l.step)
