use Rattle.std.proofs.Common.{◌≡◌, ◌++◌, drop}
use Rattle.mk_splice.specs.JournalViews.{meaning_of}
use Rattle.mk_splice.specs.Views.{steps_of}
use Rattle.mk_journal.specs.StepLines.{journal_lines, lines_of_steps}
use Rattle.mk_journal.proofs.lines.list_steps.Given as goal

abbrev pub invariant-loop-index : goal.invariant-loop-index
invariant-loop-index l = l.text.items ++ lines_of_steps l.index l.journal.done (drop l.index (steps_of l.journal.steps.items)) ≡ journal_lines (meaning_of l.journal)
