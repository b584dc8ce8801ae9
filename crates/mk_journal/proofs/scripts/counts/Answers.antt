use Rattle.std.proofs.Common.{◌∙◌, ◌-◌, ap}
use Rattle.mk_splice.specs.Journals.{journal}
use Rattle.mk_journal.proofs.StepLemmas.{done_said, undone_said}
use Rattle.mk_journal.proofs.scripts.counts.Goals as goal

pub returns-in-Ok-clause-done : goal.returns-in-Ok-clause-done
returns-in-Ok-clause-done c = done_said c.in-Ok.journal (journal c.args.file.now) c.in-Ok.ensures.ok

pub returns-in-Ok-clause-undone : goal.returns-in-Ok-clause-undone
returns-in-Ok-clause-undone c = ap (λ n. n - c.in-Ok.journal.done) (c.len.ensures ∙ c.in-Ok.journal.steps.ok.0) ∙ undone_said c.in-Ok.journal (journal c.args.file.now) c.in-Ok.ensures.ok
