use Rattle.std.proofs.Common.{◌∙◌, ◌+◌, ◌++◌, ap, arith, ◌∷◌, drop, map, nat_lt, sym}
use Rattle.mk_splice.specs.JournalViews.{meaning_of}
use Rattle.mk_splice.specs.Views.{splice_of, steps_of}
use Rattle.mk_journal.specs.StepLines.{journal_lines, step_line}
use Rattle.mk_journal.proofs.StepLemmas.{one_line, rest_from}
use Rattle.mk_journal.proofs.lines.list_steps.Goals as goal

pub loop-index-preserved : goal.loop-index-preserved
loop-index-preserved c =
    let i = c.loop-index.index in
    let done = c.args.journal.now.done in
    let step = map splice_of c.step-item.result.items in
    let items = c.deref-step-items.ensures.value in
    let rest = ap (λ vs. drop i (steps_of vs)) (sym items) ∙ (rest_from (λ v. map splice_of v.items) i c.deref-step-items.result.now c.step-item.result (omega (arith, c.loop-index-test.true)) c.step-item.is ∙ ap (λ vs. step ∷ drop (i + 1) (steps_of vs)) items) in
    one_line i done c.loop-index.text.items c.push_step.new.text.items (journal_lines (meaning_of c.args.journal.now)) (drop i (steps_of c.args.journal.now.steps.items)) (drop (i + 1) (steps_of c.args.journal.now.steps.items)) step
    rest (c.in_ok-push_step.ensures ∙ ap (λ items. c.loop-index.text.items ++ step_line (i + 1) (nat_lt i done) (map splice_of items)) c.deref.ensures.value) c.loop-index.invariant
