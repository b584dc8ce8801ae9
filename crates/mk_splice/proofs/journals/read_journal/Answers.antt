use Rattle.std.proofs.Common.{◌≡◌, ◌+◌, ◌∙◌, Ok, ap, sym, arith, length, map}
use Rattle.std.proofs.lemmas.List.{length-map}
use Rattle.mk_splice.specs.Grammar.{number_of}
use Rattle.mk_splice.specs.Journals.{digest_meant, read_journal}
use Rattle.mk_splice.specs.Views.{splice_of, steps_of}
use Rattle.mk_splice.specs.inner.Parts.{step_meant, journal_of}
use Rattle.mk_splice.proofs.Fronts.{journal_goes, sum_held, steps_counted, done_within, done_held, meaning_same}
use Rattle.mk_splice.proofs.journals.read_journal.Goals as goal

pub returns-clause-told : goal.returns-clause-told
returns-clause-told c =
    let f = c.in_ok-front.ensures in
    let s = c.in_ok-steps.ensures (number_of f.0.0.1 + number_of f.0.1) (sum_held c.in_ok-front.front.done c.in_ok-front.front.undone (number_of f.0.0.1) (number_of f.0.1) c.saturating_add-count.result f.2.done f.2.undone c.saturating_add-count.ensures) in
    let read : read_journal c.args.file.now ≡ Ok (journal_of (f.0, s.0), c.in_ok-steps.rest.now) = journal_goes c.args.file.now c.in_ok-front.rest.now c.in_ok-steps.rest.now f.0 c.in_ok-front.front.version s.0 f.1 f.2.version s.1 in
    let size : length c.in_ok-steps.steps.items ≡ length s.0 = sym (length-map c.in_ok-steps.steps.items (λ v. map splice_of v.items)) ∙ (ap length s.2 ∙ length-map s.0 step_meant) in (
      journal_of (f.0, s.0),
      read,
      meaning_same c.in_ok-front.front.digest (digest_meant f.0.0.0.0.0.1 f.0.0.0.1) (steps_of c.in_ok-steps.steps.items) (map step_meant s.0) c.in_ok-front.front.done (number_of f.0.0.1) f.2.digest s.2
          (done_held c.in_ok-front.front.done (number_of f.0.0.1) (length c.in_ok-steps.steps.items) (length s.0) f.2.done (steps_counted c.args.file.now (journal_of (f.0, s.0)) c.in_ok-steps.rest.now read) size (omega arith)),
    )

pub returns-clause-within : goal.returns-clause-within
returns-clause-within c =
    let f = c.in_ok-front.ensures in
    let s = c.in_ok-steps.ensures (number_of f.0.0.1 + number_of f.0.1) (sum_held c.in_ok-front.front.done c.in_ok-front.front.undone (number_of f.0.0.1) (number_of f.0.1) c.saturating_add-count.result f.2.done f.2.undone c.saturating_add-count.ensures) in
    let read : read_journal c.args.file.now ≡ Ok (journal_of (f.0, s.0), c.in_ok-steps.rest.now) = journal_goes c.args.file.now c.in_ok-front.rest.now c.in_ok-steps.rest.now f.0 c.in_ok-front.front.version s.0 f.1 f.2.version s.1 in
    let size : length c.in_ok-steps.steps.items ≡ length s.0 = sym (length-map c.in_ok-steps.steps.items (λ v. map splice_of v.items)) ∙ (ap length s.2 ∙ length-map s.0 step_meant) in
    done_within c.in_ok-front.front.done (number_of f.0.0.1) (length c.in_ok-steps.steps.items) (length s.0) f.2.done (steps_counted c.args.file.now (journal_of (f.0, s.0)) c.in_ok-steps.rest.now read) size
