use Rattle.std.proofs.Common.{◌≡◌, ◌∙◌, if◌then◌else◌, sym, ap, inl, refl}
use Rattle.std.proofs.KnownBytes.{Keeps-refl}
use Rattle.mk_edit.specs.Histories.{text_now}
use Rattle.mk_run.specs.Journaling.{journaling_of, left_journal}
use Rattle.mk_transfer.specs.declared.status.Status.TheVariants.{Well, Refused}
use Rattle.mk_run.specs.Runs.{left_by}
use Rattle.mk_run.specs.inner.Doings.{doing_of}
use Rattle.mk_transfer.proofs.Fronts.{AppendsFront-none, AppendsFront-whole}
use Rattle.mk_run.proofs.RunLemmas.{status_at}
use Rattle.mk_transfer.proofs.GivenUp.{writing-not_read}
use Rattle.mk_run.proofs.engine.run_session.Goals as goal
use Rattle.mk_run.proofs.engine.run_session.Goals.{then-refused, else-refused}

pub returns-in-Err-clause-leaves : goal.returns-in-Err-clause-leaves
returns-in-Err-clause-leaves g c = record {
  unread = λ e. writing-not_read c.in-Err.stop (sym c.writing.ensures ∙ e);
  output = AppendsFront-none _ _;
  errors = c.in-Err.ensures.sends.front;
  journal = AppendsFront-none _ _;
  later = inl (Keeps-refl _);
}

pub returns-in-Err-journal_of-clause-leaves : goal.returns-in-Err-journal_of-clause-leaves
returns-in-Err-journal_of-clause-leaves g c = record {
  unread = λ e. cc;
  output = AppendsFront-none _ _;
  errors = AppendsFront-whole _ _ _ c.in-Ok.ensures.sends.whole;
  journal = AppendsFront-none _ _;
  later = inl (Keeps-refl _);
}

pub returns-clause-leaves : goal.returns-clause-leaves
returns-clause-leaves g c =
    let last = left_by (doing_of c.args.work) c.args.session in
    let journaling = journaling_of c.args.journal in
    let text_is : c.text.result.now ≡ text_now last = c.text.ensures.now ∙ ap text_now c.in-Ok.ensures.done in
    let kept_is : c.deref.result.now ≡ left_journal journaling last = c.deref.ensures.value ∙ c.in-Ok-journal_of.ensures ∙ ap (left_journal journaling) c.in-Ok.ensures.done in
    record {
      unread = λ e. writing-not_read c.in-Err-print.stop (sym c.writing-in-Err-print.ensures ∙ e);
      output = rw text_is at c.in-Err-print.ensures.output_front;
      errors = AppendsFront-whole _ _ _ c.in-Ok.ensures.sends.whole;
      journal = rw kept_is at c.in-Err-print.ensures.journal_front;
      later = rw text_is at c.in-Err-print.ensures.later;
    }

pub returns-in-Ok-print-clause-leaves : goal.returns-in-Ok-print-clause-leaves
returns-in-Ok-print-clause-leaves g c =
    let last = left_by (doing_of c.args.work) c.args.session in
    let journaling = journaling_of c.args.journal in
    let text_is : c.text.result.now ≡ text_now last = c.text.ensures.now ∙ ap text_now c.in-Ok.ensures.done in
    let kept_is : c.deref.result.now ≡ left_journal journaling last = c.deref.ensures.value ∙ c.in-Ok-journal_of.ensures ∙ ap (left_journal journaling) c.in-Ok.ensures.done in
    let status_is : c.if-refused.result ≡ (if c.in-Ok.refused then Refused else Well) = elim c.if-refused.branch [
      | then-refused w ↦ rw w.if-refused.true w.result-is
      | else-refused w ↦ rw w.if-refused.false w.result-is
    ] in
    record {
      status_is = status_at _ c.in-Ok.refused c.if-refused.result c.in-Ok.ensures.refused status_is;
      output = rw text_is at c.in-Ok-print.ensures.output;
      errors = c.in-Ok.ensures.sends.whole;
      journal = record { whole = rw kept_is at c.in-Ok-print.ensures.journal; stands = rw kept_is at c.in-Ok-print.ensures.stands; untouched = rw kept_is at c.in-Ok-print.ensures.untouched };
    }

pub returns-in-Err-clause-unfinished : goal.returns-in-Err-clause-unfinished
returns-in-Err-clause-unfinished g c = inl refl

pub returns-in-Err-journal_of-clause-unfinished : goal.returns-in-Err-journal_of-clause-unfinished
returns-in-Err-journal_of-clause-unfinished g c = inl refl

pub returns-clause-unfinished : goal.returns-clause-unfinished
returns-clause-unfinished g c =
    let last = left_by (doing_of c.args.work) c.args.session in
    let journaling = journaling_of c.args.journal in
    let kept_is : c.deref.result.now ≡ left_journal journaling last = c.deref.ensures.value ∙ c.in-Ok-journal_of.ensures ∙ ap (left_journal journaling) c.in-Ok.ensures.done in
    rw kept_is at c.in-Err-print.ensures.unfinished
