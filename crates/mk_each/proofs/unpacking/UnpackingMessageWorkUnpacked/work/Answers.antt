use Rattle.std.proofs.Common.{◌∙◌, Err, Ok, ap, inl, inr}
use Rattle.std.proofs.lemmas.Result.{err_from_is_err_and}
use Rattle.mk_transfer.specs.Said.{Said}
use Rattle.mk_show.specs.Chosen.{asked_of}
use Rattle.mk_each.proofs.UnpackedAlone.{unpacked_alone}
use Rattle.mk_each.proofs.unpacking.UnpackingMessageWorkUnpacked.work.Goals as goal

pub returns-in_err-label-clause-stopped : goal.returns-in_err-label-clause-stopped
returns-in_err-label-clause-stopped g c =
    let from = err_from_is_err_and c.from_residual-in_err-label.result c.from_residual-in_err-label.ensures.1 in
    let raw : Said = record { output = c.try_unpack-done.new.out.text.items; errors = c.try_unpack-done.new.err.text.items } in
    rw from.1
    (inr (record {
      result = c.try_unpack-done.result;
      raw = raw;
      alone = unpacked_alone (asked_of c.args.self.now.options) c.try_unpack-done.result _ _ _ _ _ raw _ _ (c.new.ensures ∙ (c.deref.ensures.value ∙ c.in_ok-text.ensures)) (ap (λ s. s.output) c.new-raw.ensures) (ap (λ s. s.errors) c.new-raw.ensures)
          c.try_unpack-done.ensures.leaves;
      said_is = inr c.in_err-label.ensures.none;
    }))

pub returns-in-Ok-clause-done : goal.returns-in-Ok-clause-done
returns-in-Ok-clause-done g c =
    let raw : Said = record { output = c.try_unpack-done.new.out.text.items; errors = c.try_unpack-done.new.err.text.items } in
    record {
      status = c.in-Ok.field-0;
      raw = raw;
      alone = unpacked_alone (asked_of c.args.self.now.options) (Ok c.in-Ok.field-0) _ _ _ _ _ raw _ _ (c.new.ensures ∙ (c.deref.ensures.value ∙ c.in_ok-text.ensures)) (ap (λ s. s.output) c.new-raw.ensures) (ap (λ s. s.errors) c.new-raw.ensures)
          c.in-Ok.ensures.leaves;
      said_is = c.in_ok-label.ensures.all;
    }

pub returns-in-Err-clause-stopped : goal.returns-in-Err-clause-stopped
returns-in-Err-clause-stopped g c =
    let raw : Said = record { output = c.try_unpack-done.new.out.text.items; errors = c.try_unpack-done.new.err.text.items } in
    inr (record {
      result = Err c.in-Err.field-0;
      raw = raw;
      alone = unpacked_alone (asked_of c.args.self.now.options) (Err c.in-Err.field-0) _ _ _ _ _ raw _ _ (c.new.ensures ∙ (c.deref.ensures.value ∙ c.in_ok-text.ensures)) (ap (λ s. s.output) c.new-raw.ensures) (ap (λ s. s.errors) c.new-raw.ensures)
          c.in-Err.ensures.leaves;
      said_is = inl c.in_ok-label.ensures.all;
    })

pub returns-clause-stopped : goal.returns-clause-stopped
returns-clause-stopped g c =
    let raw : Said = record { output = c.try_unpack-done.new.out.text.items; errors = c.try_unpack-done.new.err.text.items } in
    inr (record {
      result = Err c.in-Err-2.field-0;
      raw = raw;
      alone = unpacked_alone (asked_of c.args.self.now.options) (Err c.in-Err-2.field-0) _ _ _ _ _ raw _ _ (c.new.ensures ∙ (c.deref.ensures.value ∙ c.in_ok-text.ensures)) (ap (λ s. s.output) c.new-raw.ensures) (ap (λ s. s.errors) c.new-raw.ensures)
          c.in-Err-2.ensures.leaves;
      said_is = inl c.in_ok-label.ensures.all;
    })
