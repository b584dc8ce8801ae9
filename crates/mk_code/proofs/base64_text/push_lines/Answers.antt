use Rattle.std.proofs.Common.{◌∙◌, refl}
use Rattle.mk_line.proofs.Kept.{kept_grown, kept_if, kept_itself, kept_on, kept_same}
use Rattle.mk_code.proofs.Base64Lines.{line_pushed, line_ended, on_ok_if}
use Rattle.mk_code.proofs.base64_text.push_lines.Goals as goal

pub loop-rest-init : goal.loop-rest-init
loop-rest-init c = record { told = refl; kept = kept_itself _ }

pub loop-rest-preserved : goal.loop-rest-preserved
loop-rest-preserved c = record {
  told =
      line_pushed c.args.ending.now c.loop-rest.rest.now c.loop-rest.text.items _ _ _ _ c.loop-rest-test.true c.split_at.ensures.front c.split_at.ensures.back c.in_ok-extend_from_slice.ensures.items c.in_ok-extend_from_slice-2.ensures.items
      ∙ c.loop-rest.invariant.told;
  kept = kept_on _ _ _ c.loop-rest.invariant.kept (kept_on _ _ _ (kept_grown _ _ _ c.in_ok-extend_from_slice.ensures.items) (kept_grown _ _ _ c.in_ok-extend_from_slice-2.ensures.items));
}

pub returns-in_err-extend_from_slice-clause-kept : goal.returns-in_err-extend_from_slice-clause-kept
returns-in_err-extend_from_slice-clause-kept c = kept_on _ _ _ c.loop-rest.invariant.kept (kept_same _ _ c.in_err-extend_from_slice.ensures.items)

pub returns-in_err-extend_from_slice-2-clause-kept : goal.returns-in_err-extend_from_slice-2-clause-kept
returns-in_err-extend_from_slice-2-clause-kept c =
    kept_on _ _ _ c.loop-rest.invariant.kept (kept_on _ _ _ (kept_grown _ _ _ c.in_ok-extend_from_slice.ensures.items) (kept_same _ _ c.in_err-extend_from_slice-2.ensures.items))

pub returns-clause-appended : goal.returns-clause-appended
returns-clause-appended c =
    on_ok_if c.extend_from_slice-2.result _ _ _ _ c.extend_from_slice-2.ensures.items
    (λ h. line_ended c.args.ending.now c.loop-rest.rest.now c.loop-rest.text.items _ c.loop-rest-test.false h ∙ c.loop-rest.invariant.told)

pub returns-clause-kept : goal.returns-clause-kept
returns-clause-kept c = kept_on _ _ _ c.loop-rest.invariant.kept (kept_if c.extend_from_slice-2.result _ _ _ c.extend_from_slice-2.ensures.items)
