use Rattle.std.proofs.Common.{◌++◌, ◌∙◌, ap}
use Rattle.mk_line.proofs.Kept.{kept_grown, kept_on, kept_same}
use Rattle.mk_code.specs.QuotedPrintable.{qp_encoded}
use Rattle.mk_code.proofs.Packing.{line_packed}
use Rattle.mk_code.proofs.qp_encoding.push_logical_lines.Goals as goal

pub loop-line-init : goal.loop-line-init
loop-line-init c = record { told = ap (λ text. text ++ qp_encoded c.args.eol c.args.bytes.now) c.reserve.ensures.items; kept = kept_same _ _ c.reserve.ensures.items }

pub loop-line-preserved : goal.loop-line-preserved
loop-line-preserved c = record {
  told =
      line_packed c.args.eol c.loop-line.rest.now c.in-Some.line.now c.in-Some.following.now c.bytes-ending.result.now c.loop-line.text.items _ _ c.in-Some.ensures.lines c.bytes-ending.ensures c.in_ok-push_packed.ensures.appended c.in_ok-extend_from_slice.ensures.items
      ∙ c.loop-line.invariant.told;
  kept = kept_on _ _ _ c.loop-line.invariant.kept (kept_on _ _ _ c.in_ok-push_packed.ensures.kept (kept_grown _ _ _ c.in_ok-extend_from_slice.ensures.items));
}

pub returns-in_err-push_packed-clause-kept : goal.returns-in_err-push_packed-clause-kept
returns-in_err-push_packed-clause-kept c = kept_on _ _ _ c.loop-line.invariant.kept c.in_err-push_packed.ensures.kept

pub returns-in_err-extend_from_slice-clause-kept : goal.returns-in_err-extend_from_slice-clause-kept
returns-in_err-extend_from_slice-clause-kept c = kept_on _ _ _ c.loop-line.invariant.kept (kept_on _ _ _ c.in_ok-push_packed.ensures.kept (kept_same _ _ c.in_err-extend_from_slice.ensures.items))

pub returns-clause-kept : goal.returns-clause-kept
returns-clause-kept c = kept_on _ _ _ c.loop-line.invariant.kept c.push_packed-2.ensures.kept
