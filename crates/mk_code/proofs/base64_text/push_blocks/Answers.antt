use Rattle.std.proofs.Common.{◌++◌, ◌∙◌, ap}
use Rattle.mk_line.proofs.Kept.{kept_grown, kept_on, kept_same}
use Rattle.mk_code.specs.Base64Text.{base64_encoded}
use Rattle.mk_code.proofs.Base64Lines.{ending_short, block_pushed, block_ended, on_ok}
use Rattle.mk_code.proofs.base64_text.push_blocks.Goals as goal

pub loop-rest-init : goal.loop-rest-init
loop-rest-init c = record { told = ap (λ text. text ++ base64_encoded c.args.eol c.args.bytes.now) c.reserve.ensures.items; kept = kept_same _ _ c.reserve.ensures.items }

pub loop-rest-preserved : goal.loop-rest-preserved
loop-rest-preserved c = record {
  told =
      block_pushed c.args.eol c.bytes-ending.result.now c.loop-rest.rest.now c.loop-rest.text.items _ _ _ _ _ c.bytes-ending.ensures c.loop-rest-test.true c.split_at.ensures.front c.split_at.ensures.back c.write_letters-size.ensures.letters c.in_ok-push_lines.ensures.appended c.in_ok-extend_from_slice.ensures.items
      ∙ c.loop-rest.invariant.told;
  kept = kept_on _ _ _ c.loop-rest.invariant.kept (kept_on _ _ _ c.in_ok-push_lines.ensures.kept (kept_grown _ _ _ c.in_ok-extend_from_slice.ensures.items));
}

pub returns-in_err-push_lines-clause-kept : goal.returns-in_err-push_lines-clause-kept
returns-in_err-push_lines-clause-kept c = kept_on _ _ _ c.loop-rest.invariant.kept c.in_err-push_lines.ensures.kept

pub returns-in_err-extend_from_slice-clause-kept : goal.returns-in_err-extend_from_slice-clause-kept
returns-in_err-extend_from_slice-clause-kept c = kept_on _ _ _ c.loop-rest.invariant.kept (kept_on _ _ _ c.in_ok-push_lines.ensures.kept (kept_same _ _ c.in_err-extend_from_slice.ensures.items))

pub returns-clause-appended : goal.returns-clause-appended
returns-clause-appended c =
    on_ok c.push_lines-2.result _ _ c.push_lines-2.ensures.appended
    (λ h. block_ended c.args.eol c.bytes-ending.result.now _ c.loop-rest.rest.now c.loop-rest.text.items _ c.bytes-ending.ensures c.write_letters-last.ensures.letters h ∙ c.loop-rest.invariant.told)

pub returns-clause-kept : goal.returns-clause-kept
returns-clause-kept c = kept_on _ _ _ c.loop-rest.invariant.kept c.push_lines-2.ensures.kept

pub room-requires : goal.room-requires
room-requires c = ending_short c.args.eol c.bytes-ending.result.now c.bytes-ending.ensures
