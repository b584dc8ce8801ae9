use Rattle.mk_line.proofs.Kept.{kept_grown, kept_on}
use Rattle.mk_view.proofs.writing.push_numbers.Goals as goal

pub returns-in_err-push_dotted-clause-kept : goal.returns-in_err-push_dotted-clause-kept
returns-in_err-push_dotted-clause-kept c =
    kept_on _ _ _ (kept_on _ _ _ (kept_grown _ _ _ c.in_ok-push_number.ensures.appended) (kept_grown _ _ _ c.loop-number.invariant)) c.push_dotted.ensures.kept
