use Rattle.mk_line.proofs.Kept.{kept_on}
use Rattle.mk_code.proofs.qp_encoding.push_packed.Goals as goal

pub returns-in_err-column-clause-kept : goal.returns-in_err-column-clause-kept
returns-in_err-column-clause-kept c = kept_on _ _ _ c.loop-byte.invariant.kept c.break_line.ensures.kept

pub returns-in_err-column-2-clause-kept : goal.returns-in_err-column-2-clause-kept
returns-in_err-column-2-clause-kept c = kept_on _ _ _ c.loop-byte.invariant.kept (kept_on _ _ _ c.break_line.ensures.kept c.push_form.ensures.kept)

pub returns-in_err-copied-clause-kept : goal.returns-in_err-copied-clause-kept
returns-in_err-copied-clause-kept c =
    kept_on _ _ _ c.loop-byte.invariant.kept (kept_on _ _ _ c.break_line.ensures.kept (kept_on _ _ _ c.push_form.ensures.kept c.push_quiet.ensures.kept))
