use Rattle.std.proofs.Common.{sym, ◌∙◌}
use Rattle.mk_head.proofs.Commentless.{all_kept}
use Rattle.mk_head.proofs.scanning.uncomment.Goals as goal

pub returns-in_ok-from_slice-in-None : goal.returns-in_ok-from_slice-in-None
returns-in_ok-from_slice-in-None c = c.in_ok-from_slice-in-None.ensures.items ∙ sym (all_kept c.args.value.now c.in-None.ensures)
