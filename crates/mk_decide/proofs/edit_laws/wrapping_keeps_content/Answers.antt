use Rattle.mk_decide.proofs.WrapContent.{wrapping_keeps_lem}
use Rattle.mk_decide.proofs.edit_laws.wrapping_keeps_content.Goals as goal

pub returns : goal.returns
returns c = wrapping_keeps_lem
