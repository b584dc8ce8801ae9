use Rattle.std.proofs.Common.{refl}
use Rattle.mk_code.specs.Charsets.{other_tables}
use Rattle.mk_code.proofs.charsets.other_charsets.Goals as goal

pub returns : goal.returns
unfolding other_tables
returns c = refl
