use Rattle.std.proofs.Common.{refl}
use Rattle.mk_code.specs.Charsets.{iso_tables}
use Rattle.mk_code.proofs.charsets.iso_charsets.Goals as goal

pub returns : goal.returns
unfolding iso_tables
returns c = refl
