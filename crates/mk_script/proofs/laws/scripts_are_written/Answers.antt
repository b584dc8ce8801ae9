use Rattle.mk_script.proofs.ScriptsWritten.{scripts_written}
use Rattle.mk_script.proofs.laws.scripts_are_written.Goals as goal

pub returns : goal.returns
returns c = scripts_written
