use Rattle.mk_code.proofs.Base64Safe.{base64_safe}
use Rattle.mk_code.proofs.laws.base64_lines_are_safe.Goals as goal

pub returns : goal.returns
returns c = base64_safe
