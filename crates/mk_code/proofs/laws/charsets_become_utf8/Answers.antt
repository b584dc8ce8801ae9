use Rattle.mk_code.proofs.InCharsets.{charset_utf8}
use Rattle.mk_code.proofs.laws.charsets_become_utf8.Goals as goal

pub returns : goal.returns
returns c = charset_utf8
