use Rattle.mk_line.specs.Ascii.{asterisk}
use Rattle.mk_code.proofs.CharsetNames.{before_whole}
use Rattle.mk_code.proofs.one_word.without_language.Goals as goal

pub returns-in-None : goal.returns-in-None
returns-in-None c = before_whole asterisk c.args.charset.now c.in-None.ensures.none
