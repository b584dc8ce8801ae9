use Rattle.mk_line.specs.Ascii.{space}
use Rattle.mk_script.proofs.FaultyWords.{before_whole}
use Rattle.mk_script.proofs.reasons.first_word.Goals as goal

pub returns-in-None-clause-word : goal.returns-in-None-clause-word
returns-in-None-clause-word c = before_whole space c.args.text.now c.in-None.ensures.none
