use Rattle.mk_code.proofs.Base64Letters.{letters_after}
use Rattle.mk_code.proofs.base64_text.after_strays.Goals as goal

pub returns-in-len1-up-clause-letters : goal.returns-in-len1-up-clause-letters
returns-in-len1-up-clause-letters c = letters_after c.args.text.now c.run_of.result c.run_of.ensures.front
