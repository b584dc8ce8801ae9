use Rattle.std.proofs.Common.{◌∙◌}
use Rattle.mk_code.proofs.Pairs.{pair_sought}
use Rattle.mk_mail.proofs.word_texts.has_mark.Goals as goal

pub returns : goal.returns
returns c = c.is_some.ensures ∙ pair_sought 61 63 c.args.value.now c.find.result c.find.ensures
