use Rattle.mk_field.proofs.GatheredLemmas.{front_none}
use Rattle.mk_field.proofs.ToldLemmas.{says_front}
use Rattle.mk_field.proofs.filtering.say_message.Goals as goal

pub returns-in-Err-clause-some : goal.returns-in-Err-clause-some
returns-in-Err-clause-some g c = says_front _ c.args.gathered.now.items c.args.gathered.now.items _ _ _ (front_none _ c.args.gathered.now.items _)
