use Rattle.mk_code.proofs.WordParts.{q_step}
use Rattle.mk_code.proofs.one_word.q_text.Goals as goal

pub loop-rest-preserved : goal.loop-rest-preserved
loop-rest-preserved c = q_step c.args.text.now c.loop-rest.rest.now c.in-Some.following.now c.loop-rest.out.items _ c.in-Some.byte c.in-Some.ensures.value c.in_ok-push.ensures.items c.loop-rest.invariant
