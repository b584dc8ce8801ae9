use Rattle.mk_param.proofs.Percents.{percent_step}
use Rattle.mk_param.proofs.percent.push_decoded.Goals as goal

pub loop-rest-preserved : goal.loop-rest-preserved
loop-rest-preserved c = percent_step c.loop-rest.rest.now c.in-Some.following.now c.loop-rest.out.items _ c.in-Some.byte _ c.in-Some.ensures.value c.in_ok-push.ensures.items c.loop-rest.invariant
