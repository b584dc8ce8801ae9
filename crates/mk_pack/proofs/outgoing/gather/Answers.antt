use Rattle.std.proofs.Common.{◌<◌, ◌∙◌, inr, arith}
use Rattle.mk_pack.proofs.outgoing.gather.Goals as goal

pub each-preserved : goal.each-preserved
each-preserved c =
    let less : c.push_next.new.self.most < c.each.pieces.most = c.in-Ok-true.ensures.fewer c.in-Ok-true.field-0-test in
    record {
      told = c.in-Ok-true.ensures.told ∙ c.each.invariant.told;
      most = omega (arith, less, c.each.invariant.most);
      fewer = inr (omega (arith, less, c.each.invariant.most));
    }
