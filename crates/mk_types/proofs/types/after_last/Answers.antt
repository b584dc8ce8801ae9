use Rattle.std.proofs.Common.{sym, ◌∙◌}
use Rattle.mk_pack.proofs.PackLemmas.{last_after, last_whole}
use Rattle.mk_types.proofs.types.after_last.Goals as goal

pub each-preserved : goal.each-preserved
each-preserved c = sym (last_after c.args.separator c.each.last.now _ (sym c.in-Some.ensures.parts)) ∙ c.each.invariant

pub returns : goal.returns
returns c = sym (last_whole (λ p. (p.0.now, p.1.now)) c.args.separator c.each.last.now c.parted.result c.parted.ensures.parts c.in_default.not-Some) ∙ c.each.invariant
