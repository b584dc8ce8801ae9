use Rattle.std.proofs.Common.{sym, ◌∙◌}
use Rattle.mk_line.specs.Ascii.{slash}
use Rattle.mk_pack.proofs.PackLemmas.{last_after, last_whole}
use Rattle.mk_pack.proofs.parts.file_name.Goals as goal

pub each-preserved : goal.each-preserved
each-preserved c = sym (last_after slash c.each.name.now _ (sym c.in-Some.ensures.parts)) ∙ c.each.invariant

pub returns : goal.returns
returns c = sym (last_whole (λ p. (p.0.now, p.1.now)) slash c.each.name.now c.parted.result c.parted.ensures.parts c.in_default.not-Some) ∙ c.each.invariant
