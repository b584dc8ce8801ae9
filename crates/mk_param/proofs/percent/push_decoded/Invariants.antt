use Rattle.std.proofs.Common.{◌≡◌, ◌++◌, length}
use Rattle.std.specs.Option.{option_map}
use Rattle.mk_param.specs.Percents.{percent_decoded}
use Rattle.mk_param.proofs.percent.push_decoded.Given as goal

abbrev pub invariant-loop-rest : goal.invariant-loop-rest
invariant-loop-rest l = option_map (λ bytes. l.out.items ++ bytes) (percent_decoded l.rest) ≡ option_map (λ bytes. l.fn.out.items ++ bytes) (percent_decoded l.text)

abbrev pub decreases-loop-rest : goal.decreases-loop-rest
decreases-loop-rest l = length l.rest
