use Rattle.std.proofs.Common.{◌≡◌, ◌++◌, length}
use Rattle.std.specs.Option.{option_map}
use Rattle.mk_head.specs.Values.{Plain}
use Rattle.mk_wording.specs.Stretches.{stretches, worded_stretches, worded_text}
use Rattle.mk_wording.proofs.stretches.worded_text.Given as goal

abbrev pub decreases-stretches : goal.decreases-stretches
decreases-stretches l = length l.rest

abbrev pub invariant-stretches : goal.invariant-stretches
invariant-stretches l = option_map (λ more. l.worded.items ++ more) (worded_stretches l.which l.eol (stretches Plain l.rest)) ≡ worded_text l.which l.eol l.fn.text
