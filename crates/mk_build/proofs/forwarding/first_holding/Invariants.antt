use Rattle.std.proofs.Common.{◌≡◌, map, drop, not}
use Rattle.std.specs.List.{position}
use Rattle.mk_build.specs.Forwards.{is_clear}
use Rattle.mk_build.specs.ForwardViews.{forwarded_of}
use Rattle.mk_build.proofs.Failing.{following}
use Rattle.mk_build.proofs.forwarding.first_holding.Given as goal

abbrev pub invariant-loop-index : goal.invariant-loop-index
invariant-loop-index l = following l.index (position (λ f. not (is_clear l.boundary f.text)) (drop l.index (map forwarded_of l.messages))) ≡ position (λ f. not (is_clear l.boundary f.text)) (map forwarded_of l.messages)
