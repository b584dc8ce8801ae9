use Rattle.std.proofs.Common.{◌≡◌, map, drop}
use Rattle.std.specs.List.{list_any}
use Rattle.mk_build.specs.Forwards.{is_8bit}
use Rattle.mk_build.specs.ForwardViews.{forwarded_of}
use Rattle.mk_build.proofs.forwarding.are_8bit.Given as goal

abbrev pub invariant-loop-forward : goal.invariant-loop-forward
invariant-loop-forward l = list_any (λ f. is_8bit f.text) (drop l.forward-index (map forwarded_of l.messages)) ≡ list_any (λ f. is_8bit f.text) (map forwarded_of l.messages)
