use Rattle.std.proofs.Common.{◌≡◌, ◌++◌, List, ℕ, map, drop}
use Rattle.std.specs.List.{flat_map}
use Rattle.sha2.specs.Hashers.{Holds256}
use Rattle.mk_build.specs.ForwardViews.{forwarded_of}
use Rattle.mk_pack.specs.FreeBoundary.{measured_message}
use Rattle.mk_pack.proofs.boundaries.add_messages.Given as goal

abbrev pub invariant-loop-forward : goal.invariant-loop-forward
invariant-loop-forward l = (before : List ℕ) → Holds256 l.fn.hasher before → (now : List ℕ) × Holds256 l.hasher now
    × (now ++ flat_map measured_message (drop l.forward-index (map forwarded_of l.messages)) ≡ before ++ flat_map measured_message (map forwarded_of l.messages))
