use Rattle.std.proofs.Common.{◌≡◌, ℕ, List, ◌<◌, ◌≤◌, length}
use Rattle.mk_code.specs.Base64Text.{letters}
use Rattle.mk_code.specs.Base64Fronts.{IsFrontOf}
use Rattle.mk_code.proofs.base64_fronts.decode_front.Given as goal

abbrev pub invariant-loop-count : goal.invariant-loop-count
invariant-loop-count l = record {
  found : l.found.items ≡ letters l.text;
  within : l.count ≤ length l.found.items;
  longer : (n : ℕ) → l.count < n → n ≤ length l.found.items → (other : List ℕ) → ¬ IsFrontOf n l.text other;
}

abbrev pub decreases-loop-count : goal.decreases-loop-count
decreases-loop-count l = l.count
