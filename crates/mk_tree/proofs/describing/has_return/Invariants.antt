use Rattle.std.proofs.Common.{◌≡◌, ◌==◌, ℕ, Bool, List, drop}
use Rattle.std.specs.List.{list_any}
use Rattle.mk_line.specs.Ascii.{carriage_return}
use Rattle.mk_tree.proofs.describing.has_return.Given as goal

abbrev holds_return : List ℕ → Bool
holds_return text = list_any (λ c. c == carriage_return) text

abbrev pub invariant-loop-byte : goal.invariant-loop-byte
invariant-loop-byte l = holds_return (drop l.byte-index l.text) ≡ holds_return l.text
