use Rattle.std.proofs.Common.{◌≡◌, ◌<◌, ◌≤◌, ℕ, true, is_some}
use Rattle.mk_view.specs.GivenNames.{numbered}
use Rattle.mk_view.specs.inner.Taken.{number_at}
use Rattle.mk_view.proofs.giving.free_name.Given as goal

abbrev pub invariant-loop-number : goal.invariant-loop-number
invariant-loop-number l = (n : ℕ) → l.first ≤ n → n < l.number → is_some (number_at l.taken (numbered l.own n)) ≡ true
