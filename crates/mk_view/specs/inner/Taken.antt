-- The names that were given so far, each with the number that is tried first after it.
use Rattle.std.specs.Prelude.{◌≡◌, ◌<◌, ◌≤◌, ℕ, true, Option, Some, List, is_some}
use Rattle.std.specs.BTreeMap.{BTreeMap, get_by}
use Rattle.std.specs.Cmp.Lexicographic.{slice_cmp}
use Rattle.std.specs.Global.{Vec}
use Rattle.std.specs.Ordering.{nat_cmp}
use Rattle.mk_view.specs.GivenNames.{is_taken, numbered}

-- the number that is tried first after a name, where the name was given
abbrev pub number_at : BTreeMap (Vec ℕ) ℕ → List ℕ → Option ℕ
number_at taken name = get_by (λ key. slice_cmp nat_cmp name key.items) taken

-- the names that have a number are those that were given, and all smaller numbers make names that were given
pub record Knows (number : List ℕ → Option ℕ) (names : List (List ℕ)) : Type 0 where
  pub known : (name : List ℕ) → is_some (number name) ≡ is_taken names name
  pub from_one : (name : List ℕ) (first : ℕ) → number name ≡ Some first → 1 ≤ first
  pub tried : (name : List ℕ) (first : ℕ) → number name ≡ Some first → (n : ℕ) → 1 ≤ n → n < first → is_taken names (numbered name n) ≡ true
