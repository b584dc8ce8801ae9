-- The names that were given so far, when one more is kept.
use Rattle.std.proofs.Common.{◌≡◌, ℕ, cond, Option, List}
use Rattle.std.specs.BTreeMap.{BTreeMap, UpdatesBy}
use Rattle.std.specs.Cmp.Lexicographic.{slice_cmp}
use Rattle.std.specs.Global.{Vec}
use Rattle.std.specs.Ordering.{nat_cmp}
use Rattle.std.specs.Str.{bytes_eq}
use Rattle.mk_param.proofs.Kept.{kept_by_name}
use Rattle.mk_view.specs.inner.Taken.{number_at}

-- what has a number after one is kept for a name
pub kept : (old new : BTreeMap (Vec ℕ) ℕ) (name : List ℕ) (w : Option ℕ) → UpdatesBy (λ x y. slice_cmp nat_cmp x.items y.items) (λ key. slice_cmp nat_cmp name key.items) old new w
    → (other : List ℕ) → number_at new other ≡ cond (bytes_eq name other) w (number_at old other)
kept old new name w h = kept_by_name old new name w h
