-- A map in memory as the files of a folder, when one more text is kept.
use Rattle.std.proofs.Common.{◌≡◌, ℕ, Bool, true, false, cond, Option, Some, refl, ap, ◌∙◌}
use Rattle.std.specs.Option.{option_map}
use Rattle.std.specs.BTreeMap.{BTreeMap, UpdatesBy}
use Rattle.std.specs.Cmp.Lexicographic.{slice_cmp}
use Rattle.std.specs.Global.{Vec}
use Rattle.std.specs.Ordering.{nat_cmp}
use Rattle.std.specs.Str.{bytes_eq}
use Rattle.mk_param.proofs.Kept.{kept_by_name}
use Rattle.mk_show.specs.Folders.{Gets}
use Rattle.mk_run_tests.specs.Kept.{texts_in}

chosen : (b : Bool) (text : Vec ℕ) (other : Option (Vec ℕ)) → option_map (λ t. t.items) (cond b (Some text) other) ≡ cond b (Some text.items) (option_map (λ t. t.items) other)
chosen true text other = refl
chosen false text other = refl

-- the map has the text under the name, and what it had under each other
pub texts_kept : (old new : BTreeMap (Vec ℕ) (Vec ℕ)) (name text : Vec ℕ) → UpdatesBy (λ x y. slice_cmp nat_cmp x.items y.items) (λ key. slice_cmp nat_cmp name.items key.items) old new (Some text)
    → Gets (Some (texts_in old)) (Some (texts_in new)) name.items text.items
texts_kept old new name text h = λ other. ap (option_map (λ t. t.items)) (kept_by_name old new name.items (Some text) h other) ∙ chosen (bytes_eq name.items other) text _
