-- A map in memory as the files of a folder.
use Rattle.std.specs.Prelude.{ℕ}
use Rattle.std.specs.Option.{option_map}
use Rattle.std.specs.BTreeMap.{BTreeMap, get_by}
use Rattle.std.specs.Cmp.Lexicographic.{slice_cmp}
use Rattle.std.specs.Global.{Vec}
use Rattle.std.specs.Ordering.{nat_cmp}
use Rattle.mk_show.specs.Folders.{Files}

-- the text that is kept under each name
abbrev pub texts_in : BTreeMap (Vec ℕ) (Vec ℕ) → Files
texts_in kept = λ name. option_map (λ text. text.items) (get_by (λ key. slice_cmp nat_cmp name key.items) kept)
