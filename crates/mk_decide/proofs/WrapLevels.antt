-- An entity one level deeper: it is read back there where a level is left for what stands in it.
use Rattle.std.proofs.Common.{◌≡◌, ◌<◌, ℕ, zero, suc, Bool, false, List, refl, ◌∙◌, arith}
use Rattle.mk_line.specs.Lines.{TextLine}
use Rattle.mk_tree.specs.Kinds.{Leaf, Message, Multi, kind_at}
use Rattle.mk_tree.specs.Tree.{Entity, leaf, message, multi, Parts, no_parts, part}
use Rattle.mk_tree.specs.Spans.{digest_below}
use Rattle.mk_tree.specs.Places.{below}
use Rattle.mk_tree.specs.Reading.{IsWellRead, AreWellRead}
use Rattle.mk_decide.specs.Local.{FitsLevels, FitLevels}

pub no_level : 0 < 0 → ⊥
no_level l = omega (arith, l)

leaf_message : {A : Type 0} → Leaf ≡ Message → A
leaf_message e = cc

leaf_multi : {A : Type 0} (b : List ℕ) (g : Bool) → Leaf ≡ Multi b g → A
leaf_multi b g e = cc

pub level_message : (n : ℕ) (fields : List TextLine) (d : Bool) → kind_at n fields d ≡ Message → 0 < n
level_message zero fields d e = leaf_message e
level_message (suc n) fields d e = omega arith

pub level_multi : (n : ℕ) (fields : List TextLine) (d : Bool) (b : List ℕ) (g : Bool) → kind_at n fields d ≡ Multi b g → 0 < n
level_multi zero fields d b g e = leaf_multi b g e
level_multi (suc n) fields d b g e = omega arith

-- the kind one level deeper
leaf_down : (n : ℕ) (fields : List TextLine) (d : Bool) → kind_at n fields d ≡ Leaf → kind_at (below n) fields d ≡ Leaf
leaf_down zero fields d e = refl
leaf_down (suc zero) fields d e = refl
leaf_down (suc (suc n)) fields d e = e

pub kind_down : (n : ℕ) (fields : List TextLine) (d : Bool) → 0 < (below n) → kind_at (below n) fields d ≡ kind_at n fields d
kind_down zero fields d l = refl
kind_down (suc zero) fields d l = absurd (no_level l)
kind_down (suc (suc n)) fields d l = refl

mutual
  pub level_down : (n : ℕ) (d : Bool) (e : Entity) → FitsLevels (below n) e → IsWellRead n d e → IsWellRead (below n) d e
  level_down n d (leaf h ls) f w = (w.0, leaf_down n h.fields d w.1)
  level_down n d (message h e) f w = (w.0, kind_down n h.fields d f.0 ∙ w.1, level_down (below n) false e f.1 w.2)
  level_down n d (multi h b pre ps t) f w = (w.0, kind_down n h.fields d f.0 ∙ w.1, levels_down (below n) (digest_below d h) b ps f.1 w.2, w.3, w.4)

  pub levels_down : (n : ℕ) (d : Bool) (b : List ℕ) (ps : Parts) → FitLevels (below n) ps → AreWellRead n d b ps → AreWellRead (below n) d b ps
  levels_down n d b no_parts f w = tt
  levels_down n d b (part l e ps) f w = (w.0, w.1, level_down n d e f.0 w.2, levels_down n d b ps f.1 w.3)

mutual
  pub level_fits : (n : ℕ) (d : Bool) (e : Entity) → IsWellRead n d e → FitsLevels n e
  level_fits n d (leaf h ls) w = tt
  level_fits n d (message h e) w = (level_message n h.fields d w.1, level_fits (below n) false e w.2)
  level_fits n d (multi h b pre ps t) w = (level_multi n h.fields d b (digest_below d h) w.1, levels_fit (below n) (digest_below d h) b ps w.2)

  pub levels_fit : (n : ℕ) (d : Bool) (b : List ℕ) (ps : Parts) → AreWellRead n d b ps → FitLevels n ps
  levels_fit n d b no_parts w = tt
  levels_fit n d b (part l e ps) w = (level_fits n d e w.2, levels_fit n d b ps w.3)
