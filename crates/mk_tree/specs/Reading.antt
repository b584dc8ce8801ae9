-- An entity that is read back from its lines, said level by level (own).
use Rattle.std.specs.Prelude.{◌≡◌, ◌++◌, ℕ, Bool, false, Option, IfSome, List}
use Rattle.mk_line.specs.declared.marks.Mark.TheVariants.{Part, Close}
use Rattle.mk_line.specs.Lines.{TextLine}
use Rattle.mk_line.specs.Marks.{mark}
use Rattle.mk_head.specs.Splits.{IsSplit}
use Rattle.mk_tree.specs.Cutting.{tail_lines, Unmarked}
use Rattle.mk_tree.specs.Kinds.{Leaf, Message, Multi, kind_at}
use Rattle.mk_tree.specs.Tree.{Entity, leaf, message, multi, Parts, no_parts, part, print, print_parts}
use Rattle.mk_tree.specs.Spans.{digest_below}
use Rattle.mk_tree.specs.Places.{below}

-- a close line, where there is one
abbrev pub Closes : List ℕ → Option (TextLine × List TextLine) → Type 0
Closes b t = IfSome t (λ p. mark b p.0.content ≡ Close)

abbrev mutual
  -- where so many levels may stand below, in a digest or not: head and body are apart, the fields say the kind, and
  -- what stands below is read back
  pub IsWellRead : ℕ → Bool → Entity → Type 0
  IsWellRead left digest (leaf h ls) = IsSplit h ls × (kind_at left h.fields digest ≡ Leaf)
  IsWellRead left digest (message h e) = IsSplit h (print e) × (kind_at left h.fields digest ≡ Message) × IsWellRead (below left) false e
  IsWellRead left digest (multi h b pre ps t) =
      IsSplit h (pre ++ (print_parts ps ++ tail_lines t))
      × (kind_at left h.fields digest ≡ Multi b (digest_below digest h))
      × AreWellRead (below left) (digest_below digest h) b ps
      × Unmarked b pre
      × Closes b t

  -- parts of a boundary: each begins with a delimiter, holds no mark, and is read back
  pub AreWellRead : ℕ → Bool → List ℕ → Parts → Type 0
  AreWellRead left digest b no_parts = Unit {0}
  AreWellRead left digest b (part l e ps) = (mark b l.content ≡ Part) × Unmarked b (print e) × IsWellRead left digest e × AreWellRead left digest b ps
