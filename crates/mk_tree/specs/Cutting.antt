-- Multiparts cut by one boundary (RFC 2046, 5.1.1).
use Rattle.std.specs.Prelude.{◌≡◌, ◌++◌, Option, None, Some, IfSome, List, [], ◌∷◌, ℕ}
use Rattle.std.specs.List.{AllByRecursion, flat_map}
use Rattle.mk_line.specs.declared.marks.Mark.{Mark}
use Rattle.mk_line.specs.declared.marks.Mark.TheVariants.{No, Part, Close}
use Rattle.mk_line.specs.Lines.{TextLine}
use Rattle.mk_line.specs.Marks.{mark}

-- the preamble; each part, after its delimiter; the close line and the epilogue, where there is one
pub record Cut : Type 0 where
  pub preamble : List TextLine
  pub parts : List (TextLine × List TextLine)
  pub tail : Option (TextLine × List TextLine)

-- a line before lines whose cut is known; after a close line nothing is looked for
abbrev pub cut_before : Mark → TextLine → List TextLine → Cut → Cut
cut_before No l ls c = record { preamble = l ∷ c.preamble; parts = c.parts; tail = c.tail }
cut_before Part l ls c = record { preamble = []; parts = (l, c.preamble) ∷ c.parts; tail = c.tail }
cut_before Close l ls c = record { preamble = []; parts = []; tail = Some (l, ls) }

-- the cut of lines by a boundary
abbrev pub cut_by : List ℕ → List TextLine → Cut
cut_by b [] = record { preamble = []; parts = []; tail = None }
cut_by b (l ∷ ls) = cut_before (mark b l.content) l ls (cut_by b ls)

-- the close line and the epilogue, where there is a close line
abbrev pub tail_lines : Option (TextLine × List TextLine) → List TextLine
tail_lines None = []
tail_lines (Some p) = p.0 ∷ p.1

-- no line is a mark of the boundary
abbrev pub Unmarked : List ℕ → List TextLine → Type 0
Unmarked b [] = Unit {0}
Unmarked b (l ∷ ls) = (mark b l.content ≡ No) × Unmarked b ls

-- the lines are this preamble, these parts, and this close line and epilogue: each part begins with a delimiter and holds no
-- other mark, and the preamble holds none
pub record IsCutBy (b : List ℕ) (ls : List TextLine) (c : Cut) : Type 0 where
  pub joined : c.preamble ++ (flat_map (λ p. p.0 ∷ p.1) c.parts ++ tail_lines c.tail) ≡ ls
  pub preamble : Unmarked b c.preamble
  pub parts : AllByRecursion (λ p. (mark b p.0.content ≡ Part) × Unmarked b p.1) c.parts
  pub tail : IfSome c.tail (λ p. mark b p.0.content ≡ Close)
