-- Reading up to the first line that is a mark of an open boundary (RFC 2046, 5.1.2: a mark of an outer multipart ends all inside).
use Rattle.std.specs.Prelude.{◌||◌, ◌&&◌, if◌then◌else◌, ℕ, Bool, true, false, not, List, [], ◌∷◌}
use Rattle.mk_line.specs.declared.marks.Mark.{Mark}
use Rattle.mk_line.specs.declared.marks.Mark.TheVariants.{No, Part, Close}
use Rattle.mk_line.specs.Lines.{TextLine}
use Rattle.mk_line.specs.Marks.{mark}
use Rattle.mk_head.specs.Split.{belongs}
use Rattle.mk_tree.specs.Cutting.{Cut, cut_by}

-- the line is a mark: it begins a part or closes a multipart
abbrev pub is_mark : Mark → Bool
is_mark No = false
is_mark Part = true
is_mark Close = true

-- whether a line is a delimiter or close line of one of the boundaries
abbrev pub is_marked : List (List ℕ) → TextLine → Bool
is_marked [] l = false
is_marked (b ∷ bs) l = is_mark (mark b l.content) || is_marked bs l

-- the lines before the first mark
abbrev pub upto : List (List ℕ) → List TextLine → List TextLine
upto bs [] = []
upto bs (l ∷ ls) = if is_marked bs l then [] else l ∷ upto bs ls

-- the first mark and all after it
abbrev pub beyond : List (List ℕ) → List TextLine → List TextLine
beyond bs [] = []
beyond bs (l ∷ ls) = if is_marked bs l then l ∷ ls else beyond bs ls

-- a line of the fields of an entity that no mark has ended
abbrev pub goes_on : List (List ℕ) → Bool → TextLine → Bool
goes_on bs inside l = not (is_marked bs l) && belongs inside l

-- the lines of fields at the start, up to a mark
abbrev pub fields_until : List (List ℕ) → Bool → List TextLine → List TextLine
fields_until bs inside [] = []
fields_until bs inside (l ∷ ls) = if goes_on bs inside l then l ∷ fields_until bs true ls else []

-- what follows those lines
abbrev pub rest_until : List (List ℕ) → Bool → List TextLine → List TextLine
rest_until bs inside [] = []
rest_until bs inside (l ∷ ls) = if goes_on bs inside l then rest_until bs true ls else l ∷ ls

-- the cut by a boundary of the lines before the first mark of those around it
abbrev pub inner : List (List ℕ) → List ℕ → List TextLine → Cut
inner bs b ls = cut_by b (upto bs ls)
