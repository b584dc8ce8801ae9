-- The columns of a section's line, as they are written.
use Rattle.std.specs.Prelude.{◌+◌, ◌++◌, ◌∷◌, ℕ, List, decimal, length}
use Rattle.mk_line.specs.Ascii.{full_stop, space}
use Rattle.mk_line.specs.Lines.{cut}
use Rattle.mk_head.specs.Split.{head_lines}
use Rattle.mk_tree.specs.Tree.{entity_head, print}
use Rattle.mk_tree.specs.Spans.{size}
use Rattle.mk_tree.specs.Forms.{kind_in}
use Rattle.mk_tree.specs.Sections.{Placed, body_text, head_text}
use Rattle.mk_view.specs.Listing.{encoding_in, encoding_name, kind_name, type_of, type_text}

-- a number of a path after another
abbrev pub dotted : ℕ → List ℕ
dotted number = full_stop ∷ decimal number

-- a column after another
abbrev pub column : List ℕ → List ℕ
column text = space ∷ text

-- what a section is: its kind, its type and its encoding
abbrev pub nature : Placed → List ℕ
nature p = column (kind_name (kind_in p.entity)) ++ (column (type_text (type_of p)) ++ column (encoding_name (encoding_in p)))

-- where it begins, where its body begins, and where it ends
abbrev pub places : Placed → List ℕ
places p =
    column (decimal p.start)
    ++ (column (decimal (p.start + size (head_lines (entity_head p.entity))))
    ++ column (decimal (p.start + size (print p.entity))))

-- how many lines its fields have, and how many its body
abbrev pub line_counts : Placed → List ℕ
line_counts p = column (decimal (length (cut (head_text p)))) ++ column (decimal (length (cut (body_text p))))
