-- How nodes lie over a text: each over the bytes of its entity, and the nodes of parts one after another.
use Rattle.std.specs.Prelude.{◌≡◌, ◌+◌, ◌≤◌, ◌<◌, ◌^◌, ◌||◌, ℕ, Bool, true, false, List, [], ◌∷◌, length, map, take, drop}
use Rattle.mk_line.specs.Lines.{cut}
use Rattle.std.specs.Option.{option_to_list}
use Rattle.mk_tree.specs.Spans.{Span, span, size, span_of}
use Rattle.mk_tree.specs.Tree.{read}
use Rattle.mk_tree.specs.Documents.{tree}
use Rattle.mk_tree.specs.Sections.{Placed}
use Rattle.mk_tree.specs.declared.node.Node.{Node}
use Rattle.mk_tree.specs.Nodes.{node_span}

-- how many bytes the delimiter before an entity has
abbrev pub delimiter_of : Span → ℕ
delimiter_of (span delimiter fields separator whole form spans) = delimiter

-- how many bytes the entity has
abbrev pub whole_of : Span → ℕ
whole_of (span delimiter fields separator whole form spans) = whole

-- some span is there
abbrev pub has_span : List Span → Bool
has_span [] = false
has_span (s ∷ ss) = true

-- a section of a text, below which so many levels may stand
abbrev pub placed_over : List ℕ → ℕ → Bool → Bool → ℕ → Placed
placed_over raw start followed digest left = record { start = start; followed = followed; digest = digest; entity = read left digest (cut raw) }

-- the lengths are those of the entity that the text is read as
abbrev pub IsSpanOver : Span → List ℕ → Bool → ℕ → Type 0
IsSpanOver s raw digest left = s ≡ span_of digest (delimiter_of s) (read left digest (cut raw))

-- the node keeps the lengths of the entity that the text is read as, and all places fit
pub record IsNodeOver (node : Node) (raw : List ℕ) (start : ℕ) (digest : Bool) (left : ℕ) : Type 0 where
  pub lengths : IsSpanOver (node_span node) raw digest left
  pub fits : start + length raw < 2 ^ 64

-- the bytes of the first of some spans, after its delimiter, and all bytes after them
abbrev pub first_text : Span → List ℕ → List ℕ
first_text s text = take (whole_of s) (drop (delimiter_of s) text)

-- what follows an entity in the text that its delimiter begins
abbrev pub text_after : Span → List ℕ → List ℕ
text_after s text = drop (whole_of s) (drop (delimiter_of s) text)

-- the sections that spans stand for, one after another from a place on; `followed`: whether lines stand after the last
abbrev pub placed_along : List Span → List ℕ → ℕ → Bool → Bool → ℕ → List Placed
placed_along [] text place followed digest left = []
placed_along (s ∷ ss) text place followed digest left =
    placed_over (first_text s text) (place + delimiter_of s) (has_span ss || followed) digest left
    ∷ placed_along ss (text_after s text) (place + delimiter_of s + whole_of s) followed digest left

-- spans are those of entities one after another in a text
abbrev pub AreSpansOver : List Span → List ℕ → Bool → ℕ → Type 0
AreSpansOver [] text digest left = Unit {0}
AreSpansOver (s ∷ ss) text digest left =
    (delimiter_of s + whole_of s ≤ length text) × IsSpanOver s (first_text s text) digest left × AreSpansOver ss (text_after s text) digest left

-- nodes one after another
pub record AreNodesOver (nodes : List Node) (text : List ℕ) (start : ℕ) (digest : Bool) (left : ℕ) : Type 0 where
  pub lengths : AreSpansOver (map node_span nodes) text digest left
  pub fits : start + length text < 2 ^ 64

-- a document's nodes: the root's, and the length of the envelope
pub record IsTreeOver (root : Node) (envelope : ℕ) (text : List ℕ) : Type 0 where
  pub lengths : node_span root ≡ span_of false 0 (tree text).root
  pub front : envelope ≡ size (option_to_list (tree text).envelope)
