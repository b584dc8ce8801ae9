-- A node in memory as the lengths that it stands for.
use Rattle.std.specs.Prelude.{ℕ, Option, List, [], ◌∷◌}
use Rattle.std.specs.Option.{option_map}
use Rattle.mk_tree.specs.declared.node.Node.{Node}
use Rattle.mk_tree.specs.declared.node.Node.TheOpen.{Node-F}
use Rattle.mk_tree.specs.declared.node.Node.TheFolds.{fold-Node}
use Rattle.mk_tree.specs.declared.node.Shape.{Shape}
use Rattle.mk_tree.specs.declared.node.Shape.TheVariants as shape
use Rattle.mk_tree.specs.declared.node.Tail.{Tail}
use Rattle.mk_tree.specs.Spans.{Form, leaf_form, message_form, multi_form, Span, span, Spans, no_spans, more_spans}

-- the sizes of a close line and an epilogue in memory
abbrev pub tail_of : Option Tail → Option (ℕ × ℕ)
tail_of t = option_map (λ t. (t.close, t.epilogue)) t

-- a shape in memory as a form
abbrev pub form_of : Shape → Form
form_of shape.Leaf = leaf_form
form_of shape.Message = message_form
form_of (shape.Multi m) = multi_form m.value.boundary.items m.value.digest m.value.preamble (tail_of m.value.tail)

-- spans at the start of others
abbrev pub spans_with : List Span → Spans → Spans
spans_with [] rest = rest
spans_with (s ∷ ss) rest = more_spans s (spans_with ss rest)

-- a node in memory as a span, where its parts are spans already
abbrev pub span_step : Node-F Span → Span
span_step n = span n.delimiter n.fields n.separator n.size (form_of n.shape) (spans_with n.parts.items no_spans)

-- a node in memory as a span
abbrev pub node_span : Node → Span
node_span = fold-Node Span span_step
