-- What a form says, and what an entity's form is.
use Rattle.std.specs.Prelude.{ℕ, Bool, true, false, Option, None, Some, List}
use Rattle.mk_tree.specs.declared.shapes.Kind.{Kind}
use Rattle.mk_tree.specs.declared.shapes.Kind.TheVariants.{Leaf, Multi, Message}
use Rattle.mk_tree.specs.Tree.{Entity, leaf, message, multi}
use Rattle.mk_tree.specs.Spans.{Form, leaf_form, message_form, multi_form, Spans, no_spans, more_spans, size, tail_sizes, digest_below, span_of, spans_of}

-- the kind of an entity
abbrev pub kind_in : Entity → Kind
kind_in (leaf h ls) = Leaf
kind_in (message h e) = Message
kind_in (multi h b pre ps t) = Multi

-- the kind of a form
abbrev pub form_kind : Form → Kind
form_kind leaf_form = Leaf
form_kind message_form = Message
form_kind (multi_form boundary digest preamble tail) = Multi

-- its boundary, where it is a multipart
abbrev pub form_boundary : Form → Option (List ℕ)
form_boundary leaf_form = None
form_boundary message_form = None
form_boundary (multi_form boundary digest preamble tail) = Some boundary

-- whether a missing type means a message below
abbrev pub form_digest : Form → Bool
form_digest leaf_form = false
form_digest message_form = false
form_digest (multi_form boundary digest preamble tail) = digest

-- how many bytes its preamble has
abbrev pub form_preamble : Form → ℕ
form_preamble leaf_form = 0
form_preamble message_form = 0
form_preamble (multi_form boundary digest preamble tail) = preamble

-- a close line is there
abbrev pub has_sizes : Option (ℕ × ℕ) → Bool
has_sizes None = false
has_sizes (Some t) = true

-- how many bytes the epilogue has after a close line
abbrev pub epilogue_size : Option (ℕ × ℕ) → ℕ
epilogue_size None = 0
epilogue_size (Some t) = t.1

-- whether a close line is there
abbrev pub form_closed : Form → Bool
form_closed leaf_form = false
form_closed message_form = false
form_closed (multi_form boundary digest preamble tail) = has_sizes tail

-- how many bytes its epilogue has
abbrev pub form_epilogue : Form → ℕ
form_epilogue leaf_form = 0
form_epilogue message_form = 0
form_epilogue (multi_form boundary digest preamble tail) = epilogue_size tail

-- the form of an entity, in a digest or not
abbrev pub form_in : Bool → Entity → Form
form_in digest (leaf h ls) = leaf_form
form_in digest (message h e) = message_form
form_in digest (multi h b pre ps t) = multi_form b (digest_below digest h) (size pre) (tail_sizes t)

-- the lengths of what stands directly below an entity
abbrev pub spans_in : Bool → Entity → Spans
spans_in digest (leaf h ls) = no_spans
spans_in digest (message h e) = more_spans (span_of false 0 e) no_spans
spans_in digest (multi h b pre ps t) = spans_of (digest_below digest h) ps
