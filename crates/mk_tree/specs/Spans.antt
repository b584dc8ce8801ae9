-- What is kept of an entity beside the text: lengths in bytes, and no place (own).
use Rattle.std.specs.Prelude.{ℕ, Bool, false, Option, List, [], ◌∷◌, length}
use Rattle.std.specs.Option.{option_map, option_to_list}
use Rattle.mk_line.specs.Lines.{TextLine, text_of}
use Rattle.mk_head.specs.Split.{Head}
use Rattle.mk_tree.specs.Kinds.{kind, is_digest}
use Rattle.mk_tree.specs.Tree.{Entity, leaf, message, multi, Parts, no_parts, part, print}

-- how many bytes lines have
abbrev pub size : List TextLine → ℕ
size ls = length (text_of ls)

-- a multipart keeps its boundary, its parts' default, the length of its preamble, and those of its close line and epilogue
pub data Form : Type 0 where
  leaf_form : Form
  message_form : Form
  multi_form : (boundary : List ℕ) → (digest : Bool) → (preamble : ℕ) → (tail : Option (ℕ × ℕ)) → Form

mutual
  -- the lengths of the delimiter before an entity, of its fields, of its separator, of all its lines
  pub data Span : Type 0 where
    span : (delimiter fields separator whole : ℕ) → Form → Spans → Span

  pub data Spans : Type 0 where
    no_spans : Spans
    more_spans : Span → Spans → Spans

-- how many bytes a close line and an epilogue have
abbrev pub tail_sizes : Option (TextLine × List TextLine) → Option (ℕ × ℕ)
tail_sizes t = option_map (λ p. (size (p.0 ∷ []), size p.1)) t

-- whether a missing type means a message in the parts of an entity with these fields
abbrev pub digest_below : Bool → Head → Bool
digest_below digest h = is_digest (kind h.fields digest)

abbrev mutual
  -- of an entity after a delimiter of a length, in a digest or not
  pub span_of : Bool → ℕ → Entity → Span
  span_of digest delimiter (leaf h ls) =
      span delimiter (size h.fields) (size (option_to_list h.separator)) (size (print (leaf h ls))) leaf_form no_spans
  span_of digest delimiter (message h e) =
      span delimiter (size h.fields) (size (option_to_list h.separator)) (size (print (message h e))) message_form (more_spans (span_of false 0 e) no_spans)
  span_of digest delimiter (multi h b pre ps t) =
      span delimiter (size h.fields) (size (option_to_list h.separator)) (size (print (multi h b pre ps t))) (multi_form b (digest_below digest h) (size pre) (tail_sizes t)) (spans_of (digest_below digest h) ps)

  pub spans_of : Bool → Parts → Spans
  spans_of digest no_parts = no_spans
  spans_of digest (part l e ps) = more_spans (span_of digest (size (l ∷ [])) e) (spans_of digest ps)
