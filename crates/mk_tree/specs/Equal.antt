-- Equality of documents as a test.
use Rattle.std.specs.Prelude.{◌&&◌, Bool, true, false}
use Rattle.std.specs.Option.{option_to_list}
use Rattle.std.specs.Cmp.Lexicographic.{pointwise}
use Rattle.std.specs.Str.{bytes_eq}
use Rattle.mk_line.specs.Lines.{TextLine, ending_bytes}
use Rattle.mk_head.specs.Split.{Head}
use Rattle.mk_tree.specs.Cutting.{tail_lines}
use Rattle.mk_tree.specs.Tree.{Entity, leaf, message, multi, Parts, no_parts, part}
use Rattle.mk_tree.specs.Documents.{Document, tree, printed}

-- two lines are one: their contents and endings are
abbrev pub line_eq : TextLine → TextLine → Bool
line_eq l m = bytes_eq l.content m.content && bytes_eq (ending_bytes l.ending) (ending_bytes m.ending)

-- two heads are one: their fields and separators are
abbrev pub head_eq : Head → Head → Bool
head_eq h k = pointwise line_eq h.fields k.fields && pointwise line_eq (option_to_list h.separator) (option_to_list k.separator)

abbrev mutual
  -- two entities are one: they are of one kind, and what they are made of is the same
  pub entity_eq : Entity → Entity → Bool
  entity_eq (leaf h ls) (leaf k ms) = head_eq h k && pointwise line_eq ls ms
  entity_eq (leaf h ls) (message k f) = false
  entity_eq (leaf h ls) (multi k c qre qs u) = false
  entity_eq (message h e) (leaf k ms) = false
  entity_eq (message h e) (message k f) = head_eq h k && entity_eq e f
  entity_eq (message h e) (multi k c qre qs u) = false
  entity_eq (multi h b pre ps t) (leaf k ms) = false
  entity_eq (multi h b pre ps t) (message k f) = false
  entity_eq (multi h b pre ps t) (multi k c qre qs u) = head_eq h k && (bytes_eq b c && (pointwise line_eq pre qre && (parts_eq ps qs && pointwise line_eq (tail_lines t) (tail_lines u))))

  pub parts_eq : Parts → Parts → Bool
  parts_eq no_parts no_parts = true
  parts_eq no_parts (part m f qs) = false
  parts_eq (part l e ps) no_parts = false
  parts_eq (part l e ps) (part m f qs) = line_eq l m && (entity_eq e f && parts_eq ps qs)

-- whether a document's text is read as the document
unfoldable pub is_stable : Document → Bool
is_stable t = let u = tree (printed t) in pointwise line_eq (option_to_list u.envelope) (option_to_list t.envelope) && entity_eq u.root t.root
