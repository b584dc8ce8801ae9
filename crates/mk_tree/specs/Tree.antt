-- Entities: a head, and a body by its kind (RFC 2045, 2.4; RFC 2046, 5.1 and 5.2.1).
use Rattle.std.specs.Prelude.{ℕ, zero, suc, Bool, false, Option, List, [], ◌∷◌, ◌++◌}
use Rattle.mk_line.specs.Lines.{TextLine}
use Rattle.mk_head.specs.Split.{Head, head_of, head_lines, after_head}
use Rattle.mk_tree.specs.Cutting.{cut_by, tail_lines}
use Rattle.mk_tree.specs.Kinds.{Kind, Leaf, Message, Multi, kind_at}

mutual
  -- a leaf has lines, a message an entity, a multipart its boundary, preamble, parts, close line and epilogue
  pub data Entity : Type 0 where
    leaf : Head → List TextLine → Entity
    message : Head → Entity → Entity
    multi : Head → (boundary : List ℕ) → (preamble : List TextLine) → Parts → (tail : Option (TextLine × List TextLine)) → Entity

  -- a part is its delimiter and an entity
  pub data Parts : Type 0 where
    no_parts : Parts
    part : TextLine → Entity → Parts → Parts

-- parts by a function that reads one
abbrev pub parts_by : (List TextLine → Entity) → List (TextLine × List TextLine) → Parts
parts_by f [] = no_parts
parts_by f (p ∷ ps) = part p.0 (f p.1) (parts_by f ps)

-- an entity of a kind, where a function reads what lies one level deeper
abbrev pub entity_by : (Bool → List TextLine → Entity) → Kind → Head → List TextLine → Entity
entity_by f Leaf h ls = leaf h ls
entity_by f Message h ls = message h (f false ls)
entity_by f (Multi b digest) h ls = let c = cut_by b ls in multi h b c.preamble (parts_by (f digest) c.parts) c.tail

-- the entity that lines are read as, below which so many levels may stand, in a digest or not
abbrev pub read : ℕ → Bool → List TextLine → Entity
read zero digest ls = leaf (head_of ls) (after_head ls)
read (suc left) digest ls = entity_by (read left) (kind_at (suc left) (head_of ls).fields digest) (head_of ls) (after_head ls)

abbrev mutual
  -- all lines of an entity, in order
  pub print : Entity → List TextLine
  print (leaf h ls) = head_lines h ++ ls
  print (message h e) = head_lines h ++ print e
  print (multi h b pre ps t) = head_lines h ++ (pre ++ (print_parts ps ++ tail_lines t))

  pub print_parts : Parts → List TextLine
  print_parts no_parts = []
  print_parts (part l e ps) = l ∷ (print e ++ print_parts ps)

-- the fields and the separator of an entity
abbrev pub entity_head : Entity → Head
entity_head (leaf h ls) = h
entity_head (message h e) = h
entity_head (multi h b pre ps t) = h

-- the lines of its fields
abbrev pub field_lines : Entity → List TextLine
field_lines e = (entity_head e).fields

-- the same entity with other fields
abbrev pub with_fields : List TextLine → Entity → Entity
with_fields fields (leaf h ls) = leaf (record { fields = fields; separator = h.separator }) ls
with_fields fields (message h e) = message (record { fields = fields; separator = h.separator }) e
with_fields fields (multi h b pre ps t) = multi (record { fields = fields; separator = h.separator }) b pre ps t
