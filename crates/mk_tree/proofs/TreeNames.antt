-- Parts of entities and what stands around them, by names.
use Rattle.std.proofs.Common.{◌≡◌, Bool, Option, List, [], take}
use Rattle.std.specs.Prelude.{IfNone, is_some}
use Rattle.mk_line.specs.Lines.{TextLine}
use Rattle.mk_tree.specs.Tree.{Entity, print, entity_head}
use Rattle.mk_tree.specs.Locality.{open_head, Ends}

-- a close line is there
abbrev pub has_tail : Option (TextLine × List TextLine) → Bool
has_tail t = is_some t

-- an entity after the fields of a message: without a separator it has no head, and the fields end at its first line
abbrev pub Continues : List TextLine → Option TextLine → Entity → Type 0
Continues fields o e = IfNone o ((entity_head e ≡ open_head []) × Ends fields (take 1 (print e)))
