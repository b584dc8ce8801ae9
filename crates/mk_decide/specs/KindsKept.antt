-- Whether a section stays of its kind under new fields, and the parts directly below it do, as tests.
use Rattle.std.specs.Prelude.{◌+◌, if◌then◌else◌, ℕ, Bool, true, false, not, List, [], ◌∷◌, length, nat_lt}
use Rattle.std.specs.Str.{bytes_eq}
use Rattle.mk_line.specs.Lines.{TextLine, cut}
use Rattle.mk_head.specs.Split.{fields_from}
use Rattle.mk_tree.specs.Kinds.{Kind, Leaf, Message, Multi, kind}
use Rattle.mk_tree.specs.Tree.{Entity, leaf, message, multi}
use Rattle.mk_tree.specs.Documents.{levels}
use Rattle.mk_tree.specs.Sections.{Placed, children, head_text}

-- the fields at the start of a text
abbrev pub fields_in : List ℕ → List TextLine
fields_in text = fields_from false (cut text)

-- a leaf, a message, or a multipart of the same boundary
abbrev pub is_alike : Kind → Entity → Bool
is_alike Leaf (leaf h ls) = true
is_alike Leaf (message h e) = false
is_alike Leaf (multi h b pre ps t) = false
is_alike Message (leaf h ls) = false
is_alike Message (message h e) = true
is_alike Message (multi h b pre ps t) = false
is_alike (Multi c digest) (leaf h ls) = false
is_alike (Multi c digest) (message h e) = false
is_alike (Multi c digest) (multi h b pre ps t) = bytes_eq b c

-- a section stays of its kind under another default
abbrev pub keeps_kind : Bool → Placed → Bool
keeps_kind digest p = is_alike (kind (fields_in (head_text p)) digest) p.entity

-- whether a default is another
abbrev pub is_other : Bool → Bool → Bool
is_other old true = not old
is_other old false = old

-- a section stays of its kind under a default, its own or another
abbrev pub keeps_default : Bool → Placed → Bool
keeps_default digest p = if is_other p.digest digest then keeps_kind digest p else true

-- all of these do
abbrev pub all_keep : Bool → List Placed → Bool
all_keep digest [] = true
all_keep digest (p ∷ ps) = if keeps_default digest p then all_keep digest ps else false

-- how many lines of fields are looked at for it: none where the default is its own
abbrev pub looked_for : Bool → Placed → ℕ
looked_for digest p = if is_other p.digest digest then length (cut (head_text p)) else 0

-- for all of these
abbrev pub lines_of_others : Bool → List Placed → ℕ
lines_of_others digest [] = 0
lines_of_others digest (p ∷ ps) = looked_for digest p + lines_of_others digest ps

-- the parts do, where they aren't at a level where all are leaves
abbrev pub parts_keep : ℕ → Bool → Placed → Bool
parts_keep level digest p = if nat_lt levels level then true else all_keep digest (children p)

-- parts whose kind is said by a multipart's fields
abbrev pub kept_below : ℕ → Kind → Placed → Bool
kept_below level Leaf p = true
kept_below level Message p = true
kept_below level (Multi c digest) p = parts_keep level digest p

-- a section of this kind stays of it, and its parts of theirs
abbrev pub kept_as : ℕ → Kind → Placed → Bool
kept_as level k p = if is_alike k p.entity then kept_below (level + 1) k p else false

-- a section at a level stays of its kind under the fields of a head, and so do its parts
abbrev pub keeps_kinds : ℕ → List ℕ → Placed → Bool
keeps_kinds level head p = if nat_lt levels level then true else kept_as level (kind (fields_in head) p.digest) p

-- how many lines of the parts are looked at, by the kind that fields say
abbrev pub lines_below : Kind → Placed → ℕ
lines_below Leaf p = 0
lines_below Message p = 0
lines_below (Multi c digest) p = lines_of_others digest (children p)

-- the same, where the section stays of its kind
abbrev pub lines_alike : Kind → Placed → ℕ
lines_alike k p = if is_alike k p.entity then lines_below k p else 0

-- how many lines of the parts are looked at: none where the section changes its kind
abbrev pub looked_below : List ℕ → Placed → ℕ
looked_below head p = lines_alike (kind (fields_in head) p.digest) p
