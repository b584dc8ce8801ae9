-- The names of fields that letters go by are those of the document (own).
use Rattle.std.specs.Prelude.{ℕ, List, map}
use Rattle.mk_tree.specs.Sections.{Placed, section_fields}

-- the names of the fields of a section, as they are spelt
abbrev pub own_names : Placed → List (List ℕ)
own_names p = map (λ f. f.name) (section_fields p)
