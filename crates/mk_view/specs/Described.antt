-- What the header of a section says of its content, as it was read.
use Rattle.std.specs.Prelude.{◌≡◌, ℕ, List, Option, None, Some, codes}
use Rattle.mk_head.specs.Types.{field_value}
use Rattle.mk_head.specs.Values.{content_type_of}
use Rattle.mk_head.specs.ValueViews.{media_type_of}
use Rattle.mk_tree.specs.Sections.{Placed}
use Rattle.mk_tree.specs.Tree.{field_lines}
use Rattle.mk_view.specs.declared.described.Described.{Described}
use Rattle.mk_view.specs.declared.described.Disposition.{Disposition}
use Rattle.mk_view.specs.Listing.{type_of}

-- the value of a Content-Disposition field and its parameters, where there is one (RFC 2183, 2)
abbrev pub IsDisposition : Option Disposition → Option (List ℕ) → Type 0
IsDisposition None None = Unit {0}
IsDisposition None (Some value) = ⊥
IsDisposition (Some d) None = ⊥
IsDisposition (Some d) (Some value) = (d.value.items ≡ value) × (media_type_of d.parameters ≡ content_type_of value)

-- the content type and the disposition are those of a section
pub record IsDescribed (d : Described) (p : Placed) : Type 0 where
  pub media : media_type_of d.media ≡ type_of p
  pub disposition : IsDisposition d.disposition (field_value (codes "Content-Disposition") (field_lines p.entity))
