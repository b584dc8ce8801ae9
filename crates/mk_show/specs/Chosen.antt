-- Which leaves are unpacked: all that are stored, or those at and below the sections at some paths (own).
use Rattle.mk_script.specs.ScriptViews.{items_of}
use Rattle.std.specs.Prelude.{◌≡◌, if◌then◌else◌, ℕ, Bool, nat_eq, is_none, List, [], Option, None, Some}
use Rattle.std.specs.List.{filter, flat_map, list_any, starts_with}
use Rattle.std.specs.Option.{option_map}
use Rattle.mk_tree.specs.Documents.{Document}
use Rattle.mk_tree.specs.Sections.{section_at}
use Rattle.mk_view.specs.declared.extracting.ExtractError.TheVariants.{NoSuchSection}
use Rattle.mk_view.specs.declared.storing.Storing.{Storing}
use Rattle.mk_view.specs.FileNames.{Named}
use Rattle.mk_show.specs.declared.unpacking.Manner.{Manner}
use Rattle.mk_show.specs.declared.unpacking.UnpackOptions.{UnpackOptions}
use Rattle.mk_show.specs.Shown.{extract_line}
use Rattle.mk_show.specs.Unpacking.{AreLeaves}

-- what is asked of a run: how files are put, which sections are stored and how they are named, whether what decodes of a content that
-- was cut off is stored, and the paths of the sections whose leaves are stored, where not all are
pub record Asked : Type 0 where
  pub manner : Manner
  pub storing : Storing
  pub prefix : Bool
  pub sections : Option (List (List ℕ))

-- one of the sections is at a path, or above it
abbrev pub is_within : List (List ℕ) → List ℕ → Bool
is_within sections path = list_any (λ section. starts_with nat_eq path section) sections

-- the leaves at and below the sections at some paths, in their order and under their names
abbrev pub within : List (List ℕ) → List Named → List Named
within sections leaves = filter (λ leaf. is_within sections leaf.0) leaves

-- the leaves of a document that are asked for
abbrev pub AreWithin : Option (List (List ℕ)) → Storing → Document → List Named → Type 0
AreWithin None storing t leaves = AreLeaves storing t leaves
AreWithin (Some sections) storing t leaves = (all : List Named) × AreLeaves storing t all × (leaves ≡ within sections all)

-- the same for all that is asked
abbrev pub AreAsked : Asked → Document → List Named → Type 0
AreAsked asked t leaves = AreWithin asked.sections asked.storing t leaves

-- the line that reports a path that leads to no section; nothing for one that leads to a section
abbrev pub missing_line : Document → List ℕ → List ℕ
missing_line t path = if is_none (section_at path t) then extract_line path NoSuchSection else []

-- those lines for the paths of the sections that are asked for, in their order
abbrev pub missing_lines : Document → Option (List (List ℕ)) → List ℕ
missing_lines t None = []
missing_lines t (Some sections) = flat_map (missing_line t) sections

-- what the options ask for
abbrev pub asked_of : UnpackOptions → Asked
asked_of o = record { manner = o.manner; storing = o.storing; prefix = o.prefix; sections = option_map (λ paths. items_of paths.now) o.sections }
