-- What a caller that walks a listing promises (own).
use Rattle.std.specs.Prelude.{ℕ, List, [], ◌∷◌}
use Rattle.mk_tree.specs.Documents.{Document}
use Rattle.mk_tree.specs.Sections.{section_at}
use Rattle.mk_view.specs.declared.extracting.ExtractError.{ExtractError}
use Rattle.mk_view.specs.Extracts.{IsExtract, IsExtractRefused}
use Rattle.mk_view.specs.FileNames.{Named}
use Rattle.mk_uses.specs.declared.listings.Attachment.{Attachment}

-- an attachment as its path and its name
abbrev pub path_and_name : Attachment → Named
path_and_name a = (a.path.items, a.name.items)

-- each attachment is the content of the section at its path
abbrev pub AreContents : Document → List Attachment → Type 0
AreContents t [] = Unit {0}
AreContents t (a ∷ others) = IsExtract (section_at a.path.items t) a.content.items × AreContents t others

-- an error is the reason why some section has no content
abbrev pub IsRefusedSomewhere : Document → ExtractError → Type 0
IsRefusedSomewhere t error = (path : List ℕ) × IsExtractRefused (section_at path t) error
