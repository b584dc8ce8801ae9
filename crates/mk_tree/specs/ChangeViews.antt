-- A change in memory as what it does.
use Rattle.std.specs.Prelude.{◌≡◌, ℕ, List}
use Rattle.mk_tree.specs.declared.splicing.Change.{Change}
use Rattle.mk_tree.specs.declared.splicing.Change.TheVariants as change
use Rattle.mk_tree.specs.Documents.{Document, printed}
use Rattle.mk_splice.specs.Splices.{spliced}
use Rattle.mk_tree.specs.Splicing.{ChangesFields, SectionBecomes, HasBody, HasText, HasPart, PartGoes}

-- a change of the section at a path leads from a document to another, which is stable
abbrev pub ChangesTo : List ℕ → Change → Document → Document → Type 0
ChangesTo path (change.Header place count text) t u = ChangesFields path place count text.items t × (printed u ≡ spliced place count text.items (printed t))
ChangesTo path (change.Body text) t u = SectionBecomes path (HasBody text.items) t u
ChangesTo path (change.Entity text) t u = SectionBecomes path (HasText text.items) t u
ChangesTo path (change.Part place text) t u = SectionBecomes path (HasPart place text.items) t u
ChangesTo path change.NoPart t u = PartGoes path t u
