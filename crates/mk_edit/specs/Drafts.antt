-- A document that edits are made in, as its text.
use Rattle.std.specs.Prelude.{ℕ, List}
use Rattle.mk_edit.specs.declared.drafts.Draft.{Draft}
use Rattle.mk_edit.specs.declared.drafts.Draft.TheVariants.{Read, Fields}

-- its text
abbrev pub text_in : Draft → List ℕ
text_in (Read doc) = doc
text_in (Fields fields) = fields
