-- An accepted edit of fields changes the fields of its section.
use Rattle.std.proofs.Common.{◌≡◌, ℕ, List, ap, sym, ◌∙◌}
use Rattle.mk_tree.specs.Documents.{tree, printed}
use Rattle.mk_splice.specs.Splices.{spliced}
use Rattle.mk_tree.specs.Splicing.{ChangesFields}
use Rattle.mk_tree.proofs.Kept.{text_kept}
use Rattle.mk_decide.specs.Edits.{PlainEdit, AddField, RemoveField, RenameField, SetField, SetBody, SetSection, InsertPart, RemovePart, Wrap, path_of}
use Rattle.mk_decide.specs.LocalAnswers.{PlainSplice, IsDecided}

abbrev pub IsOfFields : PlainEdit → Type 0
IsOfFields (AddField path top text) = Unit {0}
IsOfFields (RemoveField path name k) = Unit {0}
IsOfFields (RenameField path name k to) = Unit {0}
IsOfFields (SetField path name k text) = Unit {0}
IsOfFields (SetBody path text) = ⊥
IsOfFields (SetSection path text) = ⊥
IsOfFields (InsertPart path place text) = ⊥
IsOfFields (RemovePart path) = ⊥
IsOfFields (Wrap path subtype boundary) = ⊥

fields_change : (e : PlainEdit) (x : List ℕ) (r : PlainSplice) → IsOfFields e → IsDecided e x r → ChangesFields (path_of e) r.place r.count r.new (tree x)
fields_change (AddField path top text) x r f d = d.changes
fields_change (RemoveField path name k) x r f d = d.changes
fields_change (RenameField path name k to) x r f d = d.changes
fields_change (SetField path name k text) x r f d = d.changes
fields_change (SetBody path text) x r f d = absurd f
fields_change (SetSection path text) x r f d = absurd f
fields_change (InsertPart path place text) x r f d = absurd f
fields_change (RemovePart path) x r f d = absurd f
fields_change (Wrap path subtype boundary) x r f d = absurd f

pub fields_made : (e : PlainEdit) (x : List ℕ) (r : PlainSplice) → IsOfFields e → (d : IsDecided e x r) → ChangesFields (path_of e) r.place r.count r.new (tree x) × (printed d.document ≡ spliced r.place r.count r.new (printed (tree x)))
fields_made e x r f d = (fields_change e x r f d, d.printed_so ∙ ap (spliced r.place r.count r.new) (sym (text_kept x)))
