-- The fields of a section, found in its head, and the edits that are made for them.
use Rattle.std.proofs.Common.{◌≡◌, ◌++◌, if◌then◌else◌, ℕ, true, false, List, [], ◌∷◌, Some, filter, map, sym, ap, ◌∙◌, subst}
use Rattle.mk_line.specs.Lines.{cut}
use Rattle.mk_head.specs.Split.{fields_from}
use Rattle.mk_tree.specs.Documents.{tree}
use Rattle.mk_tree.specs.Sections.{Placed, head_text, section_at, section_fields}
use Rattle.mk_head.specs.Splits.{IsRun}
use Rattle.mk_tree.specs.Tree.{field_lines}
use Rattle.mk_decide.proofs.FieldPlaces.{run_all}
use Rattle.mk_decide.proofs.SectionSites.{head_cut, head_is_run, site}
use Rattle.mk_head.specs.Fields.{FieldText, fields_of, is_named, is_one_field}
use Rattle.mk_decide.specs.Edits.{PlainEdit, AddField, RemoveField}
use Rattle.mk_expand.specs.FieldWords.{dropped, fields_in, name_in, put, put_over}

-- the fields that stand in the head of a section are its fields
pub head_fields : (text path : List ℕ) (p : Placed) → section_at path (tree text) ≡ Some p → fields_of (fields_from false (cut (head_text p))) ≡ section_fields p
head_fields text path p found =
    let s = site text path p found in
    let lines = head_cut text path p s in
    ap (λ ls. fields_of (fields_from false ls)) lines ∙ ap fields_of (run_all false (field_lines p.entity) (subst (IsRun false) lines (head_is_run text path p s)))

-- edits that were made for fields of a name so far, and those for the fields that are left
abbrev pub put_on : (path name text : List ℕ) → List PlainEdit → List FieldText → List PlainEdit
put_on path name text [] fields = put_over path name text fields
put_on path name text (edit ∷ edits) fields = (edit ∷ edits) ++ map (λ f. RemoveField path name 2) fields

-- what is dropped is found in the head
pub dropped_told : (text path name head : List ℕ) (p : Placed) → section_at path (tree text) ≡ Some p → head ≡ head_text p
    → map (λ f. RemoveField path name 1) (filter (is_named name) (fields_in head)) ≡ dropped path name (section_at path (tree text))
dropped_told text path name head p found at =
    ap (λ h. map (λ f. RemoveField path name 1) (filter (is_named name) (fields_in h))) at
    ∙ (ap (λ fs. map (λ f. RemoveField path name 1) (filter (is_named name) fs)) (head_fields text path p found) ∙ sym (ap (dropped path name) found))

-- so is what a field is put over
pub put_told : (text path name head field : List ℕ) (p : Placed) → section_at path (tree text) ≡ Some p → head ≡ head_text p → name ≡ name_in field → is_one_field (cut field) ≡ true
    → put_over path name field (filter (is_named name) (fields_in head)) ≡ put path field (section_at path (tree text))
put_told text path name head field p found at named one =
    ap (λ n. put_over path n field (filter (is_named n) (fields_in head))) named
    ∙ (ap (λ h. put_over path (name_in field) field (filter (is_named (name_in field)) (fields_in h))) at
    ∙ (ap (λ fs. put_over path (name_in field) field (filter (is_named (name_in field)) fs)) (head_fields text path p found)
    ∙ sym (ap (put path field) found ∙ ap (λ b. if b then put_over path (name_in field) field (filter (is_named (name_in field)) (section_fields p)) else AddField path false field ∷ []) one)))
