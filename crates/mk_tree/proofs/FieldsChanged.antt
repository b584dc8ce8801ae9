-- A document where the fields of a section are changed, in bytes.
use Rattle.std.proofs.Common.{◌≡◌, ◌≤◌, ◌+◌, ◌-◌, ◌++◌, ℕ, false, Option, List, ap, sym, ◌∙◌, length, arith}
use Rattle.mk_line.specs.Lines.{TextLine}
use Rattle.std.specs.Option.{option_to_list}
use Rattle.mk_tree.specs.Tree.{Entity, print, field_lines, with_fields}
use Rattle.mk_tree.specs.Documents.{Document, IsStable, levels, printed}
use Rattle.mk_tree.specs.Spans.{size}
use Rattle.mk_tree.specs.Reading.{IsWellRead}
use Rattle.mk_tree.specs.Places.{Frame, plug, put, lines_before, lines_after}
use Rattle.mk_tree.specs.Splicing.{ChangesFields}
use Rattle.mk_splice.proofs.Bytes.{length-spliced}
use Rattle.mk_tree.proofs.WellRead.{well_of}
use Rattle.mk_tree.proofs.Plugs.{print_plug}
use Rattle.mk_tree.proofs.Stability.{stable_kept, parts_read}
use Rattle.mk_tree.proofs.Descent.{size_append}
use Rattle.mk_tree.proofs.Placed.{place_plug}
use Rattle.mk_tree.proofs.OwnFields.{size_entity, rest_same, fields_are}

-- what is stable is read back level by level
pub stable_well : (envelope : Option TextLine) (fs : List Frame) (e : Entity) → IsStable (put envelope fs e) → IsWellRead levels false (plug fs e)
stable_well envelope fs e h = well_of levels false (plug fs e) (parts_read envelope (print (plug fs e)) (plug fs e) (stable_kept (put envelope fs e) h).tree).1

pub size_put : (envelope : Option TextLine) (fs : List Frame) (e : Entity) → length (printed (put envelope fs e)) ≡ size (option_to_list envelope) + (size (lines_before fs) + (size (print e) + size (lines_after fs)))
size_put envelope fs e =
    omega (arith, size_append (option_to_list envelope) (print (plug fs e)), ap size (print_plug fs e), size_append (lines_before fs) (print e ++ lines_after fs), size_append (print e) (lines_after fs))

-- the document before, by what stands around the section
pub around_is : (t : Document) (path : List ℕ) (place count : ℕ) (new : List ℕ) (c : ChangesFields path place count new t) → put t.envelope c.around c.section ≡ t
around_is t path place count new c = λ i. record { envelope = t.envelope; root = place_plug c.numbers t.root c.around c.section c.found i }

-- what the change does to the lengths of the section's fields
pub record FieldSizes (path : List ℕ) (place count : ℕ) (new : List ℕ) (t : Document) (c : ChangesFields path place count new t) : Type 0 where
  pub count_fits : count ≤ size (field_lines c.section)
  pub within : place + count ≤ length (printed t)
  pub fields_size : size c.fields ≡ size (field_lines c.section) - count + length new

pub field_sizes : (t : Document) (path : List ℕ) (place count : ℕ) (new : List ℕ) (c : ChangesFields path place count new t) → FieldSizes path place count new t c
field_sizes t path place count new c =
    let before : length (printed t) ≡ size (option_to_list t.envelope) + (size (lines_before c.around) + (size (print c.section) + size (lines_after c.around))) =
    ap (λ d. length (printed d)) (sym (around_is t path place count new c)) ∙ size_put t.envelope c.around c.section in
    let start = size_append (option_to_list t.envelope) (lines_before c.around) in
    let whole = size_entity c.section in
    let fits : count ≤ size (field_lines c.section) = omega (arith, c.begins, c.ends) in
    let within : place + count ≤ length (printed t) = omega (arith, c.ends, start, whole, before) in
    let after = ap length c.printed_so ∙ size_put t.envelope c.around (with_fields c.fields c.section) in
    let changed = size_entity (with_fields c.fields c.section) in
    record {
      count_fits = fits;
      within = within;
      fields_size = omega (arith, fits, before, after, whole, changed, length-spliced place count new (printed t) within, rest_same c.fields c.section, ap size (fields_are c.fields c.section));
    }
