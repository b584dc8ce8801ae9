-- The fields that a changed head is read as.
use Rattle.std.proofs.Common.{◌≡◌, ◌≤◌, ◌+◌, ◌-◌, ◌++◌, ℕ, Bool, true, false, Option, List, [], ◌∷◌, refl, ap, sym, ◌∙◌, subst, length, take, drop, arith, append_assoc}
use Rattle.std.proofs.lemmas.List.{take_at, drop_at, take-append-le, drop-append-le}
use Rattle.std.proofs.Math.Seq.{take-append-add, drop-append-add}
use Rattle.mk_line.specs.Lines.{TextLine, AreLines, text_of, cut}
use Rattle.mk_line.proofs.Cuts.{text_append, cut_text, lines_cut, lines_following}
use Rattle.mk_head.specs.Split.{fields_from}
use Rattle.std.specs.Option.{option_to_list}
use Rattle.mk_head.specs.Splits.{IsRun}
use Rattle.mk_tree.specs.Cutting.{tail_lines}
use Rattle.mk_tree.specs.Tree.{Entity, leaf, message, multi, print, print_parts, field_lines, entity_head, with_fields}
use Rattle.mk_tree.specs.Documents.{Document, levels, printed, document_lines}
use Rattle.mk_tree.specs.Spans.{size}
use Rattle.mk_tree.specs.Sections.{body_lines}
use Rattle.mk_tree.specs.Reading.{IsWellRead}
use Rattle.mk_tree.specs.Places.{Frame, put, left_at, default_at, lines_before, lines_after, placed}
use Rattle.mk_splice.specs.Splices.{spliced}
use Rattle.mk_tree.specs.Splicing.{ChangesFields}
use Rattle.mk_tree.proofs.Plugs.{print_plug, own_of}
use Rattle.mk_tree.proofs.Stability.{stable_kept}
use Rattle.mk_tree.proofs.Heads.{lines_front}
use Rattle.mk_tree.proofs.FieldsChanged.{stable_well, around_is, field_sizes}
use Rattle.mk_splice.proofs.Bytes.{length-spliced}

-- a run of fields is read as it is
run_again : (inside : Bool) (ls : List TextLine) → IsRun inside ls → fields_from inside ls ≡ ls
run_again inside [] h = refl
run_again inside (l ∷ ls) h = rw h.0 (ap (λ xs. l ∷ xs) (run_again true ls h.1))

-- what follows the fields in the lines of an entity
abbrev pub after_fields : Entity → List TextLine
after_fields e = option_to_list (entity_head e).separator ++ body_lines e

pub entity_lines : (e : Entity) → print e ≡ field_lines e ++ after_fields e
entity_lines (leaf h ls) = append_assoc h.fields (option_to_list h.separator) ls
entity_lines (message h e) = append_assoc h.fields (option_to_list h.separator) (print e)
entity_lines (multi h b pre ps t) = append_assoc h.fields (option_to_list h.separator) (pre ++ (print_parts ps ++ tail_lines t))

pub changed_lines : (fields : List TextLine) (e : Entity) → print (with_fields fields e) ≡ fields ++ after_fields e
changed_lines fields (leaf h ls) = append_assoc fields (option_to_list h.separator) ls
changed_lines fields (message h e) = append_assoc fields (option_to_list h.separator) (print e)
changed_lines fields (multi h b pre ps t) = append_assoc fields (option_to_list h.separator) (pre ++ (print_parts ps ++ tail_lines t))

-- all lines of a document, parted around the fields of a section
pub apart : (envelope : Option TextLine) (fs : List Frame) (e : Entity) (fields rest : List TextLine) → print e ≡ fields ++ rest
    → document_lines (put envelope fs e) ≡ (option_to_list envelope ++ lines_before fs) ++ (fields ++ (rest ++ lines_after fs))
apart envelope fs e fields rest p =
    ap (λ ls. option_to_list envelope ++ ls) (print_plug fs e)
    ∙ (ap (λ ls. option_to_list envelope ++ (lines_before fs ++ (ls ++ lines_after fs))) p
    ∙ (sym (append_assoc (option_to_list envelope) (lines_before fs) ((fields ++ rest) ++ lines_after fs))
    ∙ ap (λ ls. (option_to_list envelope ++ lines_before fs) ++ ls) (append_assoc fields rest (lines_after fs))))

pub text_apart : (xs ys zs : List TextLine) → text_of (xs ++ (ys ++ zs)) ≡ text_of xs ++ (text_of ys ++ text_of zs)
text_apart xs ys zs = text_append xs (ys ++ zs) ∙ ap (λ t. text_of xs ++ t) (text_append ys zs)

-- bytes put into the middle of three
pub spliced_middle : (a h x new : List ℕ) (place count : ℕ) → length a ≤ place → place + count ≤ length a + length h → spliced place count new (a ++ (h ++ x)) ≡ a ++ (spliced (place - length a) count new h ++ x)
spliced_middle a h x new place count b e =
    let from = place - length a in
    let front : take place (a ++ (h ++ x)) ≡ a ++ take from h =
    ap (λ k. take k (a ++ (h ++ x))) (omega (arith, b)) ∙ (take-append-add a (h ++ x) from ∙ ap (λ t. a ++ t) (take-append-le from h x (omega (arith, b, e)))) in
    let rest : drop (place + count) (a ++ (h ++ x)) ≡ drop (from + count) h ++ x =
    ap (λ k. drop k (a ++ (h ++ x))) (omega (arith, b)) ∙ (drop-append-add a (h ++ x) (from + count) ∙ drop-append-le (from + count) h x (omega (arith, b, e))) in
    ap (λ t. t ++ (new ++ drop (place + count) (a ++ (h ++ x)))) front
    ∙ (ap (λ t. (a ++ take from h) ++ (new ++ t)) rest ∙ simp append_assoc refl)

same_front : (y z x : List ℕ) → length y ≡ length z → y ++ x ≡ z ++ x → y ≡ z
same_front y z x l e = sym (take_at y x (length y) refl) ∙ (ap (take (length y)) e ∙ take_at z x (length y) (sym l))

same_after : (a y z : List ℕ) → a ++ y ≡ a ++ z → y ≡ z
same_after a y z e = sym (drop_at a y (length a) refl) ∙ (ap (drop (length a)) e ∙ drop_at a z (length a) refl)

-- the head's bytes after the change are those of the new fields
pub head_after : (t : Document) (path : List ℕ) (place count : ℕ) (new : List ℕ) (c : ChangesFields path place count new t)
    → spliced (place - (placed t.envelope c.around c.section).start) count new (text_of (field_lines c.section)) ≡ text_of c.fields
head_after t path place count new c =
    let front = option_to_list t.envelope ++ lines_before c.around in
    let h = text_of (field_lines c.section) in
    let rest = after_fields c.section ++ lines_after c.around in
    let before : printed t ≡ text_of front ++ (h ++ text_of rest) =
    ap printed (sym (around_is t path place count new c))
    ∙ (ap text_of (apart t.envelope c.around c.section (field_lines c.section) (after_fields c.section) (entity_lines c.section)) ∙ text_apart front (field_lines c.section) rest) in
    let after : printed (put t.envelope c.around (with_fields c.fields c.section)) ≡ text_of front ++ (text_of c.fields ++ text_of rest) =
    ap text_of (apart t.envelope c.around (with_fields c.fields c.section) c.fields (after_fields c.section) (changed_lines c.fields c.section)) ∙ text_apart front c.fields rest in
    let from = place - size front in
    let sizes = field_sizes t path place count new c in
    let same : spliced from count new h ++ text_of rest ≡ text_of c.fields ++ text_of rest =
    same_after (text_of front) (spliced from count new h ++ text_of rest) (text_of c.fields ++ text_of rest)
    (sym (spliced_middle (text_of front) h (text_of rest) new place count c.begins c.ends) ∙ (ap (spliced place count new) (sym before) ∙ (c.printed_so ∙ after))) in
    same_front (spliced from count new h) (text_of c.fields) (text_of rest)
    (omega (arith, length-spliced from count new h (omega (arith, c.begins, c.ends)), sizes.fields_size, sizes.count_fits)) same

head_run : (n : ℕ) (d : Bool) (fields : List TextLine) (e : Entity) → IsWellRead n d (with_fields fields e) → IsRun false fields
head_run n d fields (leaf h ls) w = w.0.run
head_run n d fields (message h e) w = w.0.run
head_run n d fields (multi h b pre ps t) w = w.0.run

-- the new fields are what the changed head is read as
pub fields_after : (t : Document) (path : List ℕ) (place count : ℕ) (new : List ℕ) (c : ChangesFields path place count new t)
    → fields_from false (cut (spliced (place - (placed t.envelope c.around c.section).start) count new (text_of (field_lines c.section)))) ≡ c.fields
fields_after t path place count new c =
    let u = put t.envelope c.around (with_fields c.fields c.section) in
    let front = option_to_list t.envelope ++ lines_before c.around in
    let rest = after_fields c.section ++ lines_after c.around in
    let lines : AreLines (front ++ (c.fields ++ rest)) =
    subst AreLines ((stable_kept u c.stable).lines ∙ apart t.envelope c.around (with_fields c.fields c.section) c.fields (after_fields c.section) (changed_lines c.fields c.section)) (lines_cut (printed u)) in
    let own : AreLines c.fields = lines_front c.fields rest (lines_following front (c.fields ++ rest) lines) in
    let run = head_run (left_at levels c.around) (default_at false c.around) c.fields c.section (own_of levels false c.around (with_fields c.fields c.section) (stable_well t.envelope c.around (with_fields c.fields c.section) c.stable)) in
    ap (λ x. fields_from false (cut x)) (head_after t path place count new c) ∙ (ap (fields_from false) (cut_text c.fields own) ∙ run_again false c.fields run)
