-- What a section's text and its node show of its entity.
use Rattle.std.proofs.Common.{◌≡◌, ◌≤◌, ◌+◌, ◌-◌, ℕ, zero, suc, Bool, true, false, Option, None, Some, List, [], ◌∷◌, ◌++◌, refl, ap, sym, ◌∙◌, length, take, drop, map, arith, inl, inr, append_assoc}
use Rattle.mk_line.specs.Lines.{TextLine, cut, text_of}
use Rattle.std.proofs.lemmas.List.{take_at}
use Rattle.mk_line.proofs.Cuts.{text_append, text_cut, drop_lines}
use Rattle.std.proofs.lemmas.Bool.{cases_Bool}
use Rattle.mk_head.specs.Split.{Head, head_of, head_lines, after_head, belongs, fields_from}
use Rattle.std.specs.Option.{option_to_list}
use Rattle.mk_head.specs.Fields.{fields_of}
use Rattle.mk_tree.specs.Cutting.{tail_lines}
use Rattle.mk_tree.specs.Documents.{levels, tree}
use Rattle.mk_tree.specs.Kinds.{Kind, Leaf, Message, Multi, kind}
use Rattle.mk_tree.specs.Tree.{Entity, leaf, message, multi, read, print, print_parts, entity_head, entity_by}
use Rattle.mk_tree.specs.Spans.{Form, Span, span, Spans, no_spans, more_spans, size, tail_sizes, span_of}
use Rattle.mk_tree.specs.Nodes.{form_of, spans_with, span_step, node_span}
use Rattle.mk_tree.specs.Forms.{kind_in, form_kind, form_boundary, form_preamble, epilogue_size, form_epilogue, form_in, spans_in}
use Rattle.mk_tree.specs.Sections.{body_lines, body_text, unended, content_text, preamble_lines, epilogue_lines, boundary_in, root_of, section_fields}
use Rattle.mk_tree.specs.Layouts.{delimiter_of, placed_over, IsNodeOver}
use Rattle.mk_tree.specs.declared.node.Node.{Node}
use Rattle.mk_tree.specs.declared.node.Node.TheViews.{out-Node}
use Rattle.mk_tree.specs.declared.node.Node.TheFolds.{fold_out-Node}
use Rattle.mk_tree.proofs.Kept.{print_read}
use Rattle.mk_tree.proofs.Descent.{size_append, size_cut}
use Rattle.mk_tree.proofs.Slices.{front_within, front_text, front_cut, after_cut}

abbrev pub span_list : Spans → List Span
span_list no_spans = []
span_list (more_spans s ss) = s ∷ span_list ss

pub list_of_spans : (ss : List Span) → span_list (spans_with ss no_spans) ≡ ss
list_of_spans [] = refl
list_of_spans (s ∷ ss) = ap (λ xs. s ∷ xs) (list_of_spans ss)

-- the parts of a span
abbrev fields_part : Span → ℕ
fields_part (span delimiter fields separator whole form spans) = fields

abbrev separator_part : Span → ℕ
separator_part (span delimiter fields separator whole form spans) = separator

abbrev form_part : Span → Form
form_part (span delimiter fields separator whole form spans) = form

abbrev spans_part : Span → List Span
spans_part (span delimiter fields separator whole form spans) = span_list spans

fields_span : (d : Bool) (n : ℕ) (e : Entity) → fields_part (span_of d n e) ≡ size (entity_head e).fields
fields_span d n (leaf h ls) = refl
fields_span d n (message h e) = refl
fields_span d n (multi h b pre ps t) = refl

separator_span : (d : Bool) (n : ℕ) (e : Entity) → separator_part (span_of d n e) ≡ size (option_to_list (entity_head e).separator)
separator_span d n (leaf h ls) = refl
separator_span d n (message h e) = refl
separator_span d n (multi h b pre ps t) = refl

form_span : (d : Bool) (n : ℕ) (e : Entity) → form_part (span_of d n e) ≡ form_in d e
form_span d n (leaf h ls) = refl
form_span d n (message h e) = refl
form_span d n (multi h b pre ps t) = refl

spans_span : (d : Bool) (n : ℕ) (e : Entity) → spans_part (span_of d n e) ≡ span_list (spans_in d e)
spans_span d n (leaf h ls) = refl
spans_span d n (message h e) = refl
spans_span d n (multi h b pre ps t) = refl

-- what a node keeps of an entity, field by field
pub record Keeps (node : Node) (digest : Bool) (e : Entity) : Type 0 where
  pub fields : (out-Node node).fields ≡ size (entity_head e).fields
  pub separator : (out-Node node).separator ≡ size (option_to_list (entity_head e).separator)
  pub form : form_of (out-Node node).shape ≡ form_in digest e
  pub spans : map node_span (out-Node node).parts.items ≡ span_list (spans_in digest e)

abbrev pub opened : Node → Span
opened node = span (out-Node node).delimiter (out-Node node).fields (out-Node node).separator (out-Node node).size (form_of (out-Node node).shape) (spans_with (map node_span (out-Node node).parts.items) no_spans)

pub opens : (node : Node) → node_span node ≡ opened node
opens node = fold_out-Node Span span_step node

pub keeps : (node : Node) (digest : Bool) (n : ℕ) (e : Entity) → node_span node ≡ span_of digest n e → Keeps node digest e
keeps node digest n e h =
    let p : opened node ≡ span_of digest n e = sym (opens node) ∙ h in
    record {
      fields = ap fields_part p ∙ fields_span digest n e;
      separator = ap separator_part p ∙ separator_span digest n e;
      form = ap form_part p ∙ form_span digest n e;
      spans = sym (list_of_spans (map node_span (out-Node node).parts.items)) ∙ (ap spans_part p ∙ spans_span digest n e);
    }

-- the node of a section keeps what its text is read as
pub section_keeps : (node : Node) (raw : List ℕ) (start : ℕ) (digest : Bool) (left : ℕ) → IsNodeOver node raw start digest left → Keeps node digest (read left digest (cut raw))
section_keeps node raw start digest left h = keeps node digest (delimiter_of (node_span node)) (read left digest (cut raw)) h.lengths

-- the lines of an entity: its fields, its separator, its body
pub print_apart : (e : Entity) → print e ≡ (entity_head e).fields ++ (option_to_list (entity_head e).separator ++ body_lines e)
print_apart (leaf h ls) = append_assoc h.fields (option_to_list h.separator) ls
print_apart (message h e) = append_assoc h.fields (option_to_list h.separator) (print e)
print_apart (multi h b pre ps t) = append_assoc h.fields (option_to_list h.separator) (pre ++ (print_parts ps ++ tail_lines t))

pub raw_lines : (raw : List ℕ) (left : ℕ) (digest : Bool) → cut raw ≡ print (read left digest (cut raw))
raw_lines raw left digest = sym (print_read left digest (cut raw))

abbrev fields_in : Entity → List TextLine
fields_in e = (entity_head e).fields

abbrev separator_in : Entity → List TextLine
separator_in e = option_to_list (entity_head e).separator

pub raw_apart : (raw : List ℕ) (left : ℕ) (digest : Bool) → cut raw ≡ fields_in (read left digest (cut raw)) ++ (separator_in (read left digest (cut raw)) ++ body_lines (read left digest (cut raw)))
raw_apart raw left digest = raw_lines raw left digest ∙ print_apart (read left digest (cut raw))

-- the same with the lines of the head together
pub raw_head : (raw : List ℕ) (left : ℕ) (digest : Bool) → cut raw ≡ head_lines (entity_head (read left digest (cut raw))) ++ body_lines (read left digest (cut raw))
raw_head raw left digest =
    raw_apart raw left digest
    ∙ sym (append_assoc (fields_in (read left digest (cut raw))) (separator_in (read left digest (cut raw))) (body_lines (read left digest (cut raw))))

pub head_size : (h : Head) → size (head_lines h) ≡ size h.fields + size (option_to_list h.separator)
head_size h = size_append h.fields (option_to_list h.separator)

-- the slices of a section
pub raw_is : (raw : List ℕ) (left : ℕ) (digest : Bool) → raw ≡ text_of (print (read left digest (cut raw)))
raw_is raw left digest = sym (ap text_of (print_read left digest (cut raw)) ∙ text_cut raw)

pub fields_within : (raw : List ℕ) (left : ℕ) (digest : Bool) → size (fields_in (read left digest (cut raw))) ≤ length raw
fields_within raw left digest =
    front_within raw (fields_in (read left digest (cut raw))) (separator_in (read left digest (cut raw)) ++ body_lines (read left digest (cut raw))) (raw_apart raw left digest)

pub head_is : (raw : List ℕ) (left : ℕ) (digest : Bool) (n : ℕ) → n ≡ size (fields_in (read left digest (cut raw))) → take n raw ≡ text_of (fields_in (read left digest (cut raw)))
head_is raw left digest n e =
    ap (λ k. take k raw) e ∙ front_text raw (fields_in (read left digest (cut raw))) (separator_in (read left digest (cut raw)) ++ body_lines (read left digest (cut raw))) (raw_apart raw left digest)

-- the first line of a text is in its head where the text has one; so the lines of a head are cut again into them
pub head_cut : (raw : List ℕ) (left : ℕ) (digest : Bool) → cut (text_of (fields_in (read left digest (cut raw)))) ≡ fields_in (read left digest (cut raw))
head_cut raw left digest =
    front_cut raw (fields_in (read left digest (cut raw))) (separator_in (read left digest (cut raw)) ++ body_lines (read left digest (cut raw))) (raw_apart raw left digest)

pub front_fits : (raw : List ℕ) (left : ℕ) (digest : Bool) (n m : ℕ) → n ≡ size (fields_in (read left digest (cut raw))) → m ≡ size (separator_in (read left digest (cut raw))) → n + m ≤ length raw
front_fits raw left digest n m p q =
    let h = front_within raw (head_lines (entity_head (read left digest (cut raw)))) (body_lines (read left digest (cut raw))) (raw_head raw left digest) in
    omega (arith, h, p, q, head_size (entity_head (read left digest (cut raw))))

pub body_is : (raw : List ℕ) (left : ℕ) (digest : Bool) (n m : ℕ) → n ≡ size (fields_in (read left digest (cut raw))) → m ≡ size (separator_in (read left digest (cut raw)))
    → drop (n + m) raw ≡ text_of (body_lines (read left digest (cut raw)))
body_is raw left digest n m p q =
    let same : n + m ≡ size (head_lines (entity_head (read left digest (cut raw)))) = omega (arith, p, q, head_size (entity_head (read left digest (cut raw)))) in
    ap (λ k. drop k raw) same ∙ drop_lines raw (head_lines (entity_head (read left digest (cut raw)))) (body_lines (read left digest (cut raw))) (raw_head raw left digest)

pub body_cut : (raw : List ℕ) (left : ℕ) (digest : Bool) → cut (text_of (body_lines (read left digest (cut raw)))) ≡ body_lines (read left digest (cut raw))
body_cut raw left digest = after_cut raw (head_lines (entity_head (read left digest (cut raw)))) (body_lines (read left digest (cut raw))) (raw_head raw left digest)

-- the content of a section that lines follow, and of one after which none stand
pub content_ended : (raw : List ℕ) (start : ℕ) (followed digest : Bool) (left : ℕ) → followed ≡ true → text_of (unended (cut (body_text (placed_over raw start followed digest left)))) ≡ content_text (placed_over raw start followed digest left)
content_ended raw start true digest left e = ap (λ ls. text_of (unended ls)) (body_cut raw left digest)
content_ended raw start false digest left e = cc

pub content_whole : (raw : List ℕ) (start : ℕ) (followed digest : Bool) (left : ℕ) → followed ≡ false → body_text (placed_over raw start followed digest left) ≡ content_text (placed_over raw start followed digest left)
content_whole raw start true digest left e = cc
content_whole raw start false digest left e = refl

-- what the form of an entity says of its lines
pub preamble_size : (digest : Bool) (e : Entity) → form_preamble (form_in digest e) ≡ size (preamble_lines e)
preamble_size digest (leaf h ls) = refl
preamble_size digest (message h e) = refl
preamble_size digest (multi h b pre ps t) = refl

epilogue_sizes : (t : Option (TextLine × List TextLine)) → epilogue_size (tail_sizes t) ≡ size (drop 1 (tail_lines t))
epilogue_sizes None = refl
epilogue_sizes (Some t) = refl

pub epilogue_sized : (digest : Bool) (e : Entity) → form_epilogue (form_in digest e) ≡ size (epilogue_lines e)
epilogue_sized digest (leaf h ls) = refl
epilogue_sized digest (message h e) = refl
epilogue_sized digest (multi h b pre ps t) = epilogue_sizes t

pub kind_is : (digest : Bool) (e : Entity) → form_kind (form_in digest e) ≡ kind_in e
kind_is digest (leaf h ls) = refl
kind_is digest (message h e) = refl
kind_is digest (multi h b pre ps t) = refl

pub boundary_is : (digest : Bool) (e : Entity) → form_boundary (form_in digest e) ≡ boundary_in e
boundary_is digest (leaf h ls) = refl
boundary_is digest (message h e) = refl
boundary_is digest (multi h b pre ps t) = refl

abbrev pub after_preamble : Entity → List TextLine
after_preamble (leaf h ls) = ls
after_preamble (message h e) = print e
after_preamble (multi h b pre ps t) = print_parts ps ++ tail_lines t

-- the body begins with the preamble, and the whole ends with the epilogue
pub body_front : (e : Entity) → body_lines e ≡ preamble_lines e ++ after_preamble e
body_front (leaf h ls) = refl
body_front (message h e) = refl
body_front (multi h b pre ps t) = refl

pub preamble_within : (raw : List ℕ) (left : ℕ) (digest : Bool) → size (preamble_lines (read left digest (cut raw))) ≤ length (text_of (body_lines (read left digest (cut raw))))
preamble_within raw left digest =
    let h : size (body_lines (read left digest (cut raw))) ≡ size (preamble_lines (read left digest (cut raw)) ++ after_preamble (read left digest (cut raw))) = ap size (body_front (read left digest (cut raw))) in
    omega (arith, h, size_append (preamble_lines (read left digest (cut raw))) (after_preamble (read left digest (cut raw))))

pub preamble_is : (e : Entity) → take (size (preamble_lines e)) (text_of (body_lines e)) ≡ text_of (preamble_lines e)
preamble_is e =
    ap (take (size (preamble_lines e))) (ap text_of (body_front e) ∙ text_append (preamble_lines e) (after_preamble e))
    ∙ take_at (text_of (preamble_lines e)) (text_of (after_preamble e)) (size (preamble_lines e)) refl

append_end : (xs : List TextLine) → xs ++ [] ≡ xs
append_end [] = refl
append_end (x ∷ xs) = ap (λ ys. x ∷ ys) (append_end xs)

abbrev close_lines : Option (TextLine × List TextLine) → List TextLine
close_lines None = []
close_lines (Some t) = t.0 ∷ []

tail_end : (t : Option (TextLine × List TextLine)) → tail_lines t ≡ close_lines t ++ drop 1 (tail_lines t)
tail_end None = refl
tail_end (Some t) = refl

abbrev before_epilogue : Entity → List TextLine
before_epilogue (leaf h ls) = head_lines h ++ ls
before_epilogue (message h e) = head_lines h ++ print e
before_epilogue (multi h b pre ps t) = head_lines h ++ (pre ++ (print_parts ps ++ close_lines t))

regroup : (us vs xs ys zs : List TextLine) → us ++ (vs ++ (xs ++ (ys ++ zs))) ≡ (us ++ (vs ++ (xs ++ ys))) ++ zs
regroup us vs xs ys zs = simp append_assoc

epilogue_end : (e : Entity) → print e ≡ before_epilogue e ++ epilogue_lines e
epilogue_end (leaf h ls) = sym (append_end (head_lines h ++ ls))
epilogue_end (message h e) = sym (append_end (head_lines h ++ print e))
epilogue_end (multi h b pre ps t) = ap (λ xs. head_lines h ++ (pre ++ (print_parts ps ++ xs))) (tail_end t) ∙ regroup (head_lines h) pre (print_parts ps) (close_lines t) (drop 1 (tail_lines t))

raw_end : (raw : List ℕ) (left : ℕ) (digest : Bool) → cut raw ≡ before_epilogue (read left digest (cut raw)) ++ epilogue_lines (read left digest (cut raw))
raw_end raw left digest = raw_lines raw left digest ∙ epilogue_end (read left digest (cut raw))

raw_sizes : (raw : List ℕ) (left : ℕ) (digest : Bool) → length raw ≡ size (before_epilogue (read left digest (cut raw))) + size (epilogue_lines (read left digest (cut raw)))
raw_sizes raw left digest = sym (size_cut raw) ∙ (ap size (raw_end raw left digest) ∙ size_append (before_epilogue (read left digest (cut raw))) (epilogue_lines (read left digest (cut raw))))

pub epilogue_within : (raw : List ℕ) (left : ℕ) (digest : Bool) → size (epilogue_lines (read left digest (cut raw))) ≤ length raw
epilogue_within raw left digest = omega (arith, raw_sizes raw left digest)

pub epilogue_is : (raw : List ℕ) (left : ℕ) (digest : Bool) (n : ℕ) → n ≡ size (epilogue_lines (read left digest (cut raw))) → drop (length raw - n) raw ≡ text_of (epilogue_lines (read left digest (cut raw)))
epilogue_is raw left digest n p =
    let same : length raw - n ≡ size (before_epilogue (read left digest (cut raw))) = omega (arith, p, raw_sizes raw left digest) in
    ap (λ k. drop k raw) same ∙ drop_lines raw (before_epilogue (read left digest (cut raw))) (epilogue_lines (read left digest (cut raw))) (raw_end raw left digest)

-- the fields of what was read: the lines of a head are read again as that head's fields
head_by : (f : Bool → List TextLine → Entity) (k : Kind) (h : Head) (ls : List TextLine) → entity_head (entity_by f k h ls) ≡ h
head_by f Leaf h ls = refl
head_by f Message h ls = refl
head_by f (Multi b digest) h ls = refl

pub head_read : (left : ℕ) (digest : Bool) (ls : List TextLine) → entity_head (read left digest ls) ≡ head_of ls
head_read zero digest ls = refl
head_read (suc n) digest ls = head_by (read n) (kind (head_of ls).fields digest) (head_of ls) (after_head ls)

-- the fields of a root are those that its lines begin with
pub root_fields : (text rest : List ℕ) → (tree text).root ≡ read levels false (cut rest) → fields_of (fields_from false (cut rest)) ≡ section_fields (root_of (tree text))
root_fields text rest e = sym (ap (λ root. fields_of (entity_head root).fields) e ∙ ap (λ h. fields_of h.fields) (head_read levels false (cut rest)))

run_again : (inside : Bool) (ls : List TextLine) → fields_from inside (fields_from inside ls) ≡ fields_from inside ls
run_again inside [] = refl
run_again inside (l ∷ ls) =
    elim (cases_Bool (belongs inside l)) [
      | inl h ↦ rw h (rw h (ap (λ xs. l ∷ xs) (run_again true ls)))
      | inr h ↦ rw h refl
    ]

-- the lines of a head are read again as its fields
pub fields_again : (raw : List ℕ) (digest : Bool) (left n : ℕ) → n ≡ size (fields_in (read left digest (cut raw)))
    → fields_from false (cut (take n raw)) ≡ fields_in (read left digest (cut raw))
fields_again raw digest left n e =
    let again : fields_from false (fields_in (read left digest (cut raw))) ≡ fields_in (read left digest (cut raw)) =
    ap (λ (h : Head). fields_from false h.fields) (head_read left digest (cut raw)) ∙ (run_again false (cut raw) ∙ sym (ap (λ (h : Head). h.fields) (head_read left digest (cut raw)))) in
    ap (λ xs. fields_from false (cut xs)) (head_is raw left digest n e) ∙ (ap (fields_from false) (head_cut raw left digest) ∙ again)

pub fields_are : (raw : List ℕ) (start : ℕ) (followed digest : Bool) (left n : ℕ) → n ≡ size (fields_in (read left digest (cut raw)))
    → fields_of (fields_from false (cut (take n raw))) ≡ section_fields (placed_over raw start followed digest left)
fields_are raw start followed digest left n e = ap fields_of (fields_again raw digest left n e)

-- where its body begins, and where it ends
pub body_place : (raw : List ℕ) (start : ℕ) (left : ℕ) (digest : Bool) (n m : ℕ) → n ≡ size (fields_in (read left digest (cut raw))) → m ≡ size (separator_in (read left digest (cut raw)))
    → n + m + start ≡ start + size (head_lines (entity_head (read left digest (cut raw))))
body_place raw start left digest n m p q = omega (arith, p, q, head_size (entity_head (read left digest (cut raw))))
