-- The lengths of an entity with other fields.
use Rattle.std.proofs.Common.{◌≡◌, ◌≤◌, ◌+◌, ◌-◌, ◌++◌, ◌&&◌, if◌then◌else◌, ℕ, zero, suc, Bool, true, false, Option, None, Some, List, [], ◌∷◌, refl, ap, sym, ◌∙◌, subst, arith, codes}
use Rattle.mk_line.specs.Lines.{TextLine}
use Rattle.mk_head.specs.declared.encodings.Encoding.{Encoding}
use Rattle.mk_head.specs.Split.{head_lines}
use Rattle.std.specs.Option.{option_to_list}
use Rattle.mk_head.specs.Types.{field_value, type_by, header_encoding}
use Rattle.mk_tree.specs.Cutting.{tail_lines}
use Rattle.mk_tree.specs.Kinds.{Kind, Leaf, Message, Multi, kind, kind_of, kind_at, is_identity, is_digest}
use Rattle.mk_tree.specs.Tree.{Entity, leaf, message, multi, Parts, no_parts, part, print, print_parts, field_lines, entity_head, with_fields}
use Rattle.mk_tree.specs.Sections.{body_lines}
use Rattle.mk_tree.specs.Spans.{size, tail_sizes, leaf_form, message_form, multi_form, span, no_spans, more_spans, span_of, spans_of, digest_below}
use Rattle.mk_tree.specs.Reading.{IsWellRead, AreWellRead}
use Rattle.mk_tree.specs.Places.{below}
use Rattle.mk_tree.specs.declared.changing.Own.TheVariants as own
use Rattle.mk_tree.specs.Changed.{FitsOwn, own_changed}
use Rattle.mk_tree.specs.Splicing.{IsDigestOf}
use Rattle.mk_tree.proofs.Descent.{size_append}
use Rattle.mk_tree.proofs.KindsSaid.{kind_by, kind_default}
use Rattle.mk_tree.proofs.Respans.{Grows}

abbrev pub ParsMulti : Kind → Type 0
ParsMulti Leaf = ⊥
ParsMulti Message = ⊥
ParsMulti (Multi b g) = Unit {0}

either_single : (t : Bool) → ParsMulti (if t then Message else Leaf) → ⊥
either_single true h = h
either_single false h = h

typed_same : (g k : Bool) (e : Encoding) (o : Option (List ℕ)) (b : List ℕ) (x y : Bool) → kind_of (type_by g o) e ≡ Multi b x → kind_of (type_by k o) e ≡ Multi b y → x ≡ y
typed_same g k e None b x y p q = absurd (either_single (g && is_identity e) (subst ParsMulti (sym p ∙ kind_default g e (g && is_identity e) refl) tt))
typed_same g k e (Some value) b x y p q = let r : Multi b x ≡ Multi b y = sym p ∙ q in ap is_digest r

-- a multipart has a type of its own, whatever the default
pub digest_same : (n : ℕ) (fields : List TextLine) (g k : Bool) (b : List ℕ) (x y : Bool) → kind_at n fields g ≡ Multi b x → kind_at n fields k ≡ Multi b y → x ≡ y
digest_same zero fields g k b x y p q = cc
digest_same (suc n) fields g k b x y p q =
    let o = field_value (codes "Content-Type") fields in
    let e = header_encoding fields in
    typed_same g k e o b x y (sym (kind_by fields g e o refl refl) ∙ p) (sym (kind_by fields k e o refl refl) ∙ q)

mutual
  -- what is read back in two defaults has the same lengths in both
  pub entity_alike : (n : ℕ) (g k : Bool) (m : ℕ) (e : Entity) → IsWellRead n g e → IsWellRead n k e → span_of g m e ≡ span_of k m e
  entity_alike n g k m (leaf h ls) v w = refl
  entity_alike n g k m (message h e) v w = refl
  entity_alike n g k m (multi h b pre ps t) v w =
      let d = digest_same n h.fields g k b (digest_below g h) (digest_below k h) v.1 w.1 in
      λ i. span m (size h.fields) (size (option_to_list h.separator)) (size (print (multi h b pre ps t))) (multi_form b (d i) (size pre) (tail_sizes t)) (spans_of (d i) ps)

  pub parts_alike : (n : ℕ) (g k : Bool) (b : List ℕ) (ps : Parts) → AreWellRead n g b ps → AreWellRead n k b ps → spans_of g ps ≡ spans_of k ps
  parts_alike n g k b no_parts v w = refl
  parts_alike n g k b (part l e ps) v w = λ i. more_spans (entity_alike n g k (size (l ∷ [])) e v.2 w.2 i) (parts_alike n g k b ps v.3 w.3 i)

pub size_entity : (e : Entity) → size (print e) ≡ size (field_lines e) + (size (option_to_list (entity_head e).separator) + size (body_lines e))
size_entity (leaf h ls) = omega (arith, size_append (head_lines h) ls, size_append h.fields (option_to_list h.separator))
size_entity (message h e) = omega (arith, size_append (head_lines h) (print e), size_append h.fields (option_to_list h.separator))
size_entity (multi h b pre ps t) = omega (arith, size_append (head_lines h) (pre ++ (print_parts ps ++ tail_lines t)), size_append h.fields (option_to_list h.separator))

pub rest_same : (fields : List TextLine) (e : Entity) → size (option_to_list (entity_head (with_fields fields e)).separator) + size (body_lines (with_fields fields e)) ≡ size (option_to_list (entity_head e).separator) + size (body_lines e)
rest_same fields (leaf h ls) = refl
rest_same fields (message h e) = refl
rest_same fields (multi h b pre ps t) = refl

pub fields_are : (fields : List TextLine) (e : Entity) → field_lines (with_fields fields e) ≡ fields
fields_are fields (leaf h ls) = refl
fields_are fields (message h e) = refl
fields_are fields (multi h b pre ps t) = refl

pub fields_grow : (count added : ℕ) (fields : List TextLine) (e : Entity) → count ≤ size (field_lines e) → size fields ≡ size (field_lines e) - count + added → Grows count added e (with_fields fields e)
fields_grow count added fields e c s = record {
  room = omega (arith, c, size_entity e);
  longer = omega (arith, c, s, size_entity e, size_entity (with_fields fields e), rest_same fields e, ap size (fields_are fields e));
}

pub own_fields : (n : ℕ) (d g : Bool) (count added : ℕ) (fields : List TextLine) (e : Entity) → count ≤ size (field_lines e) → size fields ≡ size (field_lines e) - count + added
    → IsDigestOf g d fields e → IsWellRead n d e → IsWellRead n d (with_fields fields e) → (m : ℕ) → own_changed (own.Fields g) count added (span_of d m e) ≡ span_of d m (with_fields fields e)
own_fields n d g count added fields (leaf h ls) c s q v w m =
    let longer = (fields_grow count added fields (leaf h ls) c s).longer in
    λ i. span m (sym s i) (size (option_to_list h.separator)) (sym longer i) leaf_form no_spans
own_fields n d g count added fields (message h e) c s q v w m =
    let longer = (fields_grow count added fields (message h e) c s).longer in
    λ i. span m (sym s i) (size (option_to_list h.separator)) (sym longer i) message_form (more_spans (span_of false 0 e) no_spans)
own_fields n d g count added fields (multi h b pre ps t) c s q v w m =
    let longer = (fields_grow count added fields (multi h b pre ps t) c s).longer in
    let parts : spans_of (digest_below d h) ps ≡ spans_of (is_digest (kind fields d)) ps = parts_alike (below n) (digest_below d h) (is_digest (kind fields d)) b ps v.2 w.2 in
    λ i. span m (sym s i) (size (option_to_list h.separator)) (sym longer i) (multi_form b (q i) (size pre) (tail_sizes t)) (parts i)

pub fields_fit : (d g : Bool) (count : ℕ) (e : Entity) → count ≤ size (field_lines e) → (m : ℕ) → FitsOwn (own.Fields g) count (span_of d m e)
fields_fit d g count (leaf h ls) c m = (c, omega (arith, size_entity (leaf h ls)))
fields_fit d g count (message h e) c m = (c, omega (arith, size_entity (message h e)))
fields_fit d g count (multi h b pre ps t) c m = (c, omega (arith, size_entity (multi h b pre ps t)))
