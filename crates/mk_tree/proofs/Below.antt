-- The sections directly below a section, from its text and what its node keeps.
use Rattle.std.proofs.Common.{◌≡◌, ◌==◌, not, ◌≤◌, ◌+◌, ◌-◌, ◌||◌, ℕ, zero, suc, Bool, true, false, Option, None, Some, List, [], ◌∷◌, ◌++◌, refl, ap, sym, subst, ◌∙◌, length, take, drop, map, arith, append_assoc}
use Rattle.std.proofs.lemmas.Bool.{eqb-true, false_from_ne_true}
use Rattle.std.proofs.lemmas.List.{length-map}
use Rattle.mk_line.specs.Lines.{TextLine, cut}
use Rattle.mk_line.proofs.Cuts.{cut_rest}
use Rattle.mk_head.specs.Split.{Head, head_of, head_lines, after_head}
use Rattle.mk_tree.specs.Cutting.{cut_by, tail_lines}
use Rattle.mk_tree.specs.Kinds.{Kind, Leaf, Message, Multi, kind, is_digest}
use Rattle.mk_tree.specs.Tree.{Entity, leaf, message, multi, Parts, no_parts, part, parts_by, entity_by, read, print, entity_head}
use Rattle.mk_tree.specs.Spans.{Span, size, tail_sizes, digest_below, span_of, spans_of}
use Rattle.mk_tree.specs.Nodes.{form_of, node_span}
use Rattle.mk_tree.specs.declared.node.Node.{Node}
use Rattle.mk_tree.specs.declared.node.Node.TheViews.{out-Node}
use Rattle.mk_tree.specs.Forms.{form_preamble, has_sizes, form_digest, form_closed, form_in, spans_in}
use Rattle.mk_tree.specs.Sections.{Placed, has_part, parts_placed, children_of, children, preamble_lines}
use Rattle.mk_tree.proofs.TreeNames.{has_tail}
use Rattle.mk_tree.specs.Layouts.{delimiter_of, whole_of, has_span, placed_over, IsSpanOver, first_text, text_after, placed_along, AreSpansOver}
use Rattle.mk_tree.proofs.Kept.{print_read, print_parts_by}
use Rattle.mk_tree.proofs.OneCut.{parts_lines}
use Rattle.mk_tree.proofs.Descent.{size_append}
use Rattle.mk_tree.proofs.Slices.{front_within, middle_cut, end_cut, middle_within}
use Rattle.mk_tree.proofs.SectionViews.{opens, span_list, Keeps, after_preamble, body_front, raw_head, head_size, preamble_size}

pub delimiter_span : (d : Bool) (n : ℕ) (e : Entity) → delimiter_of (span_of d n e) ≡ n
delimiter_span d n (leaf h ls) = refl
delimiter_span d n (message h e) = refl
delimiter_span d n (multi h b pre ps t) = refl

whole_span : (d : Bool) (n : ℕ) (e : Entity) → whole_of (span_of d n e) ≡ size (print e)
whole_span d n (leaf h ls) = refl
whole_span d n (message h e) = refl
whole_span d n (multi h b pre ps t) = refl

-- what spans stand for, over a text
pub record IsBelow (ss : List Span) (text : List ℕ) (place : ℕ) (followed digest : Bool) (left : ℕ) (ps : List Placed) : Type 0 where
  pub over : AreSpansOver ss text digest left
  pub placed : placed_along ss text place followed digest left ≡ ps

-- a span at the start of others, over its delimiter's lines and its own
abbrev front_span : ℕ → Bool → List TextLine → List TextLine → Span
front_span n d xs ls = span_of d (size xs) (read n d ls)

whole_read : (n : ℕ) (d : Bool) (xs ls : List TextLine) → whole_of (front_span n d xs ls) ≡ size ls
whole_read n d xs ls = whole_span d (size xs) (read n d ls) ∙ ap size (print_read n d ls)

first_cut : (n : ℕ) (d : Bool) (text : List ℕ) (xs ls rest : List TextLine) → cut text ≡ xs ++ (ls ++ rest) → cut (first_text (front_span n d xs ls) text) ≡ ls
first_cut n d text xs ls rest e =
    (λ i. cut (take (whole_read n d xs ls i) (drop (delimiter_span d (size xs) (read n d ls) i) text))) ∙ middle_cut text xs ls rest e

after_cut : (n : ℕ) (d : Bool) (text : List ℕ) (xs ls rest : List TextLine) → cut text ≡ xs ++ (ls ++ rest) → cut (text_after (front_span n d xs ls) text) ≡ rest
after_cut n d text xs ls rest e =
    (λ i. cut (drop (whole_read n d xs ls i) (drop (delimiter_span d (size xs) (read n d ls) i) text))) ∙ end_cut text xs ls rest e

first_over : (n : ℕ) (d : Bool) (text : List ℕ) (xs ls rest : List TextLine) → cut text ≡ xs ++ (ls ++ rest) → IsSpanOver (front_span n d xs ls) (first_text (front_span n d xs ls) text) d n
first_over n d text xs ls rest e =
    λ i. span_of d (sym (delimiter_span d (size xs) (read n d ls)) i) (read n d (sym (first_cut n d text xs ls rest e) i))

first_within : (n : ℕ) (d : Bool) (text : List ℕ) (xs ls rest : List TextLine) → cut text ≡ xs ++ (ls ++ rest) → delimiter_of (front_span n d xs ls) + whole_of (front_span n d xs ls) ≤ length text
first_within n d text xs ls rest e = omega (arith, delimiter_span d (size xs) (read n d ls), whole_read n d xs ls, middle_within text xs ls rest e)

first_placed : (n : ℕ) (d : Bool) (text : List ℕ) (xs ls rest : List TextLine) (place start : ℕ) (f g : Bool) → cut text ≡ xs ++ (ls ++ rest) → start ≡ place + size xs → f ≡ g
    → ◌≡◌ {A = Placed} (placed_over (first_text (front_span n d xs ls) text) (place + delimiter_of (front_span n d xs ls)) f d n) (record { start = start; followed = g; digest = d; entity = read n d ls })
first_placed n d text xs ls rest place start f g e p q =
    let s : place + delimiter_of (front_span n d xs ls) ≡ start = omega (arith, p, delimiter_span d (size xs) (read n d ls)) in
    λ i. record { start = s i; followed = q i; digest = d; entity = read n d (first_cut n d text xs ls rest e i) }

-- parts one after another
part_apart : (text : List ℕ) (p : TextLine × List TextLine) (ps : List (TextLine × List TextLine)) (rest : List TextLine) → cut text ≡ parts_lines (p ∷ ps) ++ rest → cut text ≡ (p.0 ∷ []) ++ (p.1 ++ (parts_lines ps ++ rest))
part_apart text p ps rest e = e ∙ ap (λ xs. p.0 ∷ xs) (append_assoc p.1 (parts_lines ps) rest)

has_more : (d : Bool) (ps : Parts) → has_span (span_list (spans_of d ps)) ≡ has_part ps
has_more d no_parts = refl
has_more d (part l e ps) = refl

parts_over : (n : ℕ) (d : Bool) (ps : List (TextLine × List TextLine)) (rest : List TextLine) (text : List ℕ) → cut text ≡ parts_lines ps ++ rest → AreSpansOver (span_list (spans_of d (parts_by (read n d) ps))) text d n
parts_over n d [] rest text e = tt
parts_over n d (p ∷ ps) rest text e =
    let q : cut text ≡ (p.0 ∷ []) ++ (p.1 ++ (parts_lines ps ++ rest)) = part_apart text p ps rest e in (
      first_within n d text (p.0 ∷ []) p.1 (parts_lines ps ++ rest) q,
      first_over n d text (p.0 ∷ []) p.1 (parts_lines ps ++ rest) q,
      parts_over n d ps rest (text_after (front_span n d (p.0 ∷ []) p.1) text) (after_cut n d text (p.0 ∷ []) p.1 (parts_lines ps ++ rest) q),
    )

parts_along : (n : ℕ) (d : Bool) (ps : List (TextLine × List TextLine)) (rest : List TextLine) (text : List ℕ) (place start : ℕ) (f : Bool) → cut text ≡ parts_lines ps ++ rest → start ≡ place
    → placed_along (span_list (spans_of d (parts_by (read n d) ps))) text place f d n ≡ parts_placed start f d (parts_by (read n d) ps)
parts_along n d [] rest text place start f e s = refl
parts_along n d (p ∷ ps) rest text place start f e s =
    let q : cut text ≡ (p.0 ∷ []) ++ (p.1 ++ (parts_lines ps ++ rest)) = part_apart text p ps rest e in
    let m : start + size (p.0 ∷ []) ≡ place + size (p.0 ∷ []) = omega (arith, s) in
    let w : size (print (read n d p.1)) ≡ whole_of (front_span n d (p.0 ∷ []) p.1) = sym (whole_span d (size (p.0 ∷ [])) (read n d p.1)) in
    let next : start + size (p.0 ∷ []) + size (print (read n d p.1)) ≡ place + delimiter_of (front_span n d (p.0 ∷ []) p.1) + whole_of (front_span n d (p.0 ∷ []) p.1) = omega (arith, s, w, delimiter_span d (size (p.0 ∷ [])) (read n d p.1)) in
    let first = first_placed n d text (p.0 ∷ []) p.1 (parts_lines ps ++ rest) place (start + size (p.0 ∷ [])) (has_span (span_list (spans_of d (parts_by (read n d) ps))) || f) (has_part (parts_by (read n d) ps) || f) q m (ap (λ t. t || f) (has_more d (parts_by (read n d) ps))) in
    let others = parts_along n d ps rest (text_after (front_span n d (p.0 ∷ []) p.1) text) (place + delimiter_of (front_span n d (p.0 ∷ []) p.1) + whole_of (front_span n d (p.0 ∷ []) p.1)) (start + size (p.0 ∷ []) + size (print (read n d p.1))) f
    (after_cut n d text (p.0 ∷ []) p.1 (parts_lines ps ++ rest) q) next in
    λ i. first i ∷ others i

-- the first of the sections below begins after the head and the preamble
abbrev pub front_of : Entity → ℕ
front_of e = size (head_lines (entity_head e)) + size (preamble_lines e)

append_end : (xs : List TextLine) → xs ++ [] ≡ xs
append_end [] = refl
append_end (x ∷ xs) = ap (λ ys. x ∷ ys) (append_end xs)

closed_sizes : (t : Option (TextLine × List TextLine)) → has_sizes (tail_sizes t) ≡ has_tail t
closed_sizes None = refl
closed_sizes (Some t) = refl

below_by : (n : ℕ) (k : Kind) (h : Head) (ls : List TextLine) (text : List ℕ) (start : ℕ) (followed digest : Bool) (whole : Entity) → kind h.fields digest ≡ k → cut text ≡ after_preamble (entity_by (read n) k h ls)
    → IsBelow (span_list (spans_in digest (entity_by (read n) k h ls))) text (start + front_of (entity_by (read n) k h ls)) (form_closed (form_in digest (entity_by (read n) k h ls)) || followed)
    (form_digest (form_in digest (entity_by (read n) k h ls))) n (children_of (record { start = start; followed = followed; digest = digest; entity = whole }) (entity_by (read n) k h ls))
below_by n Leaf h ls text start followed digest whole q e = record { over = tt; placed = refl }
below_by n Message h ls text start followed digest whole q e =
    let p : cut text ≡ [] ++ (ls ++ []) = e ∙ (print_read n false ls ∙ sym (append_end ls)) in
    let s : start + size (head_lines h) ≡ start + (size (head_lines h) + 0) + 0 = omega arith in
    record {
      over = (first_within n false text [] ls [] p, first_over n false text [] ls [] p, tt);
      placed = ap (λ x. x ∷ []) (first_placed n false text [] ls [] (start + (size (head_lines h) + 0)) (start + size (head_lines h)) followed followed p s refl);
    }
below_by n (Multi b d) h ls text start followed digest whole q e =
    let ps = (cut_by b ls).parts in
    let rest = tail_lines (cut_by b ls).tail in
    let r : d ≡ digest_below digest h = sym (ap is_digest q) in
    let p : cut text ≡ parts_lines ps ++ rest = e ∙ ap (λ xs. xs ++ rest) (print_parts_by (read n d) (print_read n d) ps) in
    let s : start + size (head_lines h) + size (cut_by b ls).preamble ≡ start + (size (head_lines h) + size (cut_by b ls).preamble) = omega arith in
    record {
      over = subst (λ x. AreSpansOver (span_list (spans_of x (parts_by (read n d) ps))) text x n) r (parts_over n d ps rest text p);
      placed =
          subst (λ x. placed_along (span_list (spans_of x (parts_by (read n d) ps))) text (start + (size (head_lines h) + size (cut_by b ls).preamble)) (has_sizes (tail_sizes (cut_by b ls).tail) || followed) x n
          ≡ parts_placed (start + size (head_lines h) + size (cut_by b ls).preamble) (has_tail (cut_by b ls).tail || followed) x (parts_by (read n d) ps)) r
          (parts_along n d ps rest text (start + (size (head_lines h) + size (cut_by b ls).preamble)) (start + size (head_lines h) + size (cut_by b ls).preamble) (has_sizes (tail_sizes (cut_by b ls).tail) || followed) p s
          ∙ ap (λ t. parts_placed (start + size (head_lines h) + size (cut_by b ls).preamble) (t || followed) d (parts_by (read n d) ps)) (closed_sizes (cut_by b ls).tail));
    }

raw_front : (raw : List ℕ) (left : ℕ) (digest : Bool) → cut raw ≡ (head_lines (entity_head (read left digest (cut raw))) ++ preamble_lines (read left digest (cut raw))) ++ after_preamble (read left digest (cut raw))
raw_front raw left digest =
    raw_head raw left digest
    ∙ (ap (λ xs. head_lines (entity_head (read left digest (cut raw))) ++ xs) (body_front (read left digest (cut raw)))
    ∙ sym (append_assoc (head_lines (entity_head (read left digest (cut raw)))) (preamble_lines (read left digest (cut raw))) (after_preamble (read left digest (cut raw)))))

front_adds : (e : Entity) → size (head_lines (entity_head e) ++ preamble_lines e) ≡ front_of e
front_adds e = size_append (head_lines (entity_head e)) (preamble_lines e)

pub front_fits_in : (raw : List ℕ) (left : ℕ) (digest : Bool) → front_of (read left digest (cut raw)) ≤ length raw
front_fits_in raw left digest =
    omega (arith, front_adds (read left digest (cut raw)), front_within raw (head_lines (entity_head (read left digest (cut raw))) ++ preamble_lines (read left digest (cut raw))) (after_preamble (read left digest (cut raw))) (raw_front raw left digest))

front_cut : (raw : List ℕ) (left : ℕ) (digest : Bool) → cut (drop (front_of (read left digest (cut raw))) raw) ≡ after_preamble (read left digest (cut raw))
front_cut raw left digest =
    ap (λ k. cut (drop k raw)) (sym (front_adds (read left digest (cut raw))))
    ∙ cut_rest raw (head_lines (entity_head (read left digest (cut raw))) ++ preamble_lines (read left digest (cut raw))) (after_preamble (read left digest (cut raw))) (raw_front raw left digest)

less_one : (n : ℕ) → n ≡ suc n - 1
less_one n = omega arith

pub below : (raw : List ℕ) (start : ℕ) (followed digest : Bool) (left : ℕ)
    → IsBelow (span_list (spans_in digest (read left digest (cut raw)))) (drop (front_of (read left digest (cut raw))) raw) (start + front_of (read left digest (cut raw))) (form_closed (form_in digest (read left digest (cut raw))) || followed)
    (form_digest (form_in digest (read left digest (cut raw)))) (left - 1) (children (placed_over raw start followed digest left))
below raw start followed digest zero = record { over = tt; placed = refl }
below raw start followed digest (suc n) =
    subst (λ m. IsBelow (span_list (spans_in digest (read (suc n) digest (cut raw)))) (drop (front_of (read (suc n) digest (cut raw))) raw) (start + front_of (read (suc n) digest (cut raw)))
    (form_closed (form_in digest (read (suc n) digest (cut raw))) || followed) (form_digest (form_in digest (read (suc n) digest (cut raw)))) m (children (placed_over raw start followed digest (suc n)))) (less_one n)
    (below_by n (kind (head_of (cut raw)).fields digest) (head_of (cut raw)) (after_head (cut raw)) (drop (front_of (read (suc n) digest (cut raw))) raw) start followed digest (read (suc n) digest (cut raw)) refl (front_cut raw (suc n) digest))

-- the first of the sections below by what the node keeps
pub node_front : (node : Node) (raw : List ℕ) (digest : Bool) (left n : ℕ) → Keeps node digest (read left digest (cut raw)) → n ≡ form_preamble (form_of (out-Node node).shape)
    → (out-Node node).fields + (out-Node node).separator + n ≡ front_of (read left digest (cut raw))
node_front node raw digest left n k p =
    let q : n ≡ size (preamble_lines (read left digest (cut raw))) = p ∙ (ap form_preamble k.form ∙ preamble_size digest (read left digest (cut raw))) in
    omega (arith, k.fields, k.separator, q, head_size (entity_head (read left digest (cut raw))))

pub node_below : (node : Node) (raw : List ℕ) (start : ℕ) (followed digest : Bool) (left : ℕ) (front : ℕ) (following deep : Bool) (deeper : ℕ) → Keeps node digest (read left digest (cut raw)) → front ≡ front_of (read left digest (cut raw))
    → following ≡ (form_closed (form_of (out-Node node).shape) || followed) → deep ≡ form_digest (form_of (out-Node node).shape) → deeper ≡ left - 1
    → IsBelow (map node_span (out-Node node).parts.items) (drop front raw) (start + front) following deep deeper (children (placed_over raw start followed digest left))
node_below node raw start followed digest left front following deep deeper k f b d m =
    let spans : span_list (spans_in digest (read left digest (cut raw))) ≡ map node_span (out-Node node).parts.items = sym k.spans in
    let ends : (form_closed (form_in digest (read left digest (cut raw))) || followed) ≡ following = sym (b ∙ ap (λ g. form_closed g || followed) k.form) in
    let kinds : form_digest (form_in digest (read left digest (cut raw))) ≡ deep = sym (d ∙ ap form_digest k.form) in
    subst (λ (t : List Span × ℕ × Bool × Bool × ℕ). IsBelow t.0 (drop t.1 raw) (start + t.1) t.2 t.3 t.4 (children (placed_over raw start followed digest left))) (λ i. (spans i, sym f i, ends i, kinds i, sym m i)) (below raw start followed digest left)

-- how many there are
length_along : (ss : List Span) (text : List ℕ) (place : ℕ) (followed digest : Bool) (left : ℕ) → length (placed_along ss text place followed digest left) ≡ length ss
length_along [] text place followed digest left = refl
length_along (s ∷ ss) text place followed digest left = ap suc (length_along ss (text_after s text) (place + delimiter_of s + whole_of s) followed digest left)

pub parts_count : (node : Node) (raw : List ℕ) (start : ℕ) (followed digest : Bool) (left : ℕ) → Keeps node digest (read left digest (cut raw)) → length (out-Node node).parts.items ≡ length (children (placed_over raw start followed digest left))
parts_count node raw start followed digest left k =
    sym (length-map (out-Node node).parts.items node_span)
    ∙ (ap length k.spans
    ∙ (sym (length_along (span_list (spans_in digest (read left digest (cut raw)))) (drop (front_of (read left digest (cut raw))) raw) (start + front_of (read left digest (cut raw))) (form_closed (form_in digest (read left digest (cut raw))) || followed)
    (form_digest (form_in digest (read left digest (cut raw)))) (left - 1))
    ∙ ap length (below raw start followed digest left).placed))

-- one step along nodes
spans_left : (nodes : List Node) → (length nodes == 0) ≡ not (has_span (map node_span nodes))
spans_left [] = refl
spans_left (node ∷ nodes) = false_from_ne_true (length (node ∷ nodes) == 0) (λ t. let none : length (node ∷ nodes) ≡ 0 = eqb-true (length (node ∷ nodes)) 0 t in omega (arith, none))

or_more : (t u followed f : Bool) → t ≡ not u → f ≡ (not t || followed) → f ≡ (u || followed)
or_more true true followed f e h = cc
or_more true false followed f e h = h
or_more false true followed f e h = h
or_more false false followed f e h = cc

pub more_after : (nodes : List Node) (t followed f : Bool) → t ≡ (length nodes == 0) → f ≡ (not t || followed) → f ≡ (has_span (map node_span nodes) || followed)
more_after nodes t followed f e h = or_more t (has_span (map node_span nodes)) followed f (e ∙ spans_left nodes) h

pub step_along : (node : Node) (others : List Node) (rest following raw text : List ℕ) (start : ℕ) (followed f digest : Bool) (left : ℕ) → following ≡ drop (out-Node node).delimiter rest → raw ≡ take (out-Node node).size following → text ≡ drop (out-Node node).size following
    → f ≡ (has_span (map node_span others) || followed)
    → placed_along (map node_span (node ∷ others)) rest start followed digest left
    ≡ placed_over raw (start + (out-Node node).delimiter) f digest left ∷ placed_along (map node_span others) text (start + (out-Node node).delimiter + (out-Node node).size) followed digest left
step_along node others rest following raw text start followed f digest left b r t q =
    let d : delimiter_of (node_span node) ≡ (out-Node node).delimiter = ap delimiter_of (opens node) in
    let w : whole_of (node_span node) ≡ (out-Node node).size = ap whole_of (opens node) in
    let first : first_text (node_span node) rest ≡ raw = (λ i. take (w i) (drop (d i) rest)) ∙ (ap (take (out-Node node).size) (sym b) ∙ sym r) in
    let next : text_after (node_span node) rest ≡ text = (λ i. drop (w i) (drop (d i) rest)) ∙ (ap (drop (out-Node node).size) (sym b) ∙ sym t) in
    λ i. placed_over (first i) (start + d i) (sym q i) digest left ∷ placed_along (map node_span others) (next i) (start + d i + w i) followed digest left
