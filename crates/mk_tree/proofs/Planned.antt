-- A planned change of a section: the bytes and the lengths of what it becomes.
use Rattle.std.proofs.Common.{◌≡◌, ◌≤◌, ◌<◌, ◌+◌, ◌-◌, ◌++◌, ◌||◌, ℕ, Bool, Option, None, Some, List, [], ◌∷◌, refl, ap, sym, ◌∙◌, length, take, drop, arith, append_assoc, length-append}
use Rattle.std.proofs.lemmas.List.{take_at, drop_at}
use Rattle.mk_line.specs.Lines.{TextLine, AreLines, cut, text_of}
use Rattle.mk_line.proofs.Cuts.{text_append, cut_text}
use Rattle.mk_head.specs.Split.{Head, head_lines}
use Rattle.std.specs.Option.{option_to_list}
use Rattle.mk_head.specs.Fields.{counted}
use Rattle.mk_tree.specs.declared.changing.Own.TheVariants as own
use Rattle.mk_tree.specs.declared.node.Node.{Node}
use Rattle.mk_tree.specs.Cutting.{tail_lines}
use Rattle.mk_tree.specs.Tree.{Entity, leaf, message, multi, Parts, no_parts, part, read, print, print_parts, entity_head}
use Rattle.mk_tree.specs.Spans.{size, more_spans, span_of, spans_of, digest_below}
use Rattle.mk_tree.specs.Nodes.{node_span}
use Rattle.mk_tree.specs.Reading.{IsWellRead}
use Rattle.mk_tree.specs.Sections.{Placed, raw_of, body_lines, preamble_lines, has_part, parts_placed, children, children_of}
use Rattle.mk_tree.proofs.TreeNames.{has_tail}
use Rattle.mk_tree.specs.Places.{append_parts}
use Rattle.mk_tree.specs.Changed.{own_changed, redelimited, with_span, without_span, span_count}
use Rattle.mk_splice.specs.Splices.{spliced}
use Rattle.mk_tree.specs.Splicing.{part_count, HasBody, HasText}
use Rattle.mk_tree.specs.Planning.{IsBehindParts, Makes, MakesAll}
use Rattle.mk_tree.proofs.Counting.{counted_none}
use Rattle.mk_tree.proofs.Descent.{size_append}
use Rattle.mk_tree.proofs.WellRead.{well_read}
use Rattle.mk_tree.proofs.Plugs.{lines_end, print_append}
use Rattle.mk_tree.proofs.SectionViews.{print_apart}

-- bytes put in the place of others between two texts
pub spliced_between : (a b c new : List ℕ) (place count : ℕ) → place ≡ length a → count ≡ length b → spliced place count new (a ++ (b ++ c)) ≡ a ++ (new ++ c)
spliced_between a b c new place count p n =
    let front : take place (a ++ (b ++ c)) ≡ a = take_at a (b ++ c) place (sym p) in
    let whole : a ++ (b ++ c) ≡ (a ++ b) ++ c = sym (append_assoc a b c) in
    let rest : drop (place + count) (a ++ (b ++ c)) ≡ c = ap (drop (place + count)) whole ∙ drop_at (a ++ b) c (place + count) (omega (arith, p, n, length-append a b)) in
    λ i. front i ++ (new ++ rest i)

pub text_apart : (xs ys zs : List TextLine) → text_of (xs ++ (ys ++ zs)) ≡ text_of xs ++ (text_of ys ++ text_of zs)
text_apart xs ys zs = text_append xs (ys ++ zs) ∙ ap (λ t. text_of xs ++ t) (text_append ys zs)

-- lines in the place of others, within a section
pub record AreChanged (p : Placed) (e : Entity) (new : List ℕ) (place count : ℕ) : Type 0 where
  pub begins : p.start ≤ place
  pub ends : place + count ≤ p.start + size (print p.entity)
  pub text : spliced (place - p.start) count new (raw_of p) ≡ text_of (print e)
  pub longer : size (print e) ≡ size (print p.entity) - count + length new

pub changed_so : (p : Placed) (e : Entity) (new : List ℕ) (xs ys zs : List TextLine) (place count : ℕ) → print p.entity ≡ xs ++ (ys ++ zs) → text_of (print e) ≡ text_of xs ++ (new ++ text_of zs) → place ≡ p.start + size xs → count ≡ size ys
    → AreChanged p e new place count
changed_so p e new xs ys zs place count s t q n =
    let whole : size (print p.entity) ≡ size xs + (size ys + size zs) = omega (arith, ap size s, size_append xs (ys ++ zs), size_append ys zs) in
    record {
      begins = omega (arith, q);
      ends = omega (arith, q, n, whole);
      text =
          ap (spliced (place - p.start) count new) (ap text_of s ∙ text_apart xs ys zs)
          ∙ (spliced_between (text_of xs) (text_of ys) (text_of zs) new (place - p.start) count (omega (arith, q)) n ∙ sym t);
      longer = omega (arith, whole, n, ap length t, length-append (text_of xs) (new ++ text_of zs), length-append new (text_of zs));
    }

-- an entity by its bytes
pub read_by : (left : ℕ) (digest : Bool) (e : Entity) (text : List ℕ) → text_of (print e) ≡ text → AreLines (print e) → IsWellRead left digest e → read left digest (cut text) ≡ e
read_by left digest e text t l w = ap (λ x. read left digest (cut x)) (sym t) ∙ (ap (read left digest) (cut_text (print e) l) ∙ well_read left digest e w)

entity_after : (digest : Bool) (n m : ℕ) (e : Entity) → redelimited n (span_of digest m e) ≡ span_of digest n e
entity_after digest n m (leaf h ls) = refl
entity_after digest n m (message h e) = refl
entity_after digest n m (multi h b pre ps t) = refl

own_entity : (digest : Bool) (n count added : ℕ) (s : Entity) (node : Node) → own_changed (own.Entity node) count added (span_of digest n s) ≡ redelimited n (node_span node)
own_entity digest n count added (leaf h ls) node = refl
own_entity digest n count added (message h e) node = refl
own_entity digest n count added (multi h b pre ps t) node = refl

nil_after : (xs : List ℕ) → xs ++ [] ≡ xs
nil_after [] = refl
nil_after (x ∷ xs) = ap (λ ys. x ∷ ys) (nil_after xs)

-- another entity in the place of a section, or of what follows its head
pub entity_made : (p : Placed) (left : ℕ) (e : Entity) (new whole : List ℕ) (place count : ℕ) (node : Node) → AreChanged p e new place count → text_of (print e) ≡ whole → node_span node ≡ span_of p.digest 0 (read left p.digest (cut whole))
    → AreLines (print e) → IsWellRead left p.digest e → Makes p e new (record { place = place; count = count; own = own.Entity node })
entity_made p left e new whole place count node c t n l w = record {
  begins = c.begins;
  ends = c.ends;
  text = c.text;
  lengths = λ k. own_entity p.digest k count (length new) p.entity node ∙ (ap (redelimited k) (n ∙ ap (span_of p.digest 0) (read_by left p.digest e whole t l w)) ∙ entity_after p.digest k 0 e);
  fits = λ k. tt;
}

pub makes_entity : (p : Placed) (left : ℕ) (new : List ℕ) (place count : ℕ) (node : Node) → place ≡ p.start → count ≡ size (print p.entity) → node_span node ≡ span_of p.digest 0 (read left p.digest (cut new))
    → MakesAll p left (HasText new) new (record { place = place; count = count; own = own.Entity node })
makes_entity p left new place count node q m n = λ e b l w.
    entity_made p left e new new place count node
    (changed_so p e new [] (print p.entity) [] place count (sym (lines_end (print p.entity))) (b ∙ sym (nil_after new)) (omega (arith, q)) m) b n l w

head_apart : (e : Entity) → print e ≡ head_lines (entity_head e) ++ (body_lines e ++ [])
head_apart e =
    print_apart e ∙ (sym (append_assoc (entity_head e).fields (option_to_list (entity_head e).separator) (body_lines e)) ∙ ap (λ ls. head_lines (entity_head e) ++ ls) (sym (lines_end (body_lines e))))

pub makes_body : (p : Placed) (left : ℕ) (new whole : List ℕ) (place count : ℕ) (node : Node) → place ≡ p.start + size (head_lines (entity_head p.entity)) → count ≡ size (body_lines p.entity)
    → whole ≡ text_of (head_lines (entity_head p.entity)) ++ new → node_span node ≡ span_of p.digest 0 (read left p.digest (cut whole))
    → MakesAll p left (HasBody new) new (record { place = place; count = count; own = own.Entity node })
makes_body p left new whole place count node q m x n = λ e b l w.
    entity_made p left e new whole place count node
    (changed_so p e new (head_lines (entity_head p.entity)) (body_lines p.entity) [] place count (head_apart p.entity) (b ∙ ap (λ t. text_of (head_lines (entity_head p.entity)) ++ t) (sym (nil_after new))) q m)
    (b ∙ sym x) n l w

-- the text before a section's body
pub front_is : (p : Placed) (size_of : ℕ) → size_of ≡ size (print p.entity) - size (body_lines p.entity) → take size_of (raw_of p) ≡ text_of (head_lines (entity_head p.entity))
front_is p n e =
    let whole = ap text_of (head_apart p.entity) ∙ text_apart (head_lines (entity_head p.entity)) (body_lines p.entity) [] in
    let sizes = ap size (head_apart p.entity) in
    ap (take n) whole
    ∙ take_at (text_of (head_lines (entity_head p.entity))) (text_of (body_lines p.entity) ++ []) n
    (omega (arith, e, sizes, size_append (head_lines (entity_head p.entity)) (body_lines p.entity ++ []), size_append (body_lines p.entity) []))

pub body_within : (e : Entity) → size (body_lines e) ≤ size (print e)
body_within e = omega (arith, ap size (head_apart e), size_append (head_lines (entity_head e)) (body_lines e ++ []), size_append (body_lines e) [])

pub preamble_in_body : (e : Entity) → size (preamble_lines e) ≤ size (body_lines e)
preamble_in_body (leaf h ls) = omega arith
preamble_in_body (message h e) = omega arith
preamble_in_body (multi h b pre ps t) = omega (arith, size_append pre (print_parts ps ++ tail_lines t))

-- the lines of a multipart, parted between its parts
abbrev pub front_of : Head → List TextLine → Parts → List TextLine
front_of h pre before = head_lines h ++ (pre ++ print_parts before)

abbrev pub rest_of : Parts → Option (TextLine × List TextLine) → List TextLine
rest_of after t = print_parts after ++ tail_lines t

pub print_sides : (h : Head) (b : List ℕ) (pre : List TextLine) (before after : Parts) (t : Option (TextLine × List TextLine)) → print (multi h b pre (append_parts before after) t) ≡ front_of h pre before ++ rest_of after t
print_sides h b pre before after t = ap (λ ls. head_lines h ++ (pre ++ (ls ++ tail_lines t))) (print_append before after) ∙ simp append_assoc refl

pub print_with : (h : Head) (b : List ℕ) (pre : List TextLine) (before : Parts) (l : TextLine) (x : Entity) (after : Parts) (t : Option (TextLine × List TextLine))
    → print (multi h b pre (append_parts before (part l x after)) t) ≡ front_of h pre before ++ ((l ∷ print x) ++ rest_of after t)
print_with h b pre before l x after t = ap (λ ls. head_lines h ++ (pre ++ (ls ++ tail_lines t))) (print_append before (part l x after)) ∙ simp append_assoc refl

-- the lengths of parts with one more, and without it
pub spans_with_one : (g : Bool) (before : Parts) (l : TextLine) (x : Entity) (after : Parts) → with_span (part_count before) (span_of g (size (l ∷ [])) x) (spans_of g (append_parts before after)) ≡ spans_of g (append_parts before (part l x after))
spans_with_one g no_parts l x after = refl
spans_with_one g (part m e ps) l x after = ap (more_spans (span_of g (size (m ∷ [])) e)) (spans_with_one g ps l x after)

pub spans_without_one : (g : Bool) (before : Parts) (l : TextLine) (x : Entity) (after : Parts) → without_span (part_count before) (spans_of g (append_parts before (part l x after))) ≡ spans_of g (append_parts before after)
spans_without_one g no_parts l x after = refl
spans_without_one g (part m e ps) l x after = ap (more_spans (span_of g (size (m ∷ [])) e)) (spans_without_one g ps l x after)

pub counts_with : (g : Bool) (before after : Parts) → part_count before ≤ span_count (spans_of g (append_parts before after))
counts_with g no_parts after = omega arith
counts_with g (part l e ps) after = omega (arith, counts_with g ps after)

pub counts_within : (g : Bool) (before : Parts) (l : TextLine) (x : Entity) (after : Parts) → part_count before < span_count (spans_of g (append_parts before (part l x after)))
counts_within g no_parts l x after = omega arith
counts_within g (part m e ps) l x after = omega (arith, counts_within g ps l x after)

-- where the first parts end
abbrev EndsAt : Option Placed → ℕ → Type 0
EndsAt o place = (r : Placed) × (o ≡ Some r) × (r.start + size (print r.entity) ≡ place)

parts_end : (before after : Parts) (place : ℕ) (followed digest : Bool) (l : TextLine) (e : Entity) → EndsAt (counted (part_count (part l e before)) (parts_placed place followed digest (append_parts (part l e before) after))) (place + size (print_parts (part l e before)))
parts_end no_parts after place followed digest l e = (
  record { start = place + size (l ∷ []); followed = has_part after || followed; digest = digest; entity = e },
  refl,
  omega (arith, size_append (l ∷ []) (print e ++ []), size_append (print e) []),
)
parts_end (part m x ps) after place followed digest l e =
    let r = parts_end ps after (place + size (l ∷ []) + size (print e)) followed digest m x in (
      r.0,
      r.1,
      omega (arith, r.2, size_append (l ∷ []) (print e ++ print_parts (part m x ps)), size_append (print e) (print_parts (part m x ps))),
    )

some_place : (p q : Placed) → ◌≡◌ {A = Option Placed} (Some p) (Some q) → p ≡ q
some_place p q e = ap (λ (o : Option Placed). elim o [ None ↦ p | Some r ↦ r ]) e

none_place : (q : Placed) → ◌≡◌ {A = Option Placed} None (Some q) → ⊥
none_place q e = cc

ends_at_some : (o : Option Placed) (r : Placed) (place : ℕ) → o ≡ Some r → EndsAt o place → r.start + size (print r.entity) ≡ place
ends_at_some o r place s a = ap (λ (x : Placed). x.start + size (print x.entity)) (some_place r a.0 (sym s ∙ a.1)) ∙ a.2

children_are : (p : Placed) (h : Head) (b : List ℕ) (pre : List TextLine) (ps : Parts) (t : Option (TextLine × List TextLine)) → p.entity ≡ multi h b pre ps t → children p ≡ parts_placed (p.start + size (head_lines h) + size pre) (has_tail t || p.followed) (digest_below p.digest h) ps
children_are p h b pre ps t e = ap (children_of p) e

some_after : (p : Placed) (k : ℕ) (r : Placed) (place : ℕ) → counted k (children p) ≡ Some r → place ≡ r.start + size (print r.entity) → (h : Head) (b : List ℕ) (pre : List TextLine) (before after : Parts) (t : Option (TextLine × List TextLine))
    → p.entity ≡ multi h b pre (append_parts before after) t → part_count before ≡ k → place ≡ p.start + size (front_of h pre before)
some_after p k r place s q h b pre no_parts after t e n = absurd (none_place r (sym (counted_none (children p)) ∙ (ap (λ j. counted j (children p)) n ∙ s)))
some_after p k r place s q h b pre (part l x ps) after t e n =
    let first = p.start + size (head_lines h) + size pre in
    let there = parts_end ps after first (has_tail t || p.followed) (digest_below p.digest h) l x in
    let same : counted (part_count (part l x ps)) (parts_placed first (has_tail t || p.followed) (digest_below p.digest h) (append_parts (part l x ps) after)) ≡ Some r =
    (λ i. counted (n i) (sym (children_are p h b pre (append_parts (part l x ps) after) t e) i)) ∙ s in
    omega (arith, q, ends_at_some _ r _ same there, size_append (head_lines h) (pre ++ print_parts (part l x ps)), size_append pre (print_parts (part l x ps)))

-- a section of a number, by what stands before its end
pub after_some : (p : Placed) (k : ℕ) (o : Option Placed) (r : Placed) (place : ℕ) → o ≡ counted k (children p) → o ≡ Some r → place ≡ r.start + size (print r.entity) → IsBehindParts p k place
after_some p k o r place s t q = λ h b pre before after tail e n. some_after p k r place (sym s ∙ t) q h b pre before after tail e n

none_after : (p : Placed) (k : ℕ) (place : ℕ) → counted k (children p) ≡ None → place + size (body_lines p.entity) ≡ p.start + size (print p.entity) + size (preamble_lines p.entity)
    → (h : Head) (b : List ℕ) (pre : List TextLine) (before after : Parts) (t : Option (TextLine × List TextLine)) → p.entity ≡ multi h b pre (append_parts before after) t → part_count before ≡ k → place ≡ p.start + size (front_of h pre before)
none_after p k place s q h b pre no_parts after t e n =
    omega (arith, q, ap (λ x. size (print x)) e, ap (λ x. size (body_lines x)) e, ap (λ x. size (preamble_lines x)) e, size_append (head_lines h) (pre ++ (print_parts after ++ tail_lines t)), size_append (head_lines h) (pre ++ []), size_append pre [])
none_after p k place s q h b pre (part l x ps) after t e n =
    let first = p.start + size (head_lines h) + size pre in
    let there = parts_end ps after first (has_tail t || p.followed) (digest_below p.digest h) l x in
    let same : counted (part_count (part l x ps)) (parts_placed first (has_tail t || p.followed) (digest_below p.digest h) (append_parts (part l x ps) after)) ≡ None =
    (λ i. counted (n i) (sym (children_are p h b pre (append_parts (part l x ps) after) t e) i)) ∙ s in
    absurd (none_place there.0 (sym same ∙ there.1))

pub after_none : (p : Placed) (k : ℕ) (o : Option Placed) (place : ℕ) → o ≡ counted k (children p) → o ≡ None → place + size (body_lines p.entity) ≡ p.start + size (print p.entity) + size (preamble_lines p.entity) → IsBehindParts p k place
after_none p k o place s t q = λ h b pre before after tail e n. none_after p k place (sym s ∙ t) q h b pre before after tail e n
