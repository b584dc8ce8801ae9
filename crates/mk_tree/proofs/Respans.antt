-- The lengths of a tree where one entity is another.
use Rattle.std.proofs.Common.{◌≡◌, ◌≤◌, ◌+◌, ◌-◌, ◌++◌, ℕ, zero, suc, Bool, Option, None, Some, List, [], ◌∷◌, ap, sym, ◌∙◌, subst, arith, option_and_then}
use Rattle.std.specs.Option.{option_map, option_to_list}
use Rattle.mk_line.specs.Lines.{TextLine}
use Rattle.mk_head.specs.Split.{Head, head_lines}
use Rattle.mk_tree.specs.Cutting.{tail_lines}
use Rattle.mk_tree.specs.Tree.{Entity, leaf, message, multi, Parts, no_parts, part, print, print_parts}
use Rattle.mk_tree.specs.Spans.{size, tail_sizes, message_form, multi_form, Span, span, no_spans, more_spans, span_of, spans_of, digest_below}
use Rattle.mk_tree.specs.Places.{Frame, in_message, in_multi, append_parts, plug_one, plug, part_at, step_to, place_at, digest_in, default_at}
use Rattle.mk_tree.specs.Changed.{changed_at, respan}
use Rattle.mk_tree.proofs.Plugs.{print_append}
use Rattle.mk_tree.proofs.Descent.{size_append}
use Rattle.mk_tree.proofs.Placed.{MakesParts, parts_made, MakesStep, step_made}

-- an entity whose lines are longer or shorter than those of another
pub record Grows (count added : ℕ) (s t : Entity) : Type 0 where
  pub room : count ≤ size (print s)
  pub longer : size (print t) ≡ size (print s) - count + added

one_more : (l : TextLine) (ls : List TextLine) → size (l ∷ ls) ≡ size (l ∷ []) + size ls
one_more l ls = size_append (l ∷ []) ls

pub size_around : (before : Parts) (l : TextLine) (x : Entity) (after : Parts)
    → size (print_parts (append_parts before (part l x after))) ≡ size (print_parts before) + (size (l ∷ []) + (size (print x) + size (print_parts after)))
size_around before l x after =
    let a = size_append (print_parts before) (l ∷ (print x ++ print_parts after)) in
    let b = one_more l (print x ++ print_parts after) in
    let c = size_append (print x) (print_parts after) in
    omega (arith, ap size (print_append before (part l x after)), a, b, c)

pub size_multi : (h : Head) (b : List ℕ) (pre : List TextLine) (ps : Parts) (t : Option (TextLine × List TextLine))
    → size (print (multi h b pre ps t)) ≡ size (head_lines h) + (size pre + (size (print_parts ps) + size (tail_lines t)))
size_multi h b pre ps t =
    omega (arith, size_append (head_lines h) (pre ++ (print_parts ps ++ tail_lines t)), size_append pre (print_parts ps ++ tail_lines t), size_append (print_parts ps) (tail_lines t))

grows_one : (count added : ℕ) (f : Frame) (s t : Entity) → Grows count added s t → Grows count added (plug_one f s) (plug_one f t)
grows_one count added (in_message h) s t g = record {
  room = omega (arith, g.room, size_append (head_lines h) (print s));
  longer = omega (arith, g.room, g.longer, size_append (head_lines h) (print s), size_append (head_lines h) (print t));
}
grows_one count added (in_multi h b pre before l after tail) s t g =
    let ps = append_parts before (part l s after) in
    let qs = append_parts before (part l t after) in
    record {
      room = omega (arith, g.room, size_multi h b pre ps tail, size_around before l s after);
      longer = omega (arith, g.room, g.longer, size_multi h b pre ps tail, size_multi h b pre qs tail, size_around before l s after, size_around before l t after);
    }

pub grows_all : (count added : ℕ) (fs : List Frame) (s t : Entity) → Grows count added s t → Grows count added (plug fs s) (plug fs t)
grows_all count added [] s t g = g
grows_all count added (f ∷ fs) s t g = grows_one count added f (plug fs s) (plug fs t) (grows_all count added fs s t g)

-- a part of a number changed
abbrev PartChanges : ℕ → Parts → Option (Parts × TextLine × Entity × Parts) → Type 0
PartChanges k ps None = Unit {0}
PartChanges k ps (Some q) = (g : Bool) (f : Span → Span) (t : Entity) → ((n : ℕ) → f (span_of g n q.2) ≡ span_of g n t) → changed_at k f (spans_of g ps) ≡ spans_of g (append_parts q.0 (part q.1 t q.3))

part_later : (k : ℕ) (l : TextLine) (e : Entity) (ps : Parts) (o : Option (Parts × TextLine × Entity × Parts)) → PartChanges (suc k) ps o → PartChanges (suc (suc k)) (part l e ps) (option_map (λ q. (part l e q.0, q.1, q.2, q.3)) o)
part_later k l e ps None h = tt
part_later k l e ps (Some q) h = λ g f t r. ap (more_spans (span_of g (size (l ∷ [])) e)) (h g f t r)

part_changes : (k : ℕ) (ps : Parts) → PartChanges k ps (part_at k ps)
part_changes k no_parts = tt
part_changes zero (part l e ps) = tt
part_changes (suc zero) (part l e ps) = λ g f t r. ap (λ s. more_spans s (spans_of g ps)) (r (size (l ∷ [])))
part_changes (suc (suc k)) (part l e ps) = part_later k l e ps (part_at (suc k) ps) (part_changes (suc k) ps)

-- the lengths follow a change of the section of a number
abbrev StepChanges : ℕ → Entity → Option (Frame × Entity) → Type 0
StepChanges k e None = Unit {0}
StepChanges k e (Some r) =
    (ks : List ℕ) (count added : ℕ) (own : Span → Span) (d : Bool) (t : Entity) → Grows count added r.1 t
    → ((n : ℕ) → respan ks count added own (span_of (digest_in d r.0) n r.1) ≡ span_of (digest_in d r.0) n t)
    → (n : ℕ) → respan (k ∷ ks) count added own (span_of d n e) ≡ span_of d n (plug_one r.0 t)

message_changes : (h : Head) (x : Entity) → StepChanges 1 (message h x) (Some (in_message h, x))
message_changes h x ks count added own d t w r n =
    let longer = (grows_one count added (in_message h) x t w).longer in
    λ i. span n (size h.fields) (size (option_to_list h.separator)) (sym longer i) message_form (more_spans (r 0 i) no_spans)

multi_changes : (k : ℕ) (h : Head) (b : List ℕ) (pre : List TextLine) (ps : Parts) (tail : Option (TextLine × List TextLine)) (o : Option (Parts × TextLine × Entity × Parts)) → MakesParts ps o → PartChanges k ps o
    → StepChanges k (multi h b pre ps tail) (option_map (λ q. (in_multi h b pre q.0 q.1 q.3 tail, q.2)) o)
multi_changes k h b pre ps tail None m p = tt
multi_changes k h b pre ps tail (Some q) m p = λ ks count added own d t w r n.
    let longer : size (print (multi h b pre (append_parts q.0 (part q.1 t q.3)) tail)) ≡ size (print (multi h b pre ps tail)) - count + added =
    (grows_one count added (in_multi h b pre q.0 q.1 q.3 tail) q.2 t w).longer ∙ ap (λ qs. size (print (multi h b pre qs tail)) - count + added) m in
    λ i. span n (size h.fields) (size (option_to_list h.separator)) (sym longer i) (multi_form b (digest_below d h) (size pre) (tail_sizes tail)) (p (digest_below d h) (respan ks count added own) t r i)

step_changes : (k : ℕ) (e : Entity) → StepChanges k e (step_to k e)
step_changes k (leaf h ls) = tt
step_changes zero (message h e) = tt
step_changes (suc zero) (message h e) = message_changes h e
step_changes (suc (suc k)) (message h e) = tt
step_changes k (multi h b pre ps t) = multi_changes k h b pre ps t (part_at k ps) (parts_made k ps) (part_changes k ps)

-- the lengths follow a change of the section at numbers
abbrev PlaceChanges : List ℕ → Entity → Option (List Frame × Entity) → Type 0
PlaceChanges ks e None = Unit {0}
PlaceChanges ks e (Some q) =
    (count added : ℕ) (own : Span → Span) (d : Bool) (t : Entity) → Grows count added q.1 t
    → ((n : ℕ) → own (span_of (default_at d q.0) n q.1) ≡ span_of (default_at d q.0) n t)
    → Grows count added e (plug q.0 t) × ((n : ℕ) → respan ks count added own (span_of d n e) ≡ span_of d n (plug q.0 t))

place_changed : (k : ℕ) (ks : List ℕ) (e : Entity) (f : Frame) (x : Entity) (o : Option (List Frame × Entity)) → plug_one f x ≡ e → StepChanges k e (Some (f, x)) → PlaceChanges ks x o → PlaceChanges (k ∷ ks) e (option_map (λ q. (f ∷ q.0, q.1)) o)
place_changed k ks e f x None m s p = tt
place_changed k ks e f x (Some q) m s p = λ count added own d t w r.
    let inner = p count added own (digest_in d f) t w r in (
      subst (λ y. Grows count added y (plug_one f (plug q.0 t))) m (grows_one count added f x (plug q.0 t) inner.0),
      s ks count added own d (plug q.0 t) inner.0 inner.1,
    )

places_changed : (k : ℕ) (ks : List ℕ) (e : Entity) → ((x : Entity) → PlaceChanges ks x (place_at ks x)) → (o : Option (Frame × Entity)) → MakesStep e o → StepChanges k e o
    → PlaceChanges (k ∷ ks) e (option_and_then (λ (r : Frame × Entity). option_map (λ (q : List Frame × Entity). (r.0 ∷ q.0, q.1)) (place_at ks r.1)) o)
places_changed k ks e f None m s = tt
places_changed k ks e f (Some r) m s = place_changed k ks e r.0 r.1 (place_at ks r.1) m s (f r.1)

place_changes : (ks : List ℕ) (e : Entity) → PlaceChanges ks e (place_at ks e)
place_changes [] e = λ count added own d t w r. (w, r)
place_changes (k ∷ ks) e = places_changed k ks e (place_changes ks) (step_to k e) (step_made k e) (step_changes k e)

pub respan_place : (ks : List ℕ) (e : Entity) (fs : List Frame) (s : Entity) → place_at ks e ≡ Some (fs, s) → PlaceChanges ks e (Some (fs, s))
respan_place ks e fs s h = subst (PlaceChanges ks e) h (place_changes ks e)
