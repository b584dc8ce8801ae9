-- Numbers that lead to a section lead to its lengths.
use Rattle.std.proofs.Common.{◌≡◌, ◌≤◌, ◌<◌, ◌+◌, ◌-◌, ◌^◌, ℕ, zero, suc, Bool, Option, None, Some, List, [], ◌∷◌, ap, subst, arith, option_and_then}
use Rattle.std.specs.Option.{option_map}
use Rattle.mk_line.specs.Lines.{TextLine}
use Rattle.mk_head.specs.Split.{Head, head_lines}
use Rattle.mk_tree.specs.Tree.{Entity, leaf, message, multi, Parts, no_parts, part, print, print_parts}
use Rattle.mk_tree.specs.Spans.{size, Span, span_of, spans_of, digest_below}
use Rattle.mk_tree.specs.Places.{Frame, in_multi, part_at, step_to, place_at, digest_in, default_at}
use Rattle.mk_tree.specs.Changed.{LeadsAt, LeadsTo}
use Rattle.mk_tree.proofs.Descent.{size_append}
use Rattle.mk_tree.proofs.Placed.{MakesParts, parts_made}
use Rattle.mk_tree.proofs.Respans.{size_around, size_multi}

abbrev PartLeads : ℕ → Parts → Option (Parts × TextLine × Entity × Parts) → Type 1
PartLeads k ps None = Unit {1}
PartLeads k ps (Some q) = (g : Bool) (P : Span → Type 0) → ((n : ℕ) → P (span_of g n q.2)) → LeadsAt k P (spans_of g ps)

part_later : (k : ℕ) (l : TextLine) (e : Entity) (ps : Parts) (o : Option (Parts × TextLine × Entity × Parts)) → PartLeads (suc k) ps o → PartLeads (suc (suc k)) (part l e ps) (option_map (λ q. (part l e q.0, q.1, q.2, q.3)) o)
part_later k l e ps None h = tt
part_later k l e ps (Some q) h = h

part_leads : (k : ℕ) (ps : Parts) → PartLeads k ps (part_at k ps)
part_leads k no_parts = tt
part_leads zero (part l e ps) = tt
part_leads (suc zero) (part l e ps) = λ g P h. h (size (l ∷ []))
part_leads (suc (suc k)) (part l e ps) = part_later k l e ps (part_at (suc k) ps) (part_leads (suc k) ps)

-- a section within another, and the lengths that lead to it
abbrev StepLeads : ℕ → Entity → Option (Frame × Entity) → Type 1
StepLeads k e None = Unit {1}
StepLeads k e (Some r) =
    (size (print r.1) ≤ size (print e))
    × ((ks : List ℕ) (count added : ℕ) (P : Span → Type 0) (d : Bool) → count ≤ size (print e) → size (print e) - count + added < 2 ^ 64 → ((n : ℕ) → LeadsTo ks count added P (span_of (digest_in d r.0) n r.1)) → (n : ℕ) → LeadsTo (k ∷ ks) count added P (span_of d n e))

multi_leads : (k : ℕ) (h : Head) (b : List ℕ) (pre : List TextLine) (ps : Parts) (t : Option (TextLine × List TextLine)) (o : Option (Parts × TextLine × Entity × Parts)) → MakesParts ps o → PartLeads k ps o
    → StepLeads k (multi h b pre ps t) (option_map (λ q. (in_multi h b pre q.0 q.1 q.3 t, q.2)) o)
multi_leads k h b pre ps t None m p = tt
multi_leads k h b pre ps t (Some q) m p = (
  omega (arith, size_multi h b pre ps t, size_around q.0 q.1 q.2 q.3, ap (λ qs. size (print_parts qs)) m),
  λ ks count added P d c w r n. (c, w, p (digest_below d h) (LeadsTo ks count added P) r),
)

step_leads : (k : ℕ) (e : Entity) → StepLeads k e (step_to k e)
step_leads k (leaf h ls) = tt
step_leads zero (message h e) = tt
step_leads (suc zero) (message h e) = (omega (arith, size_append (head_lines h) (print e)), λ ks count added P d c w r n. (c, w, r 0))
step_leads (suc (suc k)) (message h e) = tt
step_leads k (multi h b pre ps t) = multi_leads k h b pre ps t (part_at k ps) (parts_made k ps) (part_leads k ps)

own_leads : (count added : ℕ) (P : Span → Type 0) (d : Bool) (e : Entity) → count ≤ size (print e) → size (print e) - count + added < 2 ^ 64 → ((n : ℕ) → P (span_of d n e)) → (n : ℕ) → LeadsTo [] count added P (span_of d n e)
own_leads count added P d (leaf h ls) c w f n = ((c, w), f n)
own_leads count added P d (message h e) c w f n = ((c, w), f n)
own_leads count added P d (multi h b pre ps t) c w f n = ((c, w), f n)

abbrev PlaceLeads : List ℕ → Entity → Option (List Frame × Entity) → Type 1
PlaceLeads ks e None = Unit {1}
PlaceLeads ks e (Some q) =
    (size (print q.1) ≤ size (print e))
    × ((count added : ℕ) (P : Span → Type 0) (d : Bool) → count ≤ size (print q.1) → size (print e) - count + added < 2 ^ 64 → ((n : ℕ) → P (span_of (default_at d q.0) n q.1)) → (n : ℕ) → LeadsTo ks count added P (span_of d n e))

place_later : (k : ℕ) (ks : List ℕ) (e : Entity) (f : Frame) (x : Entity) (o : Option (List Frame × Entity)) → StepLeads k e (Some (f, x)) → PlaceLeads ks x o → PlaceLeads (k ∷ ks) e (option_map (λ q. (f ∷ q.0, q.1)) o)
place_later k ks e f x None s p = tt
place_later k ks e f x (Some q) s p = (
  omega (arith, s.0, p.0),
  λ count added P d c w r n. s.1 ks count added P d (omega (arith, c, s.0, p.0)) w (p.1 count added P (digest_in d f) c (omega (arith, c, s.0, p.0, w)) r) n,
)

places_lead : (k : ℕ) (ks : List ℕ) (e : Entity) → ((x : Entity) → PlaceLeads ks x (place_at ks x)) → (o : Option (Frame × Entity)) → StepLeads k e o
    → PlaceLeads (k ∷ ks) e (option_and_then (λ (r : Frame × Entity). option_map (λ (q : List Frame × Entity). (r.0 ∷ q.0, q.1)) (place_at ks r.1)) o)
places_lead k ks e f None s = tt
places_lead k ks e f (Some r) s = place_later k ks e r.0 r.1 (place_at ks r.1) s (f r.1)

place_leads : (ks : List ℕ) (e : Entity) → PlaceLeads ks e (place_at ks e)
place_leads [] e = (omega arith, λ count added P d c w r n. own_leads count added P d e c w r n)
place_leads (k ∷ ks) e = places_lead k ks e (place_leads ks) (step_to k e) (step_leads k e)

pub leads_place : (ks : List ℕ) (e : Entity) (fs : List Frame) (s : Entity) → place_at ks e ≡ Some (fs, s) → PlaceLeads ks e (Some (fs, s))
leads_place ks e fs s h = subst (PlaceLeads ks e) h (place_leads ks e)
