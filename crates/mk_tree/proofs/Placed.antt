-- The section that is found at numbers is the one that the frames around it say, and put back there it gives the tree.
use Rattle.std.proofs.Common.{◌≡◌, ◌+◌, ◌++◌, ◌||◌, ℕ, zero, suc, Bool, true, false, Option, None, Some, List, [], ◌∷◌, refl, ap, sym, ◌∙◌, arith, append_assoc, subst, option_and_then}
use Rattle.std.specs.Option.{option_map, option_to_list}
use Rattle.mk_line.specs.Lines.{TextLine, is_nil}
use Rattle.mk_head.specs.Split.{Head, head_lines}
use Rattle.std.specs.Prelude.{not}
use Rattle.mk_head.specs.Fields.{counted}
use Rattle.mk_tree.specs.Cutting.{tail_lines}
use Rattle.mk_tree.specs.Tree.{Entity, leaf, message, multi, Parts, no_parts, part, print, print_parts}
use Rattle.mk_tree.specs.Documents.{Document}
use Rattle.mk_tree.specs.Spans.{size, digest_below}
use Rattle.mk_tree.specs.Sections.{Placed, has_part, parts_placed, children_of, root_of, section_below}
use Rattle.mk_tree.proofs.TreeNames.{has_tail}
use Rattle.mk_tree.specs.Places.{Frame, in_message, in_multi, append_parts, plug_one, plug, part_at, step_to, place_at, default_at, lines_before, lines_after, placed}
use Rattle.mk_tree.proofs.Descent.{size_append}
use Rattle.mk_tree.proofs.Plugs.{lines_end}

or_end : (a : Bool) → (a || false) ≡ a
or_end true = refl
or_end false = refl

or_regroup : (a b c : Bool) → (a || (b || c)) ≡ ((a || b) || c)
or_regroup true b c = refl
or_regroup false b c = refl

line_append : (xs ys : List TextLine) → not (is_nil (xs ++ ys)) ≡ (not (is_nil xs) || not (is_nil ys))
line_append [] ys = refl
line_append (x ∷ xs) ys = refl

map_map : {A B C : Type 0} (f : A → C) (g : B → C) (h : A → B) → ((a : A) → f a ≡ g (h a)) → (o : Option A) → option_map f o ≡ option_map g (option_map h o)
map_map f g h e None = refl
map_map f g h e (Some a) = ap (λ x. Some x) (e a)

map_same : {A B : Type 0} (f g : A → B) → ((a : A) → f a ≡ g a) → (o : Option A) → option_map f o ≡ option_map g o
map_same f g e None = refl
map_same f g e (Some a) = ap (λ x. Some x) (e a)

-- a section below another, by what stands between them
abbrev pub placed_in : Placed → List Frame → Entity → Placed
placed_in p fs s = record {
  start = p.start + size (lines_before fs);
  followed = not (is_nil (lines_after fs)) || p.followed;
  digest = default_at p.digest fs;
  entity = s;
}

placed_self : (p : Placed) → placed_in p [] p.entity ≡ p
placed_self p = let e : p.start + 0 ≡ p.start = omega arith in λ i. record { start = e i; followed = p.followed; digest = p.digest; entity = p.entity }

before_join : (f : Frame) (fs : List Frame) → lines_before (f ∷ fs) ≡ lines_before (f ∷ []) ++ lines_before fs
before_join (in_message h) fs = ap (λ xs. xs ++ lines_before fs) (sym (lines_end (head_lines h)))
before_join (in_multi h b pre before l after t) fs = simp append_assoc refl

after_join : (f : Frame) (fs : List Frame) → lines_after (f ∷ fs) ≡ lines_after fs ++ lines_after (f ∷ [])
after_join (in_message h) fs = sym (lines_end (lines_after fs))
after_join (in_multi h b pre before l after t) fs = refl

start_join : (start : ℕ) (f : Frame) (fs : List Frame) → (start + size (lines_before (f ∷ []))) + size (lines_before fs) ≡ start + size (lines_before (f ∷ fs))
start_join start f fs =
    let e : size (lines_before (f ∷ fs)) ≡ size (lines_before (f ∷ [])) + size (lines_before fs) = ap size (before_join f fs) ∙ size_append (lines_before (f ∷ [])) (lines_before fs) in
    omega (arith, e)

followed_join : (followed : Bool) (f : Frame) (fs : List Frame) → (not (is_nil (lines_after fs)) || (not (is_nil (lines_after (f ∷ []))) || followed)) ≡ (not (is_nil (lines_after (f ∷ fs))) || followed)
followed_join followed f fs =
    or_regroup (not (is_nil (lines_after fs))) (not (is_nil (lines_after (f ∷ [])))) followed
    ∙ ap (λ a. a || followed) (sym (ap (λ ls. not (is_nil ls)) (after_join f fs) ∙ line_append (lines_after fs) (lines_after (f ∷ []))))

placed_join : (p : Placed) (f : Frame) (x : Entity) (fs : List Frame) (s : Entity) → placed_in (placed_in p (f ∷ []) x) fs s ≡ placed_in p (f ∷ fs) s
placed_join p f x fs s = λ i. record {
  start = start_join p.start f fs i;
  followed = followed_join p.followed f fs i;
  digest = default_at p.digest (f ∷ fs);
  entity = s;
}

-- a part in its place, by the parts before it and after it
abbrev part_placed : ℕ → Bool → Bool → Parts × TextLine × Entity × Parts → Placed
part_placed place followed digest q = record {
  start = place + size (print_parts q.0 ++ (q.1 ∷ []));
  followed = has_part q.3 || followed;
  digest = digest;
  entity = q.2;
}

part_later : (place : ℕ) (followed digest : Bool) (l : TextLine) (e : Entity) (q : Parts × TextLine × Entity × Parts) → part_placed (place + size (l ∷ []) + size (print e)) followed digest q ≡ part_placed place followed digest (part l e q.0, q.1, q.2, q.3)
part_later place followed digest l e q =
    let a : size ((l ∷ []) ++ ((print e ++ print_parts q.0) ++ (q.1 ∷ []))) ≡ size (l ∷ []) + size ((print e ++ print_parts q.0) ++ (q.1 ∷ [])) = size_append (l ∷ []) ((print e ++ print_parts q.0) ++ (q.1 ∷ [])) in
    let b : size ((print e ++ print_parts q.0) ++ (q.1 ∷ [])) ≡ size (print e) + size (print_parts q.0 ++ (q.1 ∷ [])) = ap size (append_assoc (print e) (print_parts q.0) (q.1 ∷ [])) ∙ size_append (print e) (print_parts q.0 ++ (q.1 ∷ [])) in
    let c : (place + size (l ∷ []) + size (print e)) + size (print_parts q.0 ++ (q.1 ∷ [])) ≡ place + size ((l ∷ []) ++ ((print e ++ print_parts q.0) ++ (q.1 ∷ []))) = omega (arith, a, b) in
    λ i. record { start = c i; followed = has_part q.3 || followed; digest = digest; entity = q.2 }

part_counted : (k place : ℕ) (followed digest : Bool) (ps : Parts) → counted k (parts_placed place followed digest ps) ≡ option_map (part_placed place followed digest) (part_at k ps)
part_counted k place followed digest no_parts = refl
part_counted zero place followed digest (part l e ps) = refl
part_counted (suc zero) place followed digest (part l e ps) = refl
part_counted (suc (suc k)) place followed digest (part l e ps) =
    part_counted (suc k) (place + size (l ∷ []) + size (print e)) followed digest ps
    ∙ map_map (part_placed (place + size (l ∷ []) + size (print e)) followed digest) (part_placed place followed digest) (λ q. (part l e q.0, q.1, q.2, q.3)) (part_later place followed digest l e) (part_at (suc k) ps)

line_parts : (ps : Parts) → not (is_nil (print_parts ps)) ≡ has_part ps
line_parts no_parts = refl
line_parts (part l e ps) = refl

line_tail : (t : Option (TextLine × List TextLine)) → not (is_nil (tail_lines t)) ≡ has_tail t
line_tail None = refl
line_tail (Some p) = refl

part_in : (p : Placed) (h : Head) (b : List ℕ) (pre : List TextLine) (t : Option (TextLine × List TextLine)) (q : Parts × TextLine × Entity × Parts) → part_placed (p.start + size (head_lines h) + size pre) (has_tail t || p.followed) (digest_below p.digest h) q ≡ placed_in p (in_multi h b pre q.0 q.1 q.3 t ∷ []) q.2
part_in p h b pre t q =
    let a : size (head_lines h ++ (pre ++ (print_parts q.0 ++ (q.1 ∷ [])))) ≡ size (head_lines h) + size (pre ++ (print_parts q.0 ++ (q.1 ∷ []))) = size_append (head_lines h) (pre ++ (print_parts q.0 ++ (q.1 ∷ []))) in
    let c : size (pre ++ (print_parts q.0 ++ (q.1 ∷ []))) ≡ size pre + size (print_parts q.0 ++ (q.1 ∷ [])) = size_append pre (print_parts q.0 ++ (q.1 ∷ [])) in
    let start : (p.start + size (head_lines h) + size pre) + size (print_parts q.0 ++ (q.1 ∷ [])) ≡ p.start + size (head_lines h ++ (pre ++ (print_parts q.0 ++ (q.1 ∷ [])))) = omega (arith, a, c) in
    let followed : (has_part q.3 || (has_tail t || p.followed)) ≡ (not (is_nil (print_parts q.3 ++ tail_lines t)) || p.followed) =
    rw (line_append (print_parts q.3) (tail_lines t), line_parts q.3, line_tail t) (or_regroup (has_part q.3) (has_tail t) p.followed) in
    λ i. record { start = start i; followed = followed i; digest = digest_below p.digest h; entity = q.2 }

message_in : (p : Placed) (h : Head) (e : Entity) (k : ℕ) → counted k (record { start = p.start + size (head_lines h); followed = p.followed; digest = false; entity = e } ∷ []) ≡ option_map (λ (r : Frame × Entity). placed_in p (r.0 ∷ []) r.1) (counted k ((in_message h, e) ∷ []))
message_in p h e zero = refl
message_in p h e (suc zero) = λ i. Some (record { start = p.start + size (sym (lines_end (head_lines h)) i); followed = p.followed; digest = false; entity = e })
message_in p h e (suc (suc k)) = refl

-- one step down
pub step_placed : (k : ℕ) (p : Placed) (e : Entity) → counted k (children_of p e) ≡ option_map (λ (r : Frame × Entity). placed_in p (r.0 ∷ []) r.1) (step_to k e)
step_placed k p (leaf h ls) = refl
step_placed k p (message h e) = message_in p h e k
step_placed k p (multi h b pre ps t) =
    part_counted k (p.start + size (head_lines h) + size pre) (has_tail t || p.followed) (digest_below p.digest h) ps
    ∙ map_map (part_placed (p.start + size (head_lines h) + size pre) (has_tail t || p.followed) (digest_below p.digest h)) (λ (r : Frame × Entity). placed_in p (r.0 ∷ []) r.1) (λ q. (in_multi h b pre q.0 q.1 q.3 t, q.2)) (part_in p h b pre t) (part_at k ps)

-- the section at numbers below another, by what stands between them
abbrev IsPlacedBelow : List ℕ → Placed → Type 0
IsPlacedBelow ks p = section_below ks p ≡ option_map (λ (q : List Frame × Entity). placed_in p q.0 q.1) (place_at ks p.entity)

steps_placed : (ks : List ℕ) (p : Placed) → ((x : Placed) → IsPlacedBelow ks x) → (o : Option (Frame × Entity))
    → option_and_then (section_below ks) (option_map (λ (r : Frame × Entity). placed_in p (r.0 ∷ []) r.1) o) ≡ option_map (λ (q : List Frame × Entity). placed_in p q.0 q.1) (option_and_then (λ (r : Frame × Entity). option_map (λ (q : List Frame × Entity). (r.0 ∷ q.0, q.1)) (place_at ks r.1)) o)
steps_placed ks p f None = refl
steps_placed ks p f (Some r) =
    f (placed_in p (r.0 ∷ []) r.1)
    ∙ map_map (λ q. placed_in (placed_in p (r.0 ∷ []) r.1) q.0 q.1) (λ (q : List Frame × Entity). placed_in p q.0 q.1) (λ q. (r.0 ∷ q.0, q.1)) (λ q. placed_join p r.0 r.1 q.0 q.1) (place_at ks r.1)

section_placed : (ks : List ℕ) (p : Placed) → IsPlacedBelow ks p
section_placed [] p = ap (λ x. Some x) (sym (placed_self p))
section_placed (k ∷ ks) p = ap (λ o. option_and_then (section_below ks) o) (step_placed k p p.entity) ∙ steps_placed ks p (section_placed ks) (step_to k p.entity)

root_placed : (t : Document) (fs : List Frame) (s : Entity) → placed_in (root_of t) fs s ≡ placed t.envelope fs s
root_placed t fs s = λ i. record {
  start = sym (size_append (option_to_list t.envelope) (lines_before fs)) i;
  followed = or_end (not (is_nil (lines_after fs))) i;
  digest = default_at false fs;
  entity = s;
}

pub sections_placed : (t : Document) (ks : List ℕ) → section_below ks (root_of t) ≡ option_map (λ q. placed t.envelope q.0 q.1) (place_at ks t.root)
sections_placed t ks =
    section_placed ks (root_of t)
    ∙ map_same (λ q. placed_in (root_of t) q.0 q.1) (λ q. placed t.envelope q.0 q.1) (λ q. root_placed t q.0 q.1) (place_at ks t.root)

-- what is found, put back where it stood, gives what it was found in
abbrev pub MakesParts : Parts → Option (Parts × TextLine × Entity × Parts) → Type 0
MakesParts ps None = Unit {0}
MakesParts ps (Some q) = append_parts q.0 (part q.1 q.2 q.3) ≡ ps

parts_later : (l : TextLine) (e : Entity) (ps : Parts) (o : Option (Parts × TextLine × Entity × Parts)) → MakesParts ps o → MakesParts (part l e ps) (option_map (λ q. (part l e q.0, q.1, q.2, q.3)) o)
parts_later l e ps None h = tt
parts_later l e ps (Some q) h = ap (λ qs. part l e qs) h

pub parts_made : (k : ℕ) (ps : Parts) → MakesParts ps (part_at k ps)
parts_made k no_parts = tt
parts_made zero (part l e ps) = tt
parts_made (suc zero) (part l e ps) = refl
parts_made (suc (suc k)) (part l e ps) = parts_later l e ps (part_at (suc k) ps) (parts_made (suc k) ps)

abbrev pub MakesStep : Entity → Option (Frame × Entity) → Type 0
MakesStep e None = Unit {0}
MakesStep e (Some r) = plug_one r.0 r.1 ≡ e

multi_made : (h : Head) (b : List ℕ) (pre : List TextLine) (ps : Parts) (t : Option (TextLine × List TextLine)) (o : Option (Parts × TextLine × Entity × Parts)) → MakesParts ps o → MakesStep (multi h b pre ps t) (option_map (λ q. (in_multi h b pre q.0 q.1 q.3 t, q.2)) o)
multi_made h b pre ps t None m = tt
multi_made h b pre ps t (Some q) m = ap (λ qs. multi h b pre qs t) m

pub step_made : (k : ℕ) (e : Entity) → MakesStep e (step_to k e)
step_made k (leaf h ls) = tt
step_made zero (message h e) = tt
step_made (suc zero) (message h e) = refl
step_made (suc (suc k)) (message h e) = tt
step_made k (multi h b pre ps t) = multi_made h b pre ps t (part_at k ps) (parts_made k ps)

abbrev Makes : Entity → Option (List Frame × Entity) → Type 0
Makes e None = Unit {0}
Makes e (Some q) = plug q.0 q.1 ≡ e

place_later : (f : Frame) (x e : Entity) (o : Option (List Frame × Entity)) → plug_one f x ≡ e → Makes x o → Makes e (option_map (λ q. (f ∷ q.0, q.1)) o)
place_later f x e None p m = tt
place_later f x e (Some q) p m = ap (plug_one f) m ∙ p

steps_made : (ks : List ℕ) (e : Entity) → ((x : Entity) → Makes x (place_at ks x)) → (o : Option (Frame × Entity)) → MakesStep e o → Makes e (option_and_then (λ (r : Frame × Entity). option_map (λ (q : List Frame × Entity). (r.0 ∷ q.0, q.1)) (place_at ks r.1)) o)
steps_made ks e f None m = tt
steps_made ks e f (Some r) m = place_later r.0 r.1 e (place_at ks r.1) m (f r.1)

place_made : (ks : List ℕ) (e : Entity) → Makes e (place_at ks e)
place_made [] e = refl
place_made (k ∷ ks) e = steps_made ks e (place_made ks) (step_to k e) (step_made k e)

pub place_plug : (ks : List ℕ) (e : Entity) (fs : List Frame) (s : Entity) → place_at ks e ≡ Some (fs, s) → plug fs s ≡ e
place_plug ks e fs s h = subst (Makes e) h (place_made ks e)
