-- The section around a section: what stands around it, and which of its sections the other is.
use Rattle.std.proofs.Common.{◌≡◌, ◌-◌, ◌++◌, ℕ, Option, None, Some, List, [], ◌∷◌, refl, ap, sym, ◌∙◌, subst, length, take, get_or, arith, length-append, option_and_then}
use Rattle.std.proofs.Math.Seq.{take-append_seam, get_or-append_seam}
use Rattle.std.specs.Option.{option_map}
use Rattle.mk_tree.specs.Tree.{Entity}
use Rattle.mk_tree.specs.Documents.{tree}
use Rattle.mk_tree.specs.Sections.{Placed, section_at}
use Rattle.mk_tree.specs.Places.{Frame, step_to, place_at, placed}
use Rattle.mk_decide.specs.SectionAnswers.{outer_path, last_number}
use Rattle.mk_decide.proofs.PlacesAgain.{section_there}
use Rattle.mk_decide.proofs.SectionSites.{IsSite}

abbrev onto : Frame → Option (List Frame × Entity) → Option (List Frame × Entity)
onto f o = option_map {U = List Frame × Entity} (λ (q : List Frame × Entity). (f ∷ q.0, q.1)) o

abbrev following : List ℕ → Option (Frame × Entity) → Option (List Frame × Entity)
following ks o = option_and_then {U = List Frame × Entity} (λ (p : Frame × Entity). onto p.0 (place_at ks p.1)) o

-- a place below an entity, by numbers and one more
record HasParent (ks : List ℕ) (k : ℕ) (e : Entity) (fs : List Frame) (s : Entity) : Type 0 where
  around : List Frame
  frame : Frame
  parent : Entity
  frames : fs ≡ around ++ frame ∷ []
  found : place_at ks e ≡ Some (around, parent)
  step : step_to k parent ≡ Some (frame, s)

abbrev pair_or : List Frame × Entity → Option (List Frame × Entity) → List Frame × Entity
pair_or d None = d
pair_or d (Some q) = q

pairs : (gs fs : List Frame) (e s : Entity) → ◌≡◌ {A = Option (List Frame × Entity)} (Some (gs, e)) (Some (fs, s)) → (gs ≡ fs) × (e ≡ s)
pairs gs fs e s h = (ap (λ o. (pair_or (fs, s) o).0) h, ap (λ o. (pair_or (fs, s) o).1) h)

none_some : {A : Type 0} (q : List Frame × Entity) → ◌≡◌ {A = Option (List Frame × Entity)} None (Some q) → A
none_some q h = cc

parent_first : (k : ℕ) (e : Entity) (fs : List Frame) (s : Entity) (o : Option (Frame × Entity)) → step_to k e ≡ o → following [] o ≡ Some (fs, s) → HasParent [] k e fs s
parent_first k e fs s None h q = none_some (fs, s) q
parent_first k e fs s (Some r) h q =
    let p = pairs (r.0 ∷ []) fs r.1 s q in
    record { around = []; frame = r.0; parent = e; frames = sym p.0; found = refl; step = h ∙ ap (λ x. Some (r.0, x)) p.1 }

parent_deeper : (j : ℕ) (ks : List ℕ) (k : ℕ) (e : Entity) (fs : List Frame) (s : Entity) (r : Frame × Entity) (o : Option (List Frame × Entity)) → step_to j e ≡ Some r → ((gs : List Frame) (y : Entity) → o ≡ Some (gs, y) → HasParent ks k r.1 gs y)
    → onto r.0 o ≡ Some (fs, s) → HasParent (j ∷ ks) k e fs s
parent_deeper j ks k e fs s r None h f q = none_some (fs, s) q
parent_deeper j ks k e fs s r (Some x) h f q =
    let p = pairs (r.0 ∷ x.0) fs x.1 s q in
    let b = f x.0 x.1 refl in
    record {
      around = r.0 ∷ b.around;
      frame = b.frame;
      parent = b.parent;
      frames = sym p.0 ∙ ap (λ gs. r.0 ∷ gs) b.frames;
      found = ap (following ks) h ∙ ap (onto r.0) b.found;
      step = b.step ∙ ap (λ y. Some (b.frame, y)) p.1;
    }

parent_next : (j : ℕ) (ks : List ℕ) (k : ℕ) (e : Entity) (fs : List Frame) (s : Entity) (o : Option (Frame × Entity)) → step_to j e ≡ o → ((x : Entity) (gs : List Frame) (y : Entity) → place_at (ks ++ k ∷ []) x ≡ Some (gs, y) → HasParent ks k x gs y)
    → following (ks ++ k ∷ []) o ≡ Some (fs, s) → HasParent (j ∷ ks) k e fs s
parent_next j ks k e fs s None h f q = none_some (fs, s) q
parent_next j ks k e fs s (Some r) h f q = parent_deeper j ks k e fs s r (place_at (ks ++ k ∷ []) r.1) h (f r.1) q

parent_there : (ks : List ℕ) (k : ℕ) (e : Entity) (fs : List Frame) (s : Entity) → place_at (ks ++ k ∷ []) e ≡ Some (fs, s) → HasParent ks k e fs s
parent_there [] k e fs s h = parent_first k e fs s (step_to k e) refl h
parent_there (j ∷ ks) k e fs s h = parent_next j ks k e fs s (step_to j e) refl (parent_there ks k) h

-- numbers and the last
record IsEnded (ks : List ℕ) : Type 0 where
  front : List ℕ
  last : ℕ
  is : ks ≡ front ++ last ∷ []

ended : (k : ℕ) (ks : List ℕ) → IsEnded (k ∷ ks)
ended k [] = record { front = []; last = k; is = refl }
ended k (j ∷ ks) = let r = ended j ks in record { front = k ∷ r.front; last = r.last; is = ap (λ js. k ∷ js) r.is }

short : (front : List ℕ) (last : ℕ) → length ((1 ∷ front) ++ last ∷ []) - 1 ≡ length (1 ∷ front)
short front last = omega (arith, length-append (1 ∷ front) (last ∷ []))

outer_is : (front : List ℕ) (last : ℕ) → outer_path (1 ∷ (front ++ last ∷ [])) ≡ 1 ∷ front
outer_is front last = ap (λ n. take n ((1 ∷ front) ++ last ∷ [])) (short front last) ∙ take-append_seam (1 ∷ front) (last ∷ [])

last_is : (front : List ℕ) (last : ℕ) → last_number (1 ∷ (front ++ last ∷ [])) ≡ last
last_is front last = ap (λ n. get_or ((1 ∷ front) ++ last ∷ []) n 0) (short front last) ∙ get_or-append_seam (1 ∷ front) last [] 0

-- the section around, in its place
pub record IsAround (text path : List ℕ) (number : ℕ) (fs : List Frame) (s : Entity) (q : Placed) : Type 0 where
  pub numbers : List ℕ
  pub around : List Frame
  pub frame : Frame
  pub frames : fs ≡ around ++ frame ∷ []
  pub placed_is : q ≡ placed (tree text).envelope around q.entity
  pub found : section_at (1 ∷ numbers) (tree text) ≡ Some q
  pub path_is : path ≡ (1 ∷ numbers) ++ number ∷ []
  pub there : place_at numbers (tree text).root ≡ Some (around, q.entity)
  pub step : step_to number q.entity ≡ Some (frame, s)

-- none is around the root
abbrev pub AroundIs : List ℕ → List ℕ → ℕ → List Frame → Entity → Option Placed → Type 0
AroundIs text path number fs s None = fs ≡ []
AroundIs text path number fs s (Some q) = IsAround text path number fs s q

around_by : (text numbers : List ℕ) (fs : List Frame) (s : Entity) → place_at numbers (tree text).root ≡ Some (fs, s) → AroundIs text (1 ∷ numbers) (last_number (1 ∷ numbers)) fs s (section_at (outer_path (1 ∷ numbers)) (tree text))
around_by text [] fs s h = sym (pairs [] fs (tree text).root s h).0
around_by text (k ∷ ks) fs s h =
    let t = tree text in
    let e = ended k ks in
    let b = parent_there e.front e.last t.root fs s (ap (λ js. place_at js t.root) (sym e.is) ∙ h) in
    let q = placed t.envelope b.around b.parent in
    let found : section_at (1 ∷ e.front) t ≡ Some q = section_there (1 ∷ e.front) t ∙ ap (λ o. option_map (λ (r : List Frame × Entity). placed t.envelope r.0 r.1) o) b.found in
    let path : outer_path (1 ∷ (k ∷ ks)) ≡ 1 ∷ e.front = ap (λ js. outer_path (1 ∷ js)) e.is ∙ outer_is e.front e.last in
    let number : last_number (1 ∷ (k ∷ ks)) ≡ e.last = ap (λ js. last_number (1 ∷ js)) e.is ∙ last_is e.front e.last in
    let there : section_at (outer_path (1 ∷ (k ∷ ks))) t ≡ Some q = ap (λ p. section_at p t) path ∙ found in
    let is : IsAround text (1 ∷ (k ∷ ks)) e.last fs s q = record { numbers = e.front; around = b.around; frame = b.frame; frames = b.frames; placed_is = refl; found = found; path_is = ap (λ js. 1 ∷ js) e.is; there = b.found; step = b.step } in
    subst (AroundIs text (1 ∷ (k ∷ ks)) (last_number (1 ∷ (k ∷ ks))) fs s) (sym there) (subst (λ n. IsAround text (1 ∷ (k ∷ ks)) n fs s q) (sym number) is)

pub around_told : (text path : List ℕ) (p : Placed) (s : IsSite text path p) → AroundIs text path (last_number path) s.around p.entity (section_at (outer_path path) (tree text))
around_told text path p s = subst (λ js. AroundIs text js (last_number js) s.around p.entity (section_at (outer_path js) (tree text))) (sym s.path_is) (around_by text s.numbers s.around p.entity s.found)
