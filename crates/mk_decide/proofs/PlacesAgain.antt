-- Numbers that lead to a section lead to what is put there, and on from it.
use Rattle.std.proofs.Common.{◌≡◌, ◌==◌, ◌++◌, if◌then◌else◌, ℕ, zero, suc, Bool, true, false, Option, None, Some, List, [], ◌∷◌, refl, ap, ◌∙◌, option_and_then}
use Rattle.std.specs.Option.{option_map}
use Rattle.mk_line.specs.Lines.{TextLine}
use Rattle.mk_head.specs.Split.{Head}
use Rattle.mk_tree.specs.Tree.{Entity, leaf, message, multi, Parts, no_parts, part}
use Rattle.mk_tree.specs.Documents.{Document}
use Rattle.mk_tree.specs.Sections.{Placed, root_of, section_below, section_at}
use Rattle.mk_tree.specs.Places.{Frame, in_multi, append_parts, plug_one, plug, part_at, step_to, place_at, placed}
use Rattle.mk_tree.proofs.Placed.{sections_placed}
use Rattle.mk_decide.specs.Plans.{place_of}

-- a part in its place
abbrev PartAgain : ℕ → Option (Parts × TextLine × Entity × Parts) → Type 0
PartAgain k None = Unit {0}
PartAgain k (Some q) = (x : Entity) → part_at k (append_parts q.0 (part q.1 x q.3)) ≡ Some (q.0, q.1, x, q.3)

part_later : (k : ℕ) (l : TextLine) (e : Entity) (o : Option (Parts × TextLine × Entity × Parts)) → PartAgain (suc k) o → PartAgain (suc (suc k)) (option_map (λ q. (part l e q.0, q.1, q.2, q.3)) o)
part_later k l e None h = tt
part_later k l e (Some q) h = λ x. ap (option_map (λ (q : Parts × TextLine × Entity × Parts). (part l e q.0, q.1, q.2, q.3))) (h x)

part_again : (k : ℕ) (ps : Parts) → PartAgain k (part_at k ps)
part_again k no_parts = tt
part_again zero (part l e ps) = tt
part_again (suc zero) (part l e ps) = λ x. refl
part_again (suc (suc k)) (part l e ps) = part_later k l e (part_at (suc k) ps) (part_again (suc k) ps)

-- a section directly below
abbrev StepAgain : ℕ → Option (Frame × Entity) → Type 0
StepAgain k None = Unit {0}
StepAgain k (Some r) = (x : Entity) → step_to k (plug_one r.0 x) ≡ Some (r.0, x)

multi_again : (k : ℕ) (h : Head) (b : List ℕ) (pre : List TextLine) (t : Option (TextLine × List TextLine)) (o : Option (Parts × TextLine × Entity × Parts)) → PartAgain k o → StepAgain k (option_map (λ q. (in_multi h b pre q.0 q.1 q.3 t, q.2)) o)
multi_again k h b pre t None m = tt
multi_again k h b pre t (Some q) m = λ x. ap (option_map (λ (q : Parts × TextLine × Entity × Parts). (in_multi h b pre q.0 q.1 q.3 t, q.2))) (m x)

step_again : (k : ℕ) (e : Entity) → StepAgain k (step_to k e)
step_again k (leaf h ls) = tt
step_again zero (message h e) = tt
step_again (suc zero) (message h e) = λ x. refl
step_again (suc (suc k)) (message h e) = tt
step_again k (multi h b pre ps t) = multi_again k h b pre t (part_at k ps) (part_again k ps)

-- a section at numbers, and others below it
abbrev pub below_place : List Frame → Option (List Frame × Entity) → Option (List Frame × Entity)
below_place fs o = option_map (λ q. (fs ++ q.0, q.1)) o

abbrev PlaceAgain : List ℕ → Option (List Frame × Entity) → Type 0
PlaceAgain ks None = Unit {0}
PlaceAgain ks (Some q) = (js : List ℕ) (x : Entity) → place_at (ks ++ js) (plug q.0 x) ≡ below_place q.0 (place_at js x)

same_place : (o : Option (List Frame × Entity)) → o ≡ below_place [] o
same_place None = refl
same_place (Some q) = refl

further_place : (f : Frame) (fs : List Frame) (o : Option (List Frame × Entity)) → option_map (λ (q : List Frame × Entity). (f ∷ q.0, q.1)) (below_place fs o) ≡ below_place (f ∷ fs) o
further_place f fs None = refl
further_place f fs (Some q) = refl

place_later : (k : ℕ) (ks : List ℕ) (r : Frame × Entity) (o : Option (List Frame × Entity)) → ((x : Entity) → step_to k (plug_one r.0 x) ≡ Some (r.0, x)) → PlaceAgain ks o → PlaceAgain (k ∷ ks) (option_map (λ q. (r.0 ∷ q.0, q.1)) o)
place_later k ks r None s h = tt
place_later k ks r (Some q) s h = λ js x.
    ap (λ o. option_and_then (λ (p : Frame × Entity). option_map (λ (q : List Frame × Entity). (p.0 ∷ q.0, q.1)) (place_at (ks ++ js) p.1)) o) (s (plug q.0 x))
    ∙ (ap (λ o. option_map (λ (q : List Frame × Entity). (r.0 ∷ q.0, q.1)) o) (h js x) ∙ further_place r.0 q.0 (place_at js x))

steps_again : (k : ℕ) (ks : List ℕ) (o : Option (Frame × Entity)) → StepAgain k o → ((y : Entity) → PlaceAgain ks (place_at ks y)) → PlaceAgain (k ∷ ks) (option_and_then (λ p. option_map (λ q. (p.0 ∷ q.0, q.1)) (place_at ks p.1)) o)
steps_again k ks None s h = tt
steps_again k ks (Some r) s h = place_later k ks r (place_at ks r.1) s (h r.1)

place_again : (ks : List ℕ) (e : Entity) → PlaceAgain ks (place_at ks e)
place_again [] e = λ js x. same_place (place_at js x)
place_again (k ∷ ks) e = steps_again k ks (step_to k e) (step_again k e) (place_again ks)

-- with the root's number at the start
abbrev pub PathAgain : List ℕ → Option (List Frame × Entity) → Type 0
PathAgain path None = Unit {0}
PathAgain path (Some q) = (js : List ℕ) (x : Entity) → place_of (path ++ js) (plug q.0 x) ≡ below_place q.0 (place_at js x)

path_by : (k : ℕ) (ks : List ℕ) (t : Bool) (o : Option (List Frame × Entity)) → (k == 1) ≡ t → PlaceAgain ks o → PathAgain (k ∷ ks) (if t then o else None)
path_by k ks true None e h = tt
path_by k ks true (Some q) e h = λ js x. ap (λ t. if t then place_at (ks ++ js) (plug q.0 x) else None) e ∙ h js x
path_by k ks false o e h = tt

pub path_again : (path : List ℕ) (root : Entity) → PathAgain path (place_of path root)
path_again [] root = tt
path_again (k ∷ ks) root = path_by k ks (k == 1) (place_at ks root) refl (place_again ks root)

-- the section at a path, by what stands around it
at_by : (t : Bool) (document : Document) (o : Option Placed) (q : Option (List Frame × Entity)) → o ≡ option_map (λ r. placed document.envelope r.0 r.1) q → (if t then o else None) ≡ option_map (λ r. placed document.envelope r.0 r.1) (if t then q else None)
at_by true document o q e = e
at_by false document o q e = refl

pub section_there : (path : List ℕ) (t : Document) → section_at path t ≡ option_map (λ q. placed t.envelope q.0 q.1) (place_of path t.root)
section_there [] t = refl
section_there (k ∷ ks) t = at_by (k == 1) t (section_below ks (root_of t)) (place_at ks t.root) (sections_placed t ks)
