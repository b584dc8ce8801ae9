-- What stands around a section, by the sections on the way to it and by its frames.
use Rattle.std.proofs.Common.{◌≡◌, ◌+◌, if◌then◌else◌, ℕ, zero, suc, Bool, false, not, Option, None, Some, List, [], ◌∷◌, refl, ap, sym, ◌∙◌, subst, option_and_then, arith}
use Rattle.std.specs.Option.{option_map}
use Rattle.mk_line.specs.Lines.{TextLine}
use Rattle.mk_head.specs.Split.{Head}
use Rattle.mk_head.specs.Fields.{counted}
use Rattle.mk_tree.specs.Tree.{Entity, leaf, message, multi, Parts}
use Rattle.mk_tree.specs.Sections.{Placed, boundary_in, children}
use Rattle.mk_tree.specs.Places.{Frame, in_message, in_multi, step_to, place_at, part_at}
use Rattle.mk_tree.proofs.Placed.{placed_in, step_placed}
use Rattle.mk_decide.specs.Outcomes.{hit}
use Rattle.mk_decide.specs.Around.{marks_any, hit_below, glues, or_false, glued_below}
use Rattle.mk_decide.specs.Looks.{has_separator}

-- what a frame says of the section that it is one of
abbrev frame_boundary : Frame → Option (List ℕ)
frame_boundary (in_message h) = None
frame_boundary (in_multi h b pre before l after t) = Some b

abbrev pub frame_glues : Frame → Bool
frame_glues (in_message h) = not (has_separator h.separator)
frame_glues (in_multi h b pre before l after t) = false

abbrev pub frames_glued : Bool → List Frame → Bool
frames_glued g [] = g
frames_glued g (f ∷ fs) = frames_glued (frame_glues f) fs

abbrev StepIs : Entity → Option (Frame × Entity) → Type 0
StepIs e None = Unit {0}
StepIs e (Some r) = (boundary_in e ≡ frame_boundary r.0) × (glues e ≡ frame_glues r.0)

message_step : (h : Head) (e : Entity) (k : ℕ) → StepIs (message h e) (counted k ((in_message h, e) ∷ []))
message_step h e zero = tt
message_step h e (suc zero) = (refl, refl)
message_step h e (suc (suc k)) = tt

multi_step : (h : Head) (b : List ℕ) (pre : List TextLine) (ps : Parts) (t : Option (TextLine × List TextLine)) (o : Option (Parts × TextLine × Entity × Parts)) → StepIs (multi h b pre ps t) (option_map (λ (q : Parts × TextLine × Entity × Parts). (in_multi h b pre q.0 q.1 q.3 t, q.2)) o)
multi_step h b pre ps t None = tt
multi_step h b pre ps t (Some q) = (refl, refl)

step_is : (k : ℕ) (e : Entity) → StepIs e (step_to k e)
step_is k (leaf h ls) = tt
step_is k (message h e) = message_step h e k
step_is k (multi h b pre ps t) = multi_step h b pre ps t (part_at k ps)

hit_frame : (level : ℕ) (f : Frame) (fs : List Frame) (ls : List TextLine) → hit level (f ∷ fs) ls ≡ (if marks_any ls (frame_boundary f) then Some level else hit (suc level) fs ls)
hit_frame level (in_message h) fs ls = refl
hit_frame level (in_multi h b pre before l after t) fs ls = refl

one_more : (level : ℕ) → level + 1 ≡ suc level
one_more level = omega arith

-- the section one step further
abbrev next : Placed → Frame × Entity → Placed
next p r = placed_in p (r.0 ∷ []) r.1

-- the level that is hit
abbrev HitsAs : List TextLine → ℕ → List ℕ → Placed → Option (List Frame × Entity) → Type 0
HitsAs ls level ks p None = Unit {0}
HitsAs ls level ks p (Some q) = hit_below ls level ks p ≡ hit level q.0 ls

hits_there : (ls : List TextLine) (level k : ℕ) (ks : List ℕ) (p : Placed) (r : Frame × Entity) (o : Option (List Frame × Entity)) → StepIs p.entity (Some r) → counted k (children p) ≡ Some (next p r) → HitsAs ls (level + 1) ks (next p r) o
    → HitsAs ls level (k ∷ ks) p (option_map (λ (q : List Frame × Entity). (r.0 ∷ q.0, q.1)) o)
hits_there ls level k ks p r None s c h = tt
hits_there ls level k ks p r (Some q) s c h =
    ap (λ b. if marks_any ls b then Some level else option_and_then (hit_below ls (level + 1) ks) (counted k (children p))) s.0
    ∙ (ap (λ o. if marks_any ls (frame_boundary r.0) then Some level else option_and_then (hit_below ls (level + 1) ks) o) c
    ∙ (ap (λ o. if marks_any ls (frame_boundary r.0) then Some level else o) (h ∙ ap (λ n. hit n q.0 ls) (one_more level)) ∙ sym (hit_frame level r.0 q.0 ls)))

hits_next : (ls : List TextLine) (level k : ℕ) (ks : List ℕ) (p : Placed) (o : Option (Frame × Entity)) → StepIs p.entity o → counted k (children p) ≡ option_map (next p) o → ((x : Placed) → HitsAs ls (level + 1) ks x (place_at ks x.entity))
    → HitsAs ls level (k ∷ ks) p (option_and_then (λ (r : Frame × Entity). option_map (λ (q : List Frame × Entity). (r.0 ∷ q.0, q.1)) (place_at ks r.1)) o)
hits_next ls level k ks p None s c f = tt
hits_next ls level k ks p (Some r) s c f = hits_there ls level k ks p r (place_at ks r.1) s c (f (next p r))

hits_as : (ls : List TextLine) (level : ℕ) (ks : List ℕ) (p : Placed) → HitsAs ls level ks p (place_at ks p.entity)
hits_as ls level [] p = refl
hits_as ls level (k ∷ ks) p = hits_next ls level k ks p (step_to k p.entity) (step_is k p.entity) (step_placed k p p.entity) (hits_as ls (level + 1) ks)

pub hit_is : (ls : List TextLine) (level : ℕ) (ks : List ℕ) (p : Placed) (fs : List Frame) (s : Entity) → place_at ks p.entity ≡ Some (fs, s) → hit_below ls level ks p ≡ hit level fs ls
hit_is ls level ks p fs s e = subst (HitsAs ls level ks p) e (hits_as ls level ks p)

-- whether the last frame is that of a message without separator
abbrev GluedAs : Bool → List ℕ → Placed → Option (List Frame × Entity) → Type 0
GluedAs g ks p None = Unit {0}
GluedAs g ks p (Some q) = glued_below g ks p ≡ frames_glued g q.0

glued_there : (g : Bool) (k : ℕ) (ks : List ℕ) (p : Placed) (r : Frame × Entity) (o : Option (List Frame × Entity)) → StepIs p.entity (Some r) → counted k (children p) ≡ Some (next p r) → GluedAs (glues p.entity) ks (next p r) o
    → GluedAs g (k ∷ ks) p (option_map (λ (q : List Frame × Entity). (r.0 ∷ q.0, q.1)) o)
glued_there g k ks p r None s c h = tt
glued_there g k ks p r (Some q) s c h = ap (or_false (glued_below (glues p.entity) ks)) c ∙ (h ∙ ap (λ b. frames_glued b q.0) s.1)

glued_next : (g : Bool) (k : ℕ) (ks : List ℕ) (p : Placed) (o : Option (Frame × Entity)) → StepIs p.entity o → counted k (children p) ≡ option_map (next p) o → ((x : Placed) → GluedAs (glues p.entity) ks x (place_at ks x.entity))
    → GluedAs g (k ∷ ks) p (option_and_then (λ (r : Frame × Entity). option_map (λ (q : List Frame × Entity). (r.0 ∷ q.0, q.1)) (place_at ks r.1)) o)
glued_next g k ks p None s c f = tt
glued_next g k ks p (Some r) s c f = glued_there g k ks p r (place_at ks r.1) s c (f (next p r))

glued_as : (g : Bool) (ks : List ℕ) (p : Placed) → GluedAs g ks p (place_at ks p.entity)
glued_as g [] p = refl
glued_as g (k ∷ ks) p = glued_next g k ks p (step_to k p.entity) (step_is k p.entity) (step_placed k p p.entity) (glued_as (glues p.entity) ks)

pub glued_is : (g : Bool) (ks : List ℕ) (p : Placed) (fs : List Frame) (s : Entity) → place_at ks p.entity ≡ Some (fs, s) → glued_below g ks p ≡ frames_glued g fs
glued_is g ks p fs s e = subst (GluedAs g ks p) e (glued_as g ks p)
