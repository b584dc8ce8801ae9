-- An edit is a replacement, and its local conditions are those of the replacement.
use Rattle.std.proofs.Common.{◌≡◌, ◌↔◌, ◌++◌, ℕ, Option, None, Some, Ok, List, [], ◌∷◌, refl, ap, sym, subst}
use Rattle.std.specs.Option.{option_map}
use Rattle.mk_line.specs.Lines.{TextLine}
use Rattle.mk_tree.specs.Tree.{Entity}
use Rattle.mk_tree.specs.Documents.{Document, IsStable}
use Rattle.mk_tree.specs.Places.{Frame, in_message, in_multi, put}
use Rattle.mk_tree.specs.Locality.{Replaces}
use Rattle.mk_tree.proofs.Stability.{replaced}
use Rattle.mk_decide.specs.Edits.{PlainEdit, AddField, RemoveField, RenameField, SetField, SetBody, SetSection, InsertPart, RemovePart, Wrap, path_of}
use Rattle.mk_decide.specs.Plans.{Plan, without, last_without, place_of, plan_of, planned}
use Rattle.mk_decide.proofs.PlanNames.{remove}
use Rattle.mk_decide.specs.Local.{LocalConditions}
use Rattle.mk_decide.specs.EditLaws.{IsWithoutPart, EditsAreReplacements}
use Rattle.mk_decide.proofs.Answered.{Holds}
use Rattle.mk_decide.proofs.Removing.{IsRemoved, removed_is, stable_there}
use Rattle.mk_decide.proofs.EveryEdit.{plan_there, shown_there, locality_lem}

-- the removal of a part
abbrev pub LastWithout : List Frame → Option (List Frame × Entity) → Type 0
LastWithout fs None = Unit {0}
LastWithout fs (Some q) = (f : Frame) × (fs ≡ q.0 ++ (f ∷ [])) × (without f ≡ Some q.1)

without_later : (f : Frame) (fs : List Frame) (o : Option (List Frame × Entity)) → LastWithout fs o → LastWithout (f ∷ fs) (option_map (λ q. (f ∷ q.0, q.1)) o)
without_later f fs None h = tt
without_later f fs (Some q) h = (h.0, ap (λ gs. f ∷ gs) h.1, h.2)

pub without_is : (fs : List Frame) → LastWithout fs (last_without fs)
without_is [] = tt
without_is (in_message h ∷ []) = tt
without_is (in_multi h b pre before l after t ∷ []) = (in_multi h b pre before l after t, refl, refl)
without_is (f ∷ g ∷ fs) = without_later f (g ∷ fs) (last_without (g ∷ fs)) (without_is (g ∷ fs))

remove_placed : (fs : List Frame) (o : Option (List Frame × Entity)) → LastWithout fs o → Holds (IsWithoutPart fs) (remove o)
remove_placed fs None h = tt
remove_placed fs (Some q) h = record { innermost = h.0; around = h.1; new = h.2 }

-- where a stable document stands around, the conditions of the replacement are stability
same_conditions : (envelope : Option TextLine) (p : Plan) (old : Entity) (C : Type 0) → IsStable (put envelope p.around old) → (IsStable (planned envelope p) ↔ C) → (Replaces envelope p.around p.new ↔ C)
same_conditions envelope p old C h c = let r = replaced envelope p.around old p.new h in ((λ k. c.0 (r.1 k)), (λ k. r.0 (c.1 k)))

removed_there : (path : List ℕ) (t : Document) (fs : List Frame) (s : Entity) (p : Plan) → IsStable t → place_of path t.root ≡ Some (fs, s) → plan_of (RemovePart path) t ≡ Ok p → IsWithoutPart fs p × (Replaces t.envelope p.around p.new ↔ LocalConditions (RemovePart path) t s p)
removed_there path t fs s p h o k =
    let stable = subst (IsRemoved t.envelope) k (removed_is path t h) in
    (subst (Holds (IsWithoutPart fs)) (plan_there (RemovePart path) t fs s p o k) (remove_placed fs (last_without fs) (without_is fs)), same_conditions t.envelope p p.new (LocalConditions (RemovePart path) t s p) stable (locality_lem (RemovePart path) t fs s p h o k))

-- all others
replaces_by : (e : PlainEdit) (t : Document) (fs : List Frame) (s : Entity) (p : Plan) → IsStable t → place_of (path_of e) t.root ≡ Some (fs, s) → plan_of e t ≡ Ok p → p.around ≡ fs → (p.around ≡ fs) × (Replaces t.envelope p.around p.new ↔ LocalConditions e t s p)
replaces_by e t fs s p h o k a = (a, same_conditions t.envelope p s (LocalConditions e t s p) (subst (λ gs. IsStable (put t.envelope gs s)) (sym a) (stable_there (path_of e) t fs s o h)) (locality_lem e t fs s p h o k))

pub replacements_lem : EditsAreReplacements
replacements_lem (RemovePart path) t fs s p h o k = removed_there path t fs s p h o k
replacements_lem (AddField path top text) t fs s p h o k = replaces_by (AddField path top text) t fs s p h o k (shown_there (AddField path top text) t fs s p o k).0
replacements_lem (RemoveField path name n) t fs s p h o k = replaces_by (RemoveField path name n) t fs s p h o k (shown_there (RemoveField path name n) t fs s p o k).0
replacements_lem (RenameField path name n to) t fs s p h o k = replaces_by (RenameField path name n to) t fs s p h o k (shown_there (RenameField path name n to) t fs s p o k).0
replacements_lem (SetField path name n text) t fs s p h o k = replaces_by (SetField path name n text) t fs s p h o k (shown_there (SetField path name n text) t fs s p o k).0
replacements_lem (SetBody path text) t fs s p h o k = replaces_by (SetBody path text) t fs s p h o k (shown_there (SetBody path text) t fs s p o k).0
replacements_lem (SetSection path text) t fs s p h o k = replaces_by (SetSection path text) t fs s p h o k (shown_there (SetSection path text) t fs s p o k).0
replacements_lem (InsertPart path place text) t fs s p h o k = replaces_by (InsertPart path place text) t fs s p h o k (shown_there (InsertPart path place text) t fs s p o k).0
replacements_lem (Wrap path subtype boundary) t fs s p h o k = replaces_by (Wrap path subtype boundary) t fs s p h o k (shown_there (Wrap path subtype boundary) t fs s p o k).0
