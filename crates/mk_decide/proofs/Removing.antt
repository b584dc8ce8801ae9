-- The removal of a part is refused for its path alone.
use Rattle.std.proofs.Common.{◌≡◌, ◌⊎◌, ◌==◌, if◌then◌else◌, ℕ, Bool, true, false, Option, None, Some, Result, Ok, Err, List, [], ◌∷◌, refl, ap, sym, subst, inl, inr}
use Rattle.std.specs.Option.{option_map}
use Rattle.mk_line.specs.Lines.{TextLine}
use Rattle.mk_head.specs.Split.{Head}
use Rattle.mk_tree.specs.Tree.{Entity, multi, Parts, part}
use Rattle.mk_tree.specs.Documents.{Document, IsStable}
use Rattle.mk_tree.specs.Places.{Frame, in_message, in_multi, append_parts, plug_one, plug, place_at, put}
use Rattle.mk_tree.proofs.Placed.{place_plug}
use Rattle.mk_decide.specs.Edits.{RemovePart, Refusal, NoSuchSection, NotPart}
use Rattle.mk_decide.specs.Plans.{Plan, last_without, place_of, plan_of, planned}
use Rattle.mk_decide.proofs.PlanNames.{remove, with_place, IsJudged}
use Rattle.mk_decide.specs.Outcomes.{judged_by}
use Rattle.mk_decide.specs.EditLaws.{RemovalReasons}
use Rattle.mk_decide.proofs.Answered.{Holds}
use Rattle.mk_decide.proofs.Late.{IsFair, fair, told}
use Rattle.mk_decide.proofs.Removed.{removed_stable}

-- the section at a path is in the tree
none_some : {A : Type 0} (q : List Frame × Entity) → ◌≡◌ {A = Option (List Frame × Entity)} None (Some q) → A
none_some q e = cc

place_by : (t : Bool) (ks : List ℕ) (root : Entity) (fs : List Frame) (s : Entity) → (if t then place_at ks root else None) ≡ Some (fs, s) → place_at ks root ≡ Some (fs, s)
place_by true ks root fs s e = e
place_by false ks root fs s e = none_some (fs, s) e

pub place_there : (path : List ℕ) (root : Entity) (fs : List Frame) (s : Entity) → place_of path root ≡ Some (fs, s) → plug fs s ≡ root
place_there [] root fs s e = none_some (fs, s) e
place_there (k ∷ ks) root fs s e = place_plug ks root fs s (place_by (k == 1) ks root fs s e)

pub stable_there : (path : List ℕ) (t : Document) (fs : List Frame) (s : Entity) → place_of path t.root ≡ Some (fs, s) → IsStable t → IsStable (put t.envelope fs s)
stable_there path t fs s e h = let p = place_there path t.root fs s e in subst (λ r. IsStable (record { envelope = t.envelope; root = r })) (sym p) h

-- the multipart that a part stands in
pub record IsLast (fs gs : List Frame) (e : Entity) : Type 0 where
  pub head : Head
  pub boundary : List ℕ
  pub preamble : List TextLine
  pub before : Parts
  pub delimiter : TextLine
  pub after : Parts
  pub tail : Option (TextLine × List TextLine)
  pub with_part : (x : Entity) → plug fs x ≡ plug gs (multi head boundary preamble (append_parts before (part delimiter x after)) tail)
  pub without_part : e ≡ multi head boundary preamble (append_parts before after) tail

abbrev pub LastOf : List Frame → Option (List Frame × Entity) → Type 0
LastOf fs None = Unit {0}
LastOf fs (Some q) = IsLast fs q.0 q.1

last_later : (f : Frame) (fs : List Frame) (o : Option (List Frame × Entity)) → LastOf fs o → LastOf (f ∷ fs) (option_map (λ q. (f ∷ q.0, q.1)) o)
last_later f fs None h = tt
last_later f fs (Some q) h = record {
  head = h.head;
  boundary = h.boundary;
  preamble = h.preamble;
  before = h.before;
  delimiter = h.delimiter;
  after = h.after;
  tail = h.tail;
  with_part = λ x. ap (plug_one f) (h.with_part x);
  without_part = h.without_part;
}

last_is : (fs : List Frame) → LastOf fs (last_without fs)
last_is [] = tt
last_is (in_message h ∷ []) = tt
last_is (in_multi h b pre before l after t ∷ []) = record {
  head = h;
  boundary = b;
  preamble = pre;
  before = before;
  delimiter = l;
  after = after;
  tail = t;
  with_part = λ x. refl;
  without_part = refl;
}
last_is (f ∷ g ∷ fs) = last_later f (g ∷ fs) (last_without (g ∷ fs)) (last_is (g ∷ fs))

-- what a removal gives: a stable document, or a reason of the path
abbrev pub IsRemoved : Option TextLine → Result Plan Refusal → Type 0
IsRemoved envelope (Ok p) = IsStable (planned envelope p)
IsRemoved envelope (Err e) = (e ≡ NoSuchSection) ⊎ (e ≡ NotPart)

removed_last : (envelope : Option TextLine) (fs : List Frame) (s : Entity) (o : Option (List Frame × Entity)) → LastOf fs o → IsStable (put envelope fs s) → IsRemoved envelope (remove o)
removed_last envelope fs s None h k = inr refl
removed_last envelope fs s (Some q) h k =
    let there = subst (λ r. IsStable (record { envelope = envelope; root = r })) (h.with_part s) k in
    subst (λ e. IsStable (put envelope q.0 e)) (sym h.without_part) (removed_stable envelope q.0 h.head h.boundary h.preamble h.before h.delimiter s h.after h.tail there)

removed_there : (path : List ℕ) (t : Document) (o : Option (List Frame × Entity)) → place_of path t.root ≡ o → IsStable t → IsRemoved t.envelope (with_place o (λ fs s. remove (last_without fs)))
removed_there path t None e h = inl refl
removed_there path t (Some q) e h = removed_last t.envelope q.0 q.1 (last_without q.0) (last_is q.0) (stable_there path t q.0 q.1 e h)

pub removed_is : (path : List ℕ) (t : Document) → IsStable t → IsRemoved t.envelope (plan_of (RemovePart path) t)
removed_is path t h = removed_there path t (place_of path t.root) refl h

removal_by : (envelope : Option TextLine) (r : Result Plan Refusal) (e : Refusal) → Holds IsFair r → IsRemoved envelope r → judged_by envelope r ≡ Err e → (e ≡ NoSuchSection) ⊎ (e ≡ NotPart)
removal_by envelope (Ok p) e f h k = absurd ((subst (λ r. IsJudged r (planned envelope p)) k (told envelope p f)).1 h)
removal_by envelope (Err d) e f h k = let same : d ≡ e = cc k in subst (λ x. (x ≡ NoSuchSection) ⊎ (x ≡ NotPart)) same h

pub removal_reasons_lem : RemovalReasons
removal_reasons_lem path t e h k = removal_by t.envelope (plan_of (RemovePart path) t) e (fair (RemovePart path) t) (removed_is path t h) k
