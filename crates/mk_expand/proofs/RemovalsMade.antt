-- What is left where several parts are removed.
use Rattle.std.proofs.Common.{◌≡◌, ◌≢◌, ◌<◌, ◌≤◌, ◌+◌, ◌==◌, if◌then◌else◌, ℕ, zero, suc, Bool, true, false, Option, None, Some, Result, Ok, Err, List, [], ◌∷◌, map, nat_lt, refl, ap, sym, ◌∙◌, subst, arith, inl, inr}
use Rattle.std.proofs.lemmas.Bool.{cases_Bool, eqb-true, eq-eqb, ltb-true}
use Rattle.std.specs.Option.{option_map}
use Rattle.std.specs.Prelude.{option_and_then}
use Rattle.std.specs.Cmp.Lexicographic.{slice_cmp}
use Rattle.std.specs.Ordering.{nat_cmp, ordering_reverse, ordering_then}
use Rattle.std.specs.Cmp.{nat_cmp_total}
use Rattle.std.specs.declared.cmp.Ordering.{Ordering}
use Rattle.std.specs.declared.cmp.Ordering.TheVariants.{Less, Equal, Greater}
use Rattle.mk_line.specs.Lines.{TextLine, eol_of}
use Rattle.mk_tree.specs.Tree.{Entity, leaf, message, multi, Parts, no_parts, part}
use Rattle.mk_tree.specs.Documents.{Document, document_lines}
use Rattle.mk_tree.specs.Places.{Frame, append_parts, in_message, in_multi, part_at, place_at, plug, step_to}
use Rattle.mk_decide.specs.Edits.{PlainEdit, RemovePart, Refusal, NoSuchSection, NotPart}
use Rattle.mk_decide.specs.Outcomes.{edited}
use Rattle.mk_decide.specs.Plans.{Plan, last_without, place_of, plain_plan, plan_at, plan_of, planned, without}
use Rattle.mk_decide.proofs.PlanNames.{remove, with_place}
use Rattle.mk_decide.proofs.Accepted.{ok_same, plan_by}
use Rattle.mk_decide.proofs.Late.{fair}
use Rattle.mk_expand.specs.ExpandLaws.{all_edited}
use Rattle.mk_line.specs.Results.{made_of}
use Rattle.mk_expand.specs.Paths.{latest_first}
use Rattle.mk_expand.specs.Removals.{AreLatestFirst, IsLater, has_empty, parts_without, paths_after, without_those}
use Rattle.mk_expand.proofs.EncodingsKept.{document_same, in_turn}
use Rattle.mk_expand.proofs.RemovalOrder.{in_order}

-- ---- options

no_some : {A B : Type 0} (y : B) → ◌≡◌ {A = Option B} None (Some y) → A
no_some y e = cc

some_is : {B : Type 0} (x y : B) → ◌≡◌ {A = Option B} (Some x) (Some y) → x ≡ y
some_is x y e = cc

mapped : {A B : Type 0} (f : A → B) (o : Option A) (y : B) → option_map f o ≡ Some y → (x : A) × (o ≡ Some x) × (f x ≡ y)
mapped f None y e = no_some y e
mapped f (Some x) y e = (x, refl, some_is (f x) y e)

-- ---- numbers and paths

unequal : (x y : ℕ) → x ≢ y → (x == y) ≡ false
unequal x y n = elim (cases_Bool (x == y)) [ inl e ↦ absurd (n (eqb-true x y e)) | inr f ↦ f ]

self_by : (r : Ordering) → r ≡ ordering_reverse r → r ≡ Equal
self_by Less h = cc
self_by Equal h = refl
self_by Greater h = cc

self : (k : ℕ) → nat_cmp k k ≡ Equal
self k = self_by (nat_cmp k k) (nat_cmp_total.antisymm k k)

-- no path is before an empty one
none_before : {A : Type 0} (path : List ℕ) → slice_cmp nat_cmp path [] ≡ Less → A
none_before [] h = cc
none_before (k ∷ ks) h = cc

less_by : (r o : Ordering) → (o ≡ Less → ⊥) → ordering_then r o ≡ Less → r ≡ Less
less_by Less o none h = refl
less_by Equal o none h = absurd (none h)
less_by Greater o none h = cc

less_test : (a b : Bool) → (if a then Less else (if b then Equal else Greater)) ≡ Less → a ≡ true
less_test true b h = refl
less_test false true h = cc
less_test false false h = cc

-- a path before one of one number begins with a smaller one
smaller : (j n : ℕ) (js : List ℕ) → slice_cmp nat_cmp (j ∷ js) (n ∷ []) ≡ Less → j < n
smaller j n js h =
    ltb-true j n (less_test (nat_lt j n) (j == n) (less_by (nat_cmp j n) (slice_cmp nat_cmp js []) (λ e. none_before js e) h))

-- paths before one of one number don't begin with it, nor with a greater one
none_after : (n : ℕ) (paths : List (List ℕ)) → IsLater (n ∷ []) paths → (m : ℕ) → n ≤ m → paths_after m paths ≡ []
none_after n [] l m k = refl
none_after n ([] ∷ paths) l m k = none_after n paths l.1 m k
none_after n ((j ∷ js) ∷ paths) l m k =
    let less = smaller j n js l.0 in
    rw (unequal j m (λ e. let same : j ≡ m = e in omega (arith, less, k, same))) (none_after n paths l.1 m k)

rest_less : (r o : Ordering) → r ≡ Equal → ordering_then r o ≡ Less → o ≡ Less
rest_less r o e h = sym (ap (λ x. ordering_then x o) e) ∙ h

-- paths before another, as they go on after a number that they have in common
later_after : (k : ℕ) (ks : List ℕ) (paths : List (List ℕ)) → IsLater (k ∷ ks) paths → IsLater ks (paths_after k paths)
later_after k ks [] l = tt
later_after k ks ([] ∷ paths) l = later_after k ks paths l.1
later_after k ks ((j ∷ js) ∷ paths) l = elim (cases_Bool (j == k)) [
  | inr other ↦ rw other (later_after k ks paths l.1)
  | inl same ↦
      let equal : nat_cmp j k ≡ Equal = ap (λ x. nat_cmp x k) (eqb-true j k same) ∙ self k in
      rw same (rest_less (nat_cmp j k) (slice_cmp nat_cmp js ks) equal l.0, later_after k ks paths l.1)
]

-- ---- no path

mutual
  none_gone : (e : Entity) → without_those [] e ≡ e
  none_gone (leaf h ls) = refl
  none_gone (message h e) = ap (λ x. message h x) (none_gone e)
  none_gone (multi h b pre ps t) = ap (λ qs. multi h b pre qs t) (no_part_gone 1 ps)

  no_part_gone : (n : ℕ) (ps : Parts) → parts_without [] n ps ≡ ps
  no_part_gone n no_parts = refl
  no_part_gone n (part l e ps) = ap (λ x. part l x (parts_without [] (n + 1) ps)) (none_gone e) ∙ ap (λ qs. part l e qs) (no_part_gone (n + 1) ps)

-- parts at which no path leads
beyond : (paths : List (List ℕ)) (n : ℕ) (ps : Parts) → ((m : ℕ) → n ≤ m → paths_after m paths ≡ []) → parts_without paths n ps ≡ ps
beyond paths n no_parts h = refl
beyond paths n (part l e ps) h =
    let here : paths_after n paths ≡ [] = h n (omega arith) in
    rw here (ap (λ x. part l x (parts_without paths (n + 1) ps)) (none_gone e) ∙ ap (λ qs. part l e qs) (beyond paths (n + 1) ps (λ m k. h m (omega (arith, k)))))

-- a path that leads to an earlier part
past : (n : ℕ) (ks : List ℕ) (paths : List (List ℕ)) (m : ℕ) (ps : Parts) → n < m → parts_without ((n ∷ ks) ∷ paths) m ps ≡ parts_without paths m ps
past n ks paths m no_parts k = refl
past n ks paths m (part l e ps) k =
    let other : (n == m) ≡ false = unequal n m (λ e. omega (arith, e, k)) in
    rw other (ap (λ xs. if has_empty (paths_after m paths) then xs else part l (without_those (paths_after m paths) e) xs) (past n ks paths (m + 1) ps (omega (arith, k))))

-- ---- one part

-- the part at a number goes
last_by : (paths : List (List ℕ)) (n k : ℕ) (l : TextLine) (x : Entity) (ps : Parts) (o : Option (Parts × TextLine × Entity × Parts)) (q : Parts × TextLine × Entity × Parts)
    → ((p : Parts × TextLine × Entity × Parts) → o ≡ Some p → parts_without paths (n + 1) (append_parts p.0 p.3) ≡ parts_without ((k ∷ []) ∷ paths) (n + 1) ps) → n < k
    → option_map (λ p. (part l x p.0, p.1, p.2, p.3)) o ≡ Some q → parts_without paths n (append_parts q.0 q.3) ≡ parts_without ((k ∷ []) ∷ paths) n (part l x ps)
last_by paths n k l x ps o q rest less e =
    let m = mapped {A = Parts × TextLine × Entity × Parts} {B = Parts × TextLine × Entity × Parts} (λ p. (part l x p.0, p.1, p.2, p.3)) o q e in
    let other : (k == n) ≡ false = unequal k n (λ s. omega (arith, s, less)) in
    subst (λ (y : Parts × TextLine × Entity × Parts). parts_without paths n (append_parts y.0 y.3) ≡ parts_without ((k ∷ []) ∷ paths) n (part l x ps)) m.2
    (rw other (ap (λ xs. if has_empty (paths_after n paths) then xs else part l (without_those (paths_after n paths) x) xs) (rest m.0 m.1)))

last_gone : (paths : List (List ℕ)) (n j k : ℕ) (ps : Parts) (q : Parts × TextLine × Entity × Parts) → part_at (suc j) ps ≡ Some q → k ≡ n + j → IsLater (k ∷ []) paths
    → parts_without paths n (append_parts q.0 q.3) ≡ parts_without ((k ∷ []) ∷ paths) n ps
last_gone paths n j k no_parts q e i later = no_some q e
last_gone paths n zero k (part l x ps) q e i later =
    let same : (k == n) ≡ true = eq-eqb k n (omega (arith, i)) in
    let first = beyond paths n ps (λ m h. none_after k paths later m (omega (arith, i, h))) in
    let second = past k [] paths (n + 1) ps (omega (arith, i)) ∙ beyond paths (n + 1) ps (λ m h. none_after k paths later m (omega (arith, i, h))) in
    subst (λ (y : Parts × TextLine × Entity × Parts). parts_without paths n (append_parts y.0 y.3) ≡ parts_without ((k ∷ []) ∷ paths) n (part l x ps)) (some_is (no_parts, l, x, ps) q e)
    (rw same (first ∙ sym second))
last_gone paths n (suc j) k (part l x ps) q e i later =
    last_by paths n k l x ps (part_at (suc j) ps) q (λ p h. last_gone paths (n + 1) j k ps p h (omega (arith, i)) later) (omega (arith, i)) e

-- an entity at a number is changed below
inner_by : (paths : List (List ℕ)) (n k k2 : ℕ) (ks : List ℕ) (new : Entity) (l : TextLine) (x : Entity) (ps : Parts) (o : Option (Parts × TextLine × Entity × Parts)) (q : Parts × TextLine × Entity × Parts)
    → ((p : Parts × TextLine × Entity × Parts) → o ≡ Some p → without_those (paths_after k paths) new ≡ without_those ((k2 ∷ ks) ∷ paths_after k paths) p.2
    → parts_without paths (n + 1) (append_parts p.0 (part p.1 new p.3)) ≡ parts_without ((k ∷ (k2 ∷ ks)) ∷ paths) (n + 1) ps) → n < k
    → option_map (λ p. (part l x p.0, p.1, p.2, p.3)) o ≡ Some q → without_those (paths_after k paths) new ≡ without_those ((k2 ∷ ks) ∷ paths_after k paths) q.2
    → parts_without paths n (append_parts q.0 (part q.1 new q.3)) ≡ parts_without ((k ∷ (k2 ∷ ks)) ∷ paths) n (part l x ps)
inner_by paths n k k2 ks new l x ps o q rest less e below =
    let m = mapped {A = Parts × TextLine × Entity × Parts} {B = Parts × TextLine × Entity × Parts} (λ p. (part l x p.0, p.1, p.2, p.3)) o q e in
    let other : (k == n) ≡ false = unequal k n (λ s. omega (arith, s, less)) in
    let deeper : without_those (paths_after k paths) new ≡ without_those ((k2 ∷ ks) ∷ paths_after k paths) m.0.2 =
    subst (λ (y : Parts × TextLine × Entity × Parts). without_those (paths_after k paths) new ≡ without_those ((k2 ∷ ks) ∷ paths_after k paths) y.2) (sym m.2) below in
    subst (λ (y : Parts × TextLine × Entity × Parts). parts_without paths n (append_parts y.0 (part y.1 new y.3)) ≡ parts_without ((k ∷ (k2 ∷ ks)) ∷ paths) n (part l x ps)) m.2
    (rw other (ap (λ xs. if has_empty (paths_after n paths) then xs else part l (without_those (paths_after n paths) x) xs) (rest m.0 m.1 deeper)))

inner_gone : (paths : List (List ℕ)) (n j k k2 : ℕ) (ks : List ℕ) (new : Entity) (ps : Parts) (q : Parts × TextLine × Entity × Parts) → part_at (suc j) ps ≡ Some q → k ≡ n + j
    → without_those (paths_after k paths) new ≡ without_those ((k2 ∷ ks) ∷ paths_after k paths) q.2 → parts_without paths n (append_parts q.0 (part q.1 new q.3)) ≡ parts_without ((k ∷ (k2 ∷ ks)) ∷ paths) n ps
inner_gone paths n j k k2 ks new no_parts q e i below = no_some q e
inner_gone paths n zero k k2 ks new (part l x ps) q e i below =
    let at : k ≡ n = omega (arith, i) in
    let same : (k == n) ≡ true = eq-eqb k n at in
    let is = some_is (no_parts, l, x, ps) q e in
    let deeper : without_those (paths_after n paths) new ≡ without_those ((k2 ∷ ks) ∷ paths_after n paths) x =
    subst (λ m. without_those (paths_after m paths) new ≡ without_those ((k2 ∷ ks) ∷ paths_after m paths) x) at
    (subst (λ (y : Parts × TextLine × Entity × Parts). without_those (paths_after k paths) new ≡ without_those ((k2 ∷ ks) ∷ paths_after k paths) y.2) (sym is) below) in
    let others = sym (past k (k2 ∷ ks) paths (n + 1) ps (omega (arith, i))) in
    subst (λ (y : Parts × TextLine × Entity × Parts). parts_without paths n (append_parts y.0 (part y.1 new y.3)) ≡ parts_without ((k ∷ (k2 ∷ ks)) ∷ paths) n (part l x ps)) is
    (rw same
    (ap (λ xs. if has_empty (paths_after n paths) then xs else part l (without_those (paths_after n paths) new) xs) others
    ∙ ap (λ y. if has_empty (paths_after n paths) then parts_without ((k ∷ (k2 ∷ ks)) ∷ paths) (n + 1) ps else part l y (parts_without ((k ∷ (k2 ∷ ks)) ∷ paths) (n + 1) ps)) deeper))
inner_gone paths n (suc j) k k2 ks new (part l x ps) q e i below =
    inner_by paths n k k2 ks new l x ps (part_at (suc j) ps) q (λ p h b. inner_gone paths (n + 1) j k k2 ks new ps p h (omega (arith, i)) b) (omega (arith, i)) e below

-- ---- one section

by_last : (k : ℕ) (paths : List (List ℕ)) (e : Entity) (p : Frame × Entity) (q : List Frame × Entity) → step_to k e ≡ Some p → last_without (p.0 ∷ []) ≡ Some q → IsLater (k ∷ []) paths
    → without_those paths (plug q.0 q.1) ≡ without_those ((k ∷ []) ∷ paths) e
by_last k paths (leaf h ls) p q is gone later = no_some p is
by_last zero paths (message h x) p q is gone later = no_some p is
by_last (suc zero) paths (message h x) p q is gone later =
    let none : ◌≡◌ {A = Option (List Frame × Entity)} None (Some q) = subst (λ (y : Frame × Entity). last_without (y.0 ∷ []) ≡ Some q) (sym (some_is (in_message h, x) p is)) gone in
    no_some q none
by_last (suc (suc k)) paths (message h x) p q is gone later = no_some p is
by_last zero paths (multi h b pre no_parts t) p q is gone later = no_some p is
by_last zero paths (multi h b pre (part l x ps) t) p q is gone later = no_some p is
by_last (suc j) paths (multi h b pre ps t) p q is gone later =
    let m = mapped {A = Parts × TextLine × Entity × Parts} {B = Frame × Entity} (λ y. (in_multi h b pre y.0 y.1 y.3 t, y.2)) (part_at (suc j) ps) p is in
    let new : List Frame × Entity = ([], multi h b pre (append_parts m.0.0 m.0.3) t) in
    let now = some_is new q (subst (λ (y : Frame × Entity). last_without (y.0 ∷ []) ≡ Some q) (sym m.2) gone) in
    ap (λ (y : List Frame × Entity). without_those paths (plug y.0 y.1)) (sym now) ∙ ap (λ xs. multi h b pre xs t) (last_gone paths 1 j (suc j) ps m.0 m.1 (omega arith) later)

by_inner : (k k2 : ℕ) (ks : List ℕ) (paths : List (List ℕ)) (e : Entity) (p : Frame × Entity) (q : List Frame × Entity) → step_to k e ≡ Some p
    → without_those (paths_after k paths) (plug q.0 q.1) ≡ without_those ((k2 ∷ ks) ∷ paths_after k paths) p.1 → without_those paths (plug (p.0 ∷ q.0) q.1) ≡ without_those ((k ∷ (k2 ∷ ks)) ∷ paths) e
by_inner k k2 ks paths (leaf h ls) p q is below = no_some p is
by_inner zero k2 ks paths (message h x) p q is below = no_some p is
by_inner (suc zero) k2 ks paths (message h x) p q is below =
    let at = some_is (in_message h, x) p is in
    let deeper = subst (λ (y : Frame × Entity). without_those (paths_after 1 paths) (plug q.0 q.1) ≡ without_those ((k2 ∷ ks) ∷ paths_after 1 paths) y.1) (sym at) below in
    subst (λ (y : Frame × Entity). without_those paths (plug (y.0 ∷ q.0) q.1) ≡ without_those ((1 ∷ (k2 ∷ ks)) ∷ paths) (message h x)) at (ap (λ y. message h y) deeper)
by_inner (suc (suc k)) k2 ks paths (message h x) p q is below = no_some p is
by_inner zero k2 ks paths (multi h b pre no_parts t) p q is below = no_some p is
by_inner zero k2 ks paths (multi h b pre (part l x ps) t) p q is below = no_some p is
by_inner (suc j) k2 ks paths (multi h b pre ps t) p q is below =
    let m = mapped {A = Parts × TextLine × Entity × Parts} {B = Frame × Entity} (λ y. (in_multi h b pre y.0 y.1 y.3 t, y.2)) (part_at (suc j) ps) p is in
    let deeper = subst (λ (y : Frame × Entity). without_those (paths_after (suc j) paths) (plug q.0 q.1) ≡ without_those ((k2 ∷ ks) ∷ paths_after (suc j) paths) y.1) (sym m.2) below in
    subst (λ (y : Frame × Entity). without_those paths (plug (y.0 ∷ q.0) q.1) ≡ without_those ((suc j ∷ (k2 ∷ ks)) ∷ paths) (multi h b pre ps t)) m.2
    (ap (λ xs. multi h b pre xs t) (inner_gone paths 1 j (suc j) k2 ks (plug q.0 q.1) ps m.0 m.1 (omega arith) deeper))

-- a place below an entity
at_by : (ks : List ℕ) (o : Option (Frame × Entity)) (r : List Frame × Entity) → option_and_then (λ p. option_map (λ q. (p.0 ∷ q.0, q.1)) (place_at ks p.1)) o ≡ Some r
    → (p : Frame × Entity) × (o ≡ Some p) × (q : List Frame × Entity) × (place_at ks p.1 ≡ Some q) × (◌≡◌ {A = List Frame × Entity} (p.0 ∷ q.0, q.1) r)
at_by ks None r e = no_some r e
at_by ks (Some p) r e =
    let m = mapped {A = List Frame × Entity} {B = List Frame × Entity} (λ q. (p.0 ∷ q.0, q.1)) (place_at ks p.1) r e in
    (p, refl, m.0, m.1, m.2)

-- a frame more around
more_around : (f g : Frame) (gs : List Frame) (q : List Frame × Entity) → last_without (f ∷ (g ∷ gs)) ≡ Some q → (r : List Frame × Entity) × (last_without (g ∷ gs) ≡ Some r) × (◌≡◌ {A = List Frame × Entity} (f ∷ r.0, r.1) q)
more_around f g gs q e = mapped {A = List Frame × Entity} {B = List Frame × Entity} (λ r. (f ∷ r.0, r.1)) (last_without (g ∷ gs)) q e

one_gone : (k : ℕ) (ks : List ℕ) (paths : List (List ℕ)) (e : Entity) (r q : List Frame × Entity) → place_at (k ∷ ks) e ≡ Some r → last_without r.0 ≡ Some q → IsLater (k ∷ ks) paths
    → without_those paths (plug q.0 q.1) ≡ without_those ((k ∷ ks) ∷ paths) e
one_gone k [] paths e r q at gone later =
    let a = at_by [] (step_to k e) r at in
    let none : ◌≡◌ {A = List Frame × Entity} ([], a.0.1) a.2 = some_is ([], a.0.1) a.2 a.3 in
    let around : ◌≡◌ {A = List Frame × Entity} (a.0.0 ∷ [], a.0.1) r = ap (λ (y : List Frame × Entity). (a.0.0 ∷ y.0, y.1)) none ∙ a.4 in
    by_last k paths e a.0 q a.1 (subst (λ (y : List Frame × Entity). last_without y.0 ≡ Some q) (sym around) gone) later
one_gone k (k2 ∷ ks) paths e r q at gone later =
    let a = at_by (k2 ∷ ks) (step_to k e) r at in
    let inside = at_by ks (step_to k2 a.0.1) a.2 a.3 in
    let g = inside.0.0 in
    let gs = inside.2.0 in
    let there : a.2.0 ≡ g ∷ gs = ap (λ (y : List Frame × Entity). y.0) (sym inside.4) in
    let whole : last_without (a.0.0 ∷ (g ∷ gs)) ≡ Some q = subst (λ fs. last_without fs ≡ Some q) (ap (λ (y : List Frame × Entity). y.0) (sym a.4) ∙ ap (λ fs. a.0.0 ∷ fs) there) gone in
    let m = more_around a.0.0 g gs q whole in
    let deeper : last_without a.2.0 ≡ Some m.0 = ap last_without there ∙ m.1 in
    let rest = one_gone k2 ks (paths_after k paths) a.0.1 a.2 m.0 a.3 deeper (later_after k (k2 ∷ ks) paths later) in
    ap (λ (y : List Frame × Entity). without_those paths (plug y.0 y.1)) (sym m.2) ∙ by_inner k k2 ks paths e a.0 m.0 a.1 rest

-- ---- documents

no_plan : {A : Type 0} (d : Refusal) (p : Plan) → ◌≡◌ {A = Result Plan Refusal} (Err d) (Ok p) → A
no_plan d p e = cc

-- what is planned for a part
removed_by : (path : List ℕ) (t : Document) (o : Option (List Frame × Entity)) (p : Plan) → with_place o (plan_at (RemovePart path) (eol_of (document_lines t))) ≡ Ok p
    → (r : List Frame × Entity) × (o ≡ Some r) × (q : List Frame × Entity) × (last_without r.0 ≡ Some q) × (p ≡ plain_plan q.0 q.1 [])
removed_by path t None p e = no_plan NoSuchSection p e
removed_by path t (Some r) p e = found (last_without r.0) refl e
  where
    found : (w : Option (List Frame × Entity)) → last_without r.0 ≡ w → remove w ≡ Ok p → (s : List Frame × Entity) × (◌≡◌ {A = Option (List Frame × Entity)} (Some r) (Some s)) × (q : List Frame × Entity) × (last_without s.0 ≡ Some q) × (p ≡ plain_plan q.0 q.1 [])
    found None is h = no_plan NotPart p h
    found (Some q) is h = (r, refl, q, is, sym (ok_same (plain_plan q.0 q.1 []) p h))

-- a path that leads below the root
below_root : (path : List ℕ) (root : Entity) (paths : List (List ℕ)) (r q : List Frame × Entity) → place_of path root ≡ Some r → last_without r.0 ≡ Some q → IsLater path paths
    → without_those (paths_after 1 paths) (plug q.0 q.1) ≡ without_those (paths_after 1 (path ∷ paths)) root
below_root [] root paths r q at gone later = no_some r at
below_root (k ∷ ks) root paths r q at gone later = elim (cases_Bool (k == 1)) [
  | inr other ↦ let none : ◌≡◌ {A = Option (List Frame × Entity)} None (Some r) = (rw other at at) in no_some r none
  | inl is ↦
      let there : place_at ks root ≡ Some r = (rw is at at) in
      let later2 : IsLater (1 ∷ ks) paths = subst (λ n. IsLater (n ∷ ks) paths) (eqb-true k 1 is) later in
      rw is (inside ks there (later_after 1 ks paths later2))
]
  where
    inside : (js : List ℕ) → place_at js root ≡ Some r → IsLater js (paths_after 1 paths) → without_those (paths_after 1 paths) (plug q.0 q.1) ≡ without_those (js ∷ paths_after 1 paths) root
    inside [] there l =
        let root_alone : ◌≡◌ {A = List Frame × Entity} ([], root) r = some_is ([], root) r there in
        let none : ◌≡◌ {A = Option (List Frame × Entity)} None (Some q) = subst (λ (y : List Frame × Entity). last_without y.0 ≡ Some q) (sym root_alone) gone in
        no_some q none
    inside (j ∷ js) there l = one_gone j js (paths_after 1 paths) root r q there gone l

one_removed : (path : List ℕ) (paths : List (List ℕ)) (t u : Document) → edited (RemovePart path) t ≡ Ok u → IsLater path paths
    → (u.envelope ≡ t.envelope) × (without_those (paths_after 1 paths) u.root ≡ without_those (paths_after 1 (path ∷ paths)) t.root)
one_removed path paths t u done later =
    let e = RemovePart path in
    let plan = plan_by t u e (plan_of e t) refl (fair e t) done in
    let made = removed_by path t (place_of path t.root) plan.plan plan.is in
    let q = made.2 in
    let is : u ≡ planned t.envelope (plain_plan q.0 q.1 []) = plan.gives ∙ ap (planned t.envelope) made.4 in
    (ap (λ (d : Document). d.envelope) is, ap (λ (d : Document). without_those (paths_after 1 paths) d.root) is ∙ below_root path t.root paths made.0 q made.1 made.3 later)

all_removed : (paths : List (List ℕ)) (t u : Document) → AreLatestFirst paths → all_edited (map (λ path. RemovePart path) paths) t ≡ Ok u → (u.envelope ≡ t.envelope) × (u.root ≡ without_those (paths_after 1 paths) t.root)
all_removed [] t u s done =
    let same = document_same t u done in
    (ap (λ (d : Document). d.envelope) (sym same), ap (λ (d : Document). d.root) (sym same) ∙ sym (none_gone t.root))
all_removed (path ∷ paths) t u s done =
    let made = in_turn (all_edited (map (λ p. RemovePart p) paths)) (edited (RemovePart path) t) u done in
    let first = one_removed path paths t made.0 made.1 s.0 in
    let rest = all_removed paths made.0 u s.1 made.2 in
    (rest.0 ∙ first.0, rest.1 ∙ first.1)

pub removals_made : (paths : List (List ℕ)) (t u : Document) → all_edited (map (λ path. RemovePart path) (latest_first paths)) t ≡ Ok u → (u.envelope ≡ t.envelope) × (u.root ≡ without_those (paths_after 1 (latest_first paths)) t.root)
removals_made paths t u done = all_removed (latest_first paths) t u (in_order paths) done
