-- Steps tried one after another, splice by splice.
use Rattle.std.proofs.Common.{◌≡◌, ◌==◌, ◌+◌, ◌-◌, ◌≤◌, ◌<◌, ◌++◌, ℕ, suc, zero, Bool, true, false, Option, None, Some, Result, Ok, Err, List, [], ◌∷◌, refl, ap, sym, ◌∙◌, length, take, drop, map, get_or, arith, add-one, eqb-true, subst, OnOk, IfErr}
use Rattle.std.proofs.lemmas.List.{drop_more, length-map, length-take-le, map-append, take_more}
use Rattle.std.specs.Global.{Vec}
use Rattle.std.specs.Option.{ok_or, option_and_then}
use Rattle.mk_splice.specs.declared.splicing.Splice.{Splice as SpliceIn}
use Rattle.mk_splice.specs.Splices.{Splice, back_one}
use Rattle.mk_splice.specs.declared.fitting.FitError.{FitError}
use Rattle.mk_splice.specs.declared.fitting.FitError.TheVariants.{Misfit, Memory}
use Rattle.mk_splice.specs.Misfits.{stands, step_made, step_taken_back, all_made, all_taken_back, unless_failed, misfit, Says}
use Rattle.mk_splice.specs.inner.Tries.{FailsWith, IsTried, Succeeds}
use Rattle.mk_splice.specs.Views.{splice_of, steps_of}
use Rattle.mk_splice.specs.inner.Tries.{one_taken_back, failed}
use Rattle.mk_splice.proofs.Splicings.{taken_last}

-- the last splice of a step, which is taken back first
back_some : (ss : List Splice) (s : Splice) (x y : List ℕ) → one_taken_back s x ≡ Some y → step_taken_back (ss ++ s ∷ []) x ≡ step_taken_back ss y
back_some [] s x y e = e
back_some (r ∷ ss) s x y e = ap (option_and_then (one_taken_back r)) (back_some ss s x y e)

back_none : (ss : List Splice) (s : Splice) (x : List ℕ) → one_taken_back s x ≡ None → step_taken_back (ss ++ s ∷ []) x ≡ None
back_none [] s x e = e
back_none (r ∷ ss) s x e = ap (option_and_then (one_taken_back r)) (back_none ss s x e)

one_there : (s : Splice) (x : List ℕ) → stands s.place s.new x ≡ true → one_taken_back s x ≡ Some (back_one s x)
one_there s x e = rw e refl

one_away : (s : Splice) (x : List ℕ) → stands s.place s.new x ≡ false → one_taken_back s x ≡ None
one_away s x e = rw e refl

pub back_turn : (ss : List SpliceIn) (left : ℕ) (s : SpliceIn) (x y : List ℕ) → 0 < left → left ≤ length ss → s ≡ get_or ss (left - 1) s → stands s.place s.new.items x ≡ true → y ≡ back_one (splice_of s) x
    → step_taken_back (map splice_of (take (left - 1) ss)) y ≡ step_taken_back (map splice_of (take left ss)) x
back_turn ss left s x y o l e t q =
    ap (step_taken_back (map splice_of (take (left - 1) ss))) q
    ∙ (sym (back_some (map splice_of (take (left - 1) ss)) (splice_of s) x (back_one (splice_of s) x) (one_there (splice_of s) x t))
    ∙ ap (λ rs. step_taken_back rs x) (sym (taken_last ss left s o l e)))

pub back_stops : (ss : List SpliceIn) (left : ℕ) (s : SpliceIn) (x : List ℕ) → 0 < left → left ≤ length ss → s ≡ get_or ss (left - 1) s → stands s.place s.new.items x ≡ false → step_taken_back (map splice_of (take left ss)) x ≡ None
back_stops ss left s x o l e t =
    ap (λ rs. step_taken_back rs x) (taken_last ss left s o l e) ∙ back_none (map splice_of (take (left - 1) ss)) (splice_of s) x (one_away (splice_of s) x t)

-- the last of several steps, which is taken back first
all_back_some : (ss : List (List Splice)) (s : List Splice) (n : ℕ) (x y : List ℕ) → step_taken_back s x ≡ Some y → all_taken_back n (ss ++ s ∷ []) x ≡ all_taken_back n ss y
all_back_some [] s n x y e = ap (λ o. ok_or o n) e
all_back_some (r ∷ ss) s n x y e = ap (unless_failed (λ t. ok_or (step_taken_back r t) n)) (all_back_some ss s (suc n) x y e)

all_back_none : (ss : List (List Splice)) (s : List Splice) (n m : ℕ) (x : List ℕ) → step_taken_back s x ≡ None → m ≡ n + length ss → all_taken_back n (ss ++ s ∷ []) x ≡ Err m
all_back_none [] s n m x e q = ap (λ o. ok_or o n) e ∙ ap (λ k. Err k) (omega (arith, q))
all_back_none (r ∷ ss) s n m x e q = ap (unless_failed (λ t. ok_or (step_taken_back r t) n)) (all_back_none ss s (suc n) m x e (omega (arith, q)))

last_step : (vs : List (Vec SpliceIn)) (left : ℕ) (v : Vec SpliceIn) → 0 < left → left ≤ length vs → v ≡ get_or vs (left - 1) v → steps_of (take left vs) ≡ steps_of (take (left - 1) vs) ++ map splice_of v.items ∷ []
last_step vs left v o l e =
    ap (λ n. steps_of (take n vs)) (omega (arith, o))
    ∙ (ap steps_of (take_more vs (left - 1) v (omega (arith, o, l)) ∙ ap (λ r. take (left - 1) vs ++ r ∷ []) (sym e))
    ∙ map-append (λ w. map splice_of w.items) (take (left - 1) vs) (v ∷ []))

pub all_back_turn : (vs : List (Vec SpliceIn)) (left : ℕ) (v : Vec SpliceIn) (s : List SpliceIn) (x y : List ℕ) → 0 < left → left ≤ length vs → v ≡ get_or vs (left - 1) v → s ≡ v.items → step_taken_back (map splice_of s) x ≡ Some y
    → all_taken_back 1 (steps_of (take (left - 1) vs)) y ≡ all_taken_back 1 (steps_of (take left vs)) x
all_back_turn vs left v s x y o l e q t =
    sym (all_back_some (steps_of (take (left - 1) vs)) (map splice_of v.items) 1 x y (ap (λ r. step_taken_back (map splice_of r) x) (sym q) ∙ t))
    ∙ ap (λ rs. all_taken_back 1 rs x) (sym (last_step vs left v o l e))

pub all_back_stops : (vs : List (Vec SpliceIn)) (left : ℕ) (v : Vec SpliceIn) (s : List SpliceIn) (x : List ℕ) → 0 < left → left ≤ length vs → v ≡ get_or vs (left - 1) v → s ≡ v.items → step_taken_back (map splice_of s) x ≡ None
    → all_taken_back 1 (steps_of (take left vs)) x ≡ Err left
all_back_stops vs left v s x o l e q t =
    ap (λ rs. all_taken_back 1 rs x) (last_step vs left v o l e)
    ∙ all_back_none (steps_of (take (left - 1) vs)) (map splice_of v.items) 1 left x (ap (λ r. step_taken_back (map splice_of r) x) (sym q) ∙ t)
    (omega (arith, o, l, length-map (take (left - 1) vs) (λ w. map splice_of w.items), length-take-le (left - 1) vs (omega (arith, l))))

-- the next of several steps
next_step : (vs : List (Vec SpliceIn)) (n : ℕ) (v : Vec SpliceIn) → n < length vs → v ≡ get_or vs n v → steps_of (drop n vs) ≡ map splice_of v.items ∷ steps_of (drop (n + 1) vs)
next_step vs n v l e = ap steps_of (drop_more vs n v l ∙ ap (λ r. r ∷ drop (n + 1) vs) (sym e))

pub made_turn : (vs : List (Vec SpliceIn)) (n : ℕ) (v : Vec SpliceIn) (s : List SpliceIn) (x y : List ℕ) → n < length vs → v ≡ get_or vs n v → s ≡ v.items → step_made (map splice_of s) x ≡ Some y
    → all_made (n + 1 + 1) (steps_of (drop (n + 1) vs)) y ≡ all_made (n + 1) (steps_of (drop n vs)) x
made_turn vs n v s x y l e q t =
    ap (λ k. all_made k (steps_of (drop (n + 1) vs)) y) (add-one (n + 1))
    ∙ (ap (λ o. unless_failed (all_made (suc (n + 1)) (steps_of (drop (n + 1) vs))) (ok_or o (n + 1))) (sym (ap (λ r. step_made (map splice_of r) x) (sym q) ∙ t))
    ∙ ap (λ rs. all_made (n + 1) rs x) (sym (next_step vs n v l e)))

pub made_stops : (vs : List (Vec SpliceIn)) (n : ℕ) (v : Vec SpliceIn) (s : List SpliceIn) (x : List ℕ) → n < length vs → v ≡ get_or vs n v → s ≡ v.items → step_made (map splice_of s) x ≡ None → all_made (n + 1) (steps_of (drop n vs)) x ≡ Err (n + 1)
made_stops vs n v s x l e q t =
    ap (λ rs. all_made (n + 1) rs x) (next_step vs n v l e) ∙ ap (λ o. unless_failed (all_made (suc (n + 1)) (steps_of (drop (n + 1) vs))) (ok_or o (n + 1))) (ap (λ r. step_made (map splice_of r) x) (sym q) ∙ t)

-- steps in memory, up to a place and from it on
pub steps_taken : (vs : List (Vec SpliceIn)) (n : ℕ) → steps_of (take n vs) ≡ take n (steps_of vs)
steps_taken [] zero = refl
steps_taken [] (suc n) = refl
steps_taken (v ∷ vs) zero = refl
steps_taken (v ∷ vs) (suc n) = ap (λ ss. map splice_of v.items ∷ ss) (steps_taken vs n)

pub steps_dropped : (vs : List (Vec SpliceIn)) (n : ℕ) → steps_of (drop n vs) ≡ drop n (steps_of vs)
steps_dropped [] zero = refl
steps_dropped [] (suc n) = refl
steps_dropped (v ∷ vs) zero = refl
steps_dropped (v ∷ vs) (suc n) = steps_dropped vs n

-- both ways, put together
pub none_failed : (back forth : Result (List ℕ) ℕ) → Succeeds back → Succeeds forth → failed back forth ≡ None
none_failed (Ok x) (Ok y) h g = refl
none_failed (Ok x) (Err n) h g = cc (g.1)
none_failed (Err n) forth h g = cc (h.1)

pub failed_back : (e : FitError) (back forth : Result (List ℕ) ℕ) → FailsWith e back → Says e (failed back forth)
failed_back (Misfit n) back forth h = rw h refl
failed_back Memory back forth h = tt

pub failed_forth : (e : FitError) (back forth : Result (List ℕ) ℕ) → Succeeds back → FailsWith e forth → Says e (failed back forth)
failed_forth (Misfit n) (Ok x) forth h g = rw g refl
failed_forth (Misfit n) (Err m) forth h g = cc (h.1)
failed_forth Memory back forth h g = tt

pub misfit_parts : (x : List ℕ) (vs : List (Vec SpliceIn)) (done : ℕ) → misfit x (steps_of vs) done ≡ failed (all_taken_back 1 (steps_of (take done vs)) x) (all_made (done + 1) (steps_of (drop done vs)) x)
misfit_parts x vs done =
    ap (λ ss. failed (all_taken_back 1 ss x) (all_made (done + 1) (drop done (steps_of vs)) x)) (sym (steps_taken vs done))
    ∙ ap (λ ss. failed (all_taken_back 1 (steps_of (take done vs)) x) (all_made (done + 1) ss x)) (sym (steps_dropped vs done))

-- what the code's answers say
pub stands_so : (place : ℕ) (found bytes read text : List ℕ) (r t : Bool) → r ≡ stands place found read → found ≡ bytes → read ≡ text → r ≡ t → stands place bytes text ≡ t
stands_so place found bytes read text r t e f g h = ap (λ b. stands place b text) (sym f) ∙ (ap (stands place found) (sym g) ∙ (sym e ∙ h))

pub tried_all : (b : Bool) (y : List ℕ) (o : Option (List ℕ)) → IsTried b y o → b ≡ true → o ≡ Some y
tried_all b y o h e = subst (λ t. IsTried t y o) e h

pub tried_none : (b : Bool) (y : List ℕ) (o : Option (List ℕ)) → IsTried b y o → b ≡ false → o ≡ None
tried_none b y o h e = subst (λ t. IsTried t y o) e h

pub on_ok : (A B : Type 0) (r : Result (Unit {0}) FitError) → OnOk r A → (A → B) → OnOk r B
on_ok A B (Ok u) h f = f h
on_ok A B (Err e) h f = tt

pub if_err : (A B : FitError → Type 0) (r : Result (Unit {0}) FitError) → IfErr r A → ((e : FitError) → A e → B e) → IfErr r B
if_err A B (Ok u) h f = tt
if_err A B (Err e) h f = f e h

-- a list that is said to be empty
pub no_steps : {X : Type 0} (xs : List X) (t : Bool) → t ≡ (length xs == 0) → t ≡ true → xs ≡ []
no_steps [] t e h = refl
no_steps (x ∷ xs) t e h = let none : suc (length xs) ≡ 0 = eqb-true (suc (length xs)) 0 (sym e ∙ h) in absurd (omega arith)
