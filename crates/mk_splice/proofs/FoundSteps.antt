-- Steps fit a text exactly where each one, tried in turn, finds the bytes that it replaces.
use Rattle.std.proofs.Common.{◌≡◌, ◌+◌, ◌≤◌, ◌++◌, not, nat_lt, nat_eq, ℕ, suc, true, false, inl, inr, Option, None, Some, Result, Ok, Err, List, [], ◌∷◌, refl, ap, sym, ◌∙◌, subst, length, take, drop, arith, length-drop}
use Rattle.std.proofs.lemmas.Bool.{cases_Bool, and_parts, ltb-false, le-ltb, not-true}
use Rattle.std.proofs.lemmas.List.{drop_at, length-take-le, length-take, take_at}
use Rattle.std.specs.Cmp.Lexicographic.{pointwise, same_text, other_text}
use Rattle.std.specs.Option.{ok_or, option_and_then}
use Rattle.mk_splice.specs.Splices.{Splice, Stands, forth_one, back_one, forth_step, back_step, GoesForth, GoesBack}
use Rattle.mk_splice.specs.Fits.{back_all, forth_all, AllBack, AllForth, Fit}
use Rattle.mk_splice.specs.Misfits.{stands, step_made, step_taken_back, all_made, all_taken_back, unless_failed, misfit, FitsAreTold}
use Rattle.mk_splice.specs.inner.Tries.{one_made, one_taken_back, failed}
use Rattle.mk_splice.proofs.Bytes.{copied_stands}

-- answers with their types
abbrev option_of : Option (List ℕ) → Option (List ℕ)
option_of o = o

abbrev result_of : Result (List ℕ) ℕ → Result (List ℕ) ℕ
result_of r = r

some_value : (x y : List ℕ) → Some x ≡ Some y → y ≡ x
some_value x y h = cc h

ok_value : (x y : List ℕ) → result_of (Ok x) ≡ Ok y → y ≡ x
ok_value x y h = cc h

-- answers that can't be the same
none_some : {A : Type 0} (y : List ℕ) → option_of None ≡ Some y → A
none_some y h = absurd (cc h)

some_none : {A : Type 0} (n : ℕ) → Some n ≡ None → A
some_none n h = absurd (cc h)

err_ok : {A : Type 0} (n : ℕ) (y : List ℕ) → result_of (Err n) ≡ Ok y → A
err_ok n y h = absurd (cc h)

-- one splice
made_there : (s : Splice) (x : List ℕ) → stands s.place s.old x ≡ true → one_made s x ≡ Some (forth_one s x)
made_there s x e = rw e refl

made_away : (s : Splice) (x : List ℕ) → stands s.place s.old x ≡ false → one_made s x ≡ None
made_away s x e = rw e refl

back_there : (s : Splice) (x : List ℕ) → stands s.place s.new x ≡ true → one_taken_back s x ≡ Some (back_one s x)
back_there s x e = rw e refl

back_away : (s : Splice) (x : List ℕ) → stands s.place s.new x ≡ false → one_taken_back s x ≡ None
back_away s x e = rw e refl

-- what the test of bytes at a place tells
stands_told : (place : ℕ) (bytes x : List ℕ) → stands place bytes x ≡ true → Stands place bytes x
stands_told place bytes x h =
    let p = and_parts (not (nat_lt (length x) place)) (pointwise nat_eq bytes (take (length bytes) (drop place x))) h in
    let here : place ≤ length x = ltb-false (length x) place (not-true (nat_lt (length x) place) p.0) in
    let same : bytes ≡ take (length bytes) (drop place x) = same_text bytes (take (length bytes) (drop place x)) (sym p.1) in
    let size : place + length bytes ≤ length x = omega (arith, ap length same, length-take (length bytes) (drop place x), length-drop place x, here) in
    (copied_stands place (length bytes) x bytes size same).0

same_bytes : (place : ℕ) (bytes x : List ℕ) → Stands place bytes x → take (length bytes) (drop place x) ≡ bytes
same_bytes place bytes x h =
    let front : length (take place x) ≡ place = length-take-le place x (omega (arith, h.within)) in
    ap (λ y. take (length bytes) (drop place y)) (sym h.same)
    ∙ (ap (take (length bytes)) (drop_at (take place x) (bytes ++ drop (place + length bytes) x) place front) ∙ take_at bytes (drop (place + length bytes) x) (length bytes) refl)

pub stands_is : (place : ℕ) (bytes x : List ℕ) → Stands place bytes x → stands place bytes x ≡ true
stands_is place bytes x h =
    let here : nat_lt (length x) place ≡ false = le-ltb (length x) place (omega (arith, h.within)) in
    rw here
    (elim (cases_Bool (pointwise nat_eq bytes (take (length bytes) (drop place x)))) [
      | inl e ↦ e
      | inr e ↦ absurd (other_text bytes (take (length bytes) (drop place x)) (sym e) (sym (same_bytes place bytes x h)))
    ])

-- one step
made_so : (ss : List Splice) (x y : List ℕ) → step_made ss x ≡ Some y → GoesForth ss x × (y ≡ forth_step ss x)
made_so [] x y h = (tt, some_value x y h)
made_so (s ∷ ss) x y h =
    elim (cases_Bool (stands s.place s.old x)) [
      | inl e ↦
          let p = made_so ss (forth_one s x) y (sym (ap (option_and_then (step_made ss)) (made_there s x e)) ∙ h) in
          ((stands_told s.place s.old x e, p.0), p.1)
      | inr e ↦ none_some y (sym (ap (option_and_then (step_made ss)) (made_away s x e)) ∙ h)
    ]

pub made_is : (ss : List Splice) (x : List ℕ) → GoesForth ss x → step_made ss x ≡ Some (forth_step ss x)
made_is [] x h = refl
made_is (s ∷ ss) x h = ap (option_and_then (step_made ss)) (made_there s x (stands_is s.place s.old x h.0)) ∙ made_is ss (forth_one s x) h.1

back_after : (s : Splice) (ss : List Splice) (x y : List ℕ) (o : Option (List ℕ)) → step_taken_back ss x ≡ o → ((z : List ℕ) → step_taken_back ss x ≡ Some z → GoesBack ss x × (z ≡ back_step ss x)) → option_and_then (one_taken_back s) o ≡ Some y
    → GoesBack (s ∷ ss) x × (y ≡ back_step (s ∷ ss) x)
back_after s ss x y None e told h = none_some y h
back_after s ss x y (Some z) e told h =
    let p = told z e in
    elim (cases_Bool (stands s.place s.new z)) [
      | inl t ↦ ((p.0, subst (Stands s.place s.new) p.1 (stands_told s.place s.new z t)), some_value (back_one s z) y (sym (back_there s z t) ∙ h) ∙ ap (back_one s) p.1)
      | inr t ↦ none_some y (sym (back_away s z t) ∙ h)
    ]

back_so : (ss : List Splice) (x y : List ℕ) → step_taken_back ss x ≡ Some y → GoesBack ss x × (y ≡ back_step ss x)
back_so [] x y h = (tt, some_value x y h)
back_so (s ∷ ss) x y h = back_after s ss x y (step_taken_back ss x) refl (back_so ss x) h

pub back_is : (ss : List Splice) (x : List ℕ) → GoesBack ss x → step_taken_back ss x ≡ Some (back_step ss x)
back_is [] x h = refl
back_is (s ∷ ss) x h = ap (option_and_then (one_taken_back s)) (back_is ss x h.0) ∙ back_there s (back_step ss x) (stands_is s.place s.new (back_step ss x) h.1)

-- all of them
all_made_after : (n : ℕ) (s : List Splice) (ss : List (List Splice)) (x y : List ℕ) (o : Option (List ℕ)) → step_made s x ≡ o → unless_failed (all_made (suc n) ss) (ok_or o n) ≡ Ok y
    → ((z : List ℕ) → all_made (suc n) ss z ≡ Ok y → AllForth ss z) → AllForth (s ∷ ss) x
all_made_after n s ss x y None e h more = err_ok n y h
all_made_after n s ss x y (Some z) e h more = let p = made_so s x z e in (p.0, subst (AllForth ss) p.1 (more z h))

all_made_so : (n : ℕ) (ss : List (List Splice)) (x y : List ℕ) → all_made n ss x ≡ Ok y → AllForth ss x
all_made_so n [] x y h = tt
all_made_so n (s ∷ ss) x y h = all_made_after n s ss x y (step_made s x) refl h (λ z. all_made_so (suc n) ss z y)

all_made_is : (n : ℕ) (ss : List (List Splice)) (x : List ℕ) → AllForth ss x → all_made n ss x ≡ Ok (forth_all ss x)
all_made_is n [] x h = refl
all_made_is n (s ∷ ss) x h = ap (λ o. unless_failed (all_made (suc n) ss) (ok_or o n)) (made_is s x h.0) ∙ all_made_is (suc n) ss (forth_step s x) h.1

all_back_last : (n : ℕ) (s : List Splice) (ss : List (List Splice)) (x y z : List ℕ) (o : Option (List ℕ)) → step_taken_back s z ≡ o → ok_or o n ≡ Ok y → AllBack ss x × (z ≡ back_all ss x) → AllBack (s ∷ ss) x × (y ≡ back_all (s ∷ ss) x)
all_back_last n s ss x y z None e h p = err_ok n y h
all_back_last n s ss x y z (Some w) e h p = let q = back_so s z w e in ((p.0, subst (GoesBack s) p.1 q.0), ok_value w y h ∙ (q.1 ∙ ap (back_step s) p.1))

all_back_after : (n : ℕ) (s : List Splice) (ss : List (List Splice)) (x y : List ℕ) (r : Result (List ℕ) ℕ) → all_taken_back (suc n) ss x ≡ r → unless_failed (λ t. ok_or (step_taken_back s t) n) r ≡ Ok y
    → ((z : List ℕ) → all_taken_back (suc n) ss x ≡ Ok z → AllBack ss x × (z ≡ back_all ss x)) → AllBack (s ∷ ss) x × (y ≡ back_all (s ∷ ss) x)
all_back_after n s ss x y (Err m) e h more = err_ok m y h
all_back_after n s ss x y (Ok z) e h more = all_back_last n s ss x y z (step_taken_back s z) refl h (more z e)

all_back_so : (n : ℕ) (ss : List (List Splice)) (x y : List ℕ) → all_taken_back n ss x ≡ Ok y → AllBack ss x × (y ≡ back_all ss x)
all_back_so n [] x y h = (tt, ok_value x y h)
all_back_so n (s ∷ ss) x y h = all_back_after n s ss x y (all_taken_back (suc n) ss x) refl h (all_back_so (suc n) ss x)

all_back_is : (n : ℕ) (ss : List (List Splice)) (x : List ℕ) → AllBack ss x → all_taken_back n ss x ≡ Ok (back_all ss x)
all_back_is n [] x h = refl
all_back_is n (s ∷ ss) x h = ap (unless_failed (λ t. ok_or (step_taken_back s t) n)) (all_back_is (suc n) ss x h.0) ∙ ap (λ o. ok_or o n) (back_is s (back_all ss x) h.1)

-- both ways
failed_none : (back forth : Result (List ℕ) ℕ) → failed back forth ≡ None → ((y : List ℕ) × (back ≡ Ok y)) × ((z : List ℕ) × (forth ≡ Ok z))
failed_none (Ok y) (Ok z) h = ((y, refl), (z, refl))
failed_none (Ok y) (Err n) h = some_none n h
failed_none (Err n) forth h = some_none n h

pub fits_so : (x : List ℕ) (ss : List (List Splice)) (done : ℕ) → done ≤ length ss → misfit x ss done ≡ None → Fit x ss done
fits_so x ss done l h =
    let p = failed_none (all_taken_back 1 (take done ss) x) (all_made (done + 1) (drop done ss) x) h in
    record {
      within = l;
      back = (all_back_so 1 (take done ss) x p.0.0 p.0.1).0;
      forth = all_made_so (done + 1) (drop done ss) x p.1.0 p.1.1;
    }

pub fits_is : (x : List ℕ) (ss : List (List Splice)) (done : ℕ) → Fit x ss done → misfit x ss done ≡ None
fits_is x ss done f = ap (λ b. failed b (all_made (done + 1) (drop done ss) x)) (all_back_is 1 (take done ss) x f.back) ∙ ap (failed (Ok (back_all (take done ss) x))) (all_made_is (done + 1) (drop done ss) x f.forth)

pub fits_are_told_lem : FitsAreTold
fits_are_told_lem text ss done l = (fits_so text ss done l, fits_is text ss done)
