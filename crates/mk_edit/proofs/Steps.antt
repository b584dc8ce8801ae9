-- A text and its steps as a history.
use Rattle.std.proofs.Common.{◌≡◌, ◌+◌, ◌≤◌, ◌<◌, ◌++◌, ℕ, suc, zero, List, [], ◌∷◌, refl, ap, sym, ◌∙◌, subst, length, take, drop, get_or, arith, length-append, add-one}
use Rattle.std.proofs.lemmas.List.{take_at, drop_at, length-take-le, take-append-drop, drop_more, take_more}
use Rattle.mk_splice.specs.Splices.{Splice, forth_step, back_step, GoesForth, GoesBack}
use Rattle.mk_edit.specs.Histories.{AreLinked, IsHistory, text_now, with_step}
use Rattle.mk_splice.specs.Fits.{back_all, forth_all, AllBack, AllForth, Fit}
use Rattle.mk_edit.specs.History.{texts_after, history_of}
use Rattle.mk_splice.proofs.Bytes.{back_forth, forth_back, leads_to}

-- one step more at the end
pub back_append : (ss : List (List Splice)) (s : List Splice) (x : List ℕ) → back_all (ss ++ s ∷ []) x ≡ back_all ss (back_step s x)
back_append [] s x = refl
back_append (r ∷ ss) s x = ap (back_step r) (back_append ss s x)

pub AllBack-append : (ss : List (List Splice)) (s : List Splice) (x : List ℕ) → AllBack ss (back_step s x) → GoesBack s x → AllBack (ss ++ s ∷ []) x
AllBack-append [] s x h g = (tt, g)
AllBack-append (r ∷ ss) s x h g = (AllBack-append ss s x h.0 g, subst (GoesBack r) (sym (back_append ss s x)) h.1)

pub AllBack-front : (ss : List (List Splice)) (s : List Splice) (x : List ℕ) → AllBack (ss ++ s ∷ []) x → AllBack ss (back_step s x) × GoesBack s x
AllBack-front [] s x h = (tt, h.1)
AllBack-front (r ∷ ss) s x h =
    let p = AllBack-front ss s x h.0 in
    ((p.0, subst (GoesBack r) (back_append ss s x) h.1), p.1)

-- steps taken back can all be made again
pub all_forth_back : (ss : List (List Splice)) (x : List ℕ) → AllBack ss x → AllForth ss (back_all ss x) × (forth_all ss (back_all ss x) ≡ x)
all_forth_back [] x h = (tt, refl)
all_forth_back (s ∷ ss) x h =
    let p = all_forth_back ss x h.0 in
    let q = forth_back s (back_all ss x) h.1 in
    ((q.0, subst (AllForth ss) (sym q.1) p.0), ap (forth_all ss) q.1 ∙ p.1)

pub AllForth-join : (ss rs : List (List Splice)) (x : List ℕ) → AllForth ss x → AllForth rs (forth_all ss x) → AllForth (ss ++ rs) x
AllForth-join [] rs x h g = g
AllForth-join (s ∷ ss) rs x h g = (h.0, AllForth-join ss rs (forth_step s x) h.1 g)

-- the first text and those that steps give
abbrev pub texts_from : List ℕ → List (List Splice) → List (List ℕ)
texts_from x ss = x ∷ texts_after x ss

-- the text at a place is what the steps before it make
pub text_at : (n : ℕ) (t : List ℕ) (ss : List (List Splice)) → n ≤ length ss → get_or (texts_from t ss) n [] ≡ forth_all (take n ss) t
text_at zero t ss h = refl
text_at (suc n) t [] h = absurd (omega (arith, h))
text_at (suc n) t (s ∷ ss) h = text_at n (forth_step s t) ss (omega (arith, h))

-- the texts up to a place, and one more
pub texts_more : (n : ℕ) (t : List ℕ) (ss : List (List Splice)) (s : List Splice) → n ≤ length ss → texts_from t (take n ss ++ s ∷ []) ≡ take (suc n) (texts_from t ss) ++ forth_step s (forth_all (take n ss) t) ∷ []
texts_more zero t ss s h = refl
texts_more (suc n) t [] s h = absurd (omega (arith, h))
texts_more (suc n) t (r ∷ ss) s h = ap (λ xs. t ∷ xs) (texts_more n (forth_step r t) ss s (omega (arith, h)))

pub linked : (t : List ℕ) (ss : List (List Splice)) → AllForth ss t → AreLinked t (texts_after t ss) ss
linked t [] h = tt
linked t (s ∷ ss) h = (leads_to s t (forth_step s t) h.0 refl, linked (forth_step s t) ss h.1)

-- all steps can be made from the first text on
all_steps : (x : List ℕ) (ss : List (List Splice)) (n : ℕ) → Fit x ss n → AllForth ss (back_all (take n ss) x)
all_steps x ss n f =
    let p = all_forth_back (take n ss) x f.back in
    subst (λ rs. AllForth rs (back_all (take n ss) x)) (take-append-drop n ss)
    (AllForth-join (take n ss) (drop n ss) (back_all (take n ss) x) p.0 (subst (AllForth (drop n ss)) (sym p.1) f.forth))

pub fit_history : (x : List ℕ) (ss : List (List Splice)) (n : ℕ) → Fit x ss n → IsHistory (history_of x ss n)
fit_history x ss n f = record {
  first = back_all (take n ss) x;
  others = texts_after (back_all (take n ss) x) ss;
  texts = refl;
  linked = linked (back_all (take n ss) x) ss (all_steps x ss n f);
  within = f.within;
}

pub fit_text : (x : List ℕ) (ss : List (List Splice)) (n : ℕ) → Fit x ss n → text_now (history_of x ss n) ≡ x
fit_text x ss n f = text_at n (back_all (take n ss) x) ss f.within ∙ (all_forth_back (take n ss) x f.back).1

-- the steps at a place, where one more or one less is done
front_step : (ss : List (List Splice)) (n : ℕ) (s : List Splice) → n < length ss → s ≡ get_or ss n s → take (n + 1) ss ≡ take n ss ++ s ∷ []
front_step ss n s h e = take_more ss n s h ∙ ap (λ r. take n ss ++ r ∷ []) (sym e)

next_step : (ss : List (List Splice)) (n : ℕ) (s : List Splice) → n < length ss → s ≡ get_or ss n s → drop n ss ≡ s ∷ drop (n + 1) ss
next_step ss n s h e = drop_more ss n s h ∙ ap (λ r. r ∷ drop (n + 1) ss) (sym e)

-- what taking the last done step back needs, keeps and gives
pub record Moved (x : List ℕ) (ss : List (List Splice)) (n m : ℕ) (y : List ℕ) : Type 0 where
  pub fits : Fit y ss m
  pub history : history_of y ss m ≡ record (history_of x ss n) { place = m }

pub undo_can : (x : List ℕ) (ss : List (List Splice)) (n m : ℕ) (s : List Splice) → Fit x ss n → n ≡ m + 1 → s ≡ get_or ss m s → GoesBack s x
undo_can x ss n m s f e g =
    (AllBack-front (take m ss) s x (subst (λ rs. AllBack rs x) (ap (λ k. take k ss) e ∙ front_step ss m s (omega (arith, f.within)) g) f.back)).1

pub undo_is : (x : List ℕ) (ss : List (List Splice)) (n m : ℕ) (s : List Splice) (y : List ℕ) → Fit x ss n → n ≡ m + 1 → s ≡ get_or ss m s → y ≡ back_step s x → Moved x ss n m y
undo_is x ss n m s y f e g q =
    let less : m < length ss = omega (arith, f.within) in
    let front : take n ss ≡ take m ss ++ s ∷ [] = ap (λ k. take k ss) e ∙ front_step ss m s less g in
    let p = AllBack-front (take m ss) s x (subst (λ rs. AllBack rs x) front f.back) in
    let r = forth_back s x p.1 in
    record {
      fits = record {
        within = omega arith;
        back = subst (AllBack (take m ss)) (sym q) p.0;
        forth = subst (λ rs. AllForth rs y) (sym (next_step ss m s less g))
            (subst (GoesForth s) (sym q) r.0, subst (AllForth (drop (m + 1) ss)) (sym (ap (forth_step s) q ∙ r.1)) (subst (λ k. AllForth (drop k ss) x) e f.forth));
      };
      history = λ i. record {
        texts = texts_from ((ap (back_all (take m ss)) q ∙ (sym (back_append (take m ss) s x) ∙ ap (λ rs. back_all rs x) (sym front))) i) ss;
        steps = ss;
        place = m;
      };
    }

pub redo_can : (x : List ℕ) (ss : List (List Splice)) (n : ℕ) (s : List Splice) → Fit x ss n → n < length ss → s ≡ get_or ss n s → GoesForth s x
redo_can x ss n s f h g = (subst (λ rs. AllForth rs x) (next_step ss n s h g) f.forth).0

pub redo_is : (x : List ℕ) (ss : List (List Splice)) (n : ℕ) (s : List Splice) (y : List ℕ) → Fit x ss n → n < length ss → s ≡ get_or ss n s → y ≡ forth_step s x → Moved x ss n (n + 1) y
redo_is x ss n s y f h g q =
    let p = subst (λ rs. AllForth rs x) (next_step ss n s h g) f.forth in
    let r = back_forth s x p.0 in
    let before : back_step s y ≡ x = ap (back_step s) q ∙ r.1 in
    let front : take (n + 1) ss ≡ take n ss ++ s ∷ [] = front_step ss n s h g in
    record {
      fits = record {
        within = omega arith;
        back = subst (λ rs. AllBack rs y) (sym front) (AllBack-append (take n ss) s y (subst (AllBack (take n ss)) (sym before) f.back) (subst (GoesBack s) (sym q) r.0));
        forth = subst (AllForth (drop (n + 1) ss)) (sym q) p.1;
      };
      history = λ i. record {
        texts = texts_from ((ap (λ rs. back_all rs y) front ∙ (back_append (take n ss) s y ∙ ap (back_all (take n ss)) before)) i) ss;
        steps = ss;
        place = n + 1;
      };
    }

-- a new step in the place of what was undone
pub record Stepped (x : List ℕ) (ss : List (List Splice)) (n : ℕ) (s : List Splice) (y : List ℕ) (rs : List (List Splice)) : Type 0 where
  pub fits : Fit y rs (n + 1)
  pub history : history_of y rs (n + 1) ≡ with_step (history_of x ss n) y s

append_end : {X : Type 0} (xs : List X) → xs ++ [] ≡ xs
append_end [] = refl
append_end (x ∷ xs) = ap (λ ys. x ∷ ys) (append_end xs)

pub take_all : {X : Type 0} (n : ℕ) (xs : List X) → length xs ≡ n → take n xs ≡ xs
take_all n xs e = ap (take n) (sym (append_end xs)) ∙ take_at xs [] n e

drop_all : {X : Type 0} (n : ℕ) (xs : List X) → length xs ≡ n → drop n xs ≡ []
drop_all n xs e = ap (drop n) (sym (append_end xs)) ∙ drop_at xs [] n e

pub edit_is : (x : List ℕ) (ss : List (List Splice)) (n : ℕ) (s : List Splice) (y : List ℕ) (rs : List (List Splice)) → Fit x ss n → GoesForth s x → y ≡ forth_step s x → rs ≡ take n ss ++ s ∷ [] → Stepped x ss n s y rs
edit_is x ss n s y rs f g q e =
    let r = back_forth s x g in
    let before : back_step s y ≡ x = ap (back_step s) q ∙ r.1 in
    let size : length rs ≡ n + 1 = omega (arith, ap length e, length-append (take n ss) (s ∷ []), length-take-le n ss f.within) in
    let whole : take (n + 1) rs ≡ take n ss ++ s ∷ [] = take_all (n + 1) rs size ∙ e in
    let t : back_all (take (n + 1) rs) y ≡ back_all (take n ss) x = ap (λ xs. back_all xs y) whole ∙ (back_append (take n ss) s y ∙ ap (back_all (take n ss)) before) in
    let text : y ≡ forth_step s (forth_all (take n ss) (back_all (take n ss) x)) = q ∙ ap (forth_step s) (sym (all_forth_back (take n ss) x f.back).1) in
    record {
      fits = record {
        within = omega arith;
        back = subst (λ xs. AllBack xs y) (sym whole) (AllBack-append (take n ss) s y (subst (AllBack (take n ss)) (sym before) f.back) (subst (GoesBack s) (sym q) r.0));
        forth = subst (λ xs. AllForth xs y) (sym (drop_all (n + 1) rs size)) tt;
      };
      history = λ i. record {
        texts = (ap (λ z. texts_from z rs) t ∙ (ap (texts_from (back_all (take n ss) x)) e ∙ (texts_more n (back_all (take n ss) x) ss s f.within
            ∙ (ap (λ k. take k (texts_from (back_all (take n ss) x) ss) ++ forth_step s (forth_all (take n ss) (back_all (take n ss) x)) ∷ []) (sym (add-one n))
            ∙ ap (λ z. take (n + 1) (texts_from (back_all (take n ss) x) ss) ++ z ∷ []) (sym text))))) i;
        steps = e i;
        place = n + 1;
      };
    }
