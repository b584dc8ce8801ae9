-- A splice made and taken back gives the text again, and the same for whole steps.
use Rattle.std.proofs.Common.{◌≡◌, ◌+◌, ◌≤◌, ◌++◌, ℕ, List, [], ◌∷◌, refl, ap, sym, ◌∙◌, subst, length, take, drop, arith, append_assoc, length-append, length-drop}
use Rattle.std.proofs.lemmas.List.{take_at, drop_at, drop-drop, length-take-le, take-append-drop}
use Rattle.std.proofs.Math.Seq.{take-append_seam, drop-append_seam}
use Rattle.mk_splice.specs.Splices.{Splice, Stands, forth_one, back_one, forth_step, back_step, GoesForth, GoesBack, LeadsTo, spliced}

-- how long a text is then
pub length-spliced : (place n : ℕ) (new x : List ℕ) → place + n ≤ length x → length (spliced place n new x) + n ≡ length x + length new
length-spliced place n new x h =
    omega (arith, length-append (take place x) (new ++ drop (place + n) x), length-append new (drop (place + n) x), length-take-le place x (omega arith), length-drop (place + n) x)

-- what stands before the place stays, and what follows
before_spliced : (place n : ℕ) (new x : List ℕ) → place ≤ length x → take place (spliced place n new x) ≡ take place x
before_spliced place n new x h = take_at (take place x) (new ++ drop (place + n) x) place (length-take-le place x h)

front_size : (place : ℕ) (new x : List ℕ) → place ≤ length x → place + length new ≡ length (take place x ++ new)
front_size place new x h = omega (arith, length-append (take place x) new, length-take-le place x h)

pub after_spliced : (place n : ℕ) (new x : List ℕ) → place ≤ length x → drop (place + length new) (spliced place n new x) ≡ drop (place + n) x
after_spliced place n new x h =
    ap (drop (place + length new)) (sym (append_assoc (take place x) new (drop (place + n) x)))
    ∙ drop_at (take place x ++ new) (drop (place + n) x) (place + length new) (sym (front_size place new x h))

-- putting other bytes there and the old ones back changes nothing
pub put_again : (place : ℕ) (old new x : List ℕ) → Stands place old x → spliced place (length new) old (spliced place (length old) new x) ≡ x
put_again place old new x h =
    let within : place ≤ length x = omega (arith, h.within) in
    ap (λ xs. xs ++ (old ++ drop (place + length new) (spliced place (length old) new x))) (before_spliced place (length old) new x within)
    ∙ (ap (λ xs. take place x ++ (old ++ xs)) (after_spliced place (length old) new x within) ∙ h.same)

pub put_stands : (place : ℕ) (old new x : List ℕ) → Stands place old x → Stands place new (spliced place (length old) new x)
put_stands place old new x h =
    let within : place ≤ length x = omega (arith, h.within) in
    record {
      within = omega (arith, h.within, length-spliced place (length old) new x h.within);
      same =
          ap (λ xs. xs ++ (new ++ drop (place + length new) (spliced place (length old) new x))) (before_spliced place (length old) new x within)
          ∙ ap (λ xs. take place x ++ (new ++ xs)) (after_spliced place (length old) new x within);
    }

-- a step made can be taken back, and gives what was before
pub back_forth : (s : List Splice) (x : List ℕ) → GoesForth s x → GoesBack s (forth_step s x) × (back_step s (forth_step s x) ≡ x)
back_forth [] x h = (tt, refl)
back_forth (c ∷ cs) x h =
    let p = back_forth cs (forth_one c x) h.1 in (
      (p.0, subst (λ y. Stands c.place c.new y) (sym p.1) (put_stands c.place c.old c.new x h.0)),
      ap (back_one c) p.1 ∙ put_again c.place c.old c.new x h.0,
    )

-- and the other way round
pub forth_back : (s : List Splice) (y : List ℕ) → GoesBack s y → GoesForth s (back_step s y) × (forth_step s (back_step s y) ≡ y)
forth_back [] y h = (tt, refl)
forth_back (c ∷ cs) y h =
    let p = forth_back cs y h.0 in
    let again : forth_one c (back_one c (back_step cs y)) ≡ back_step cs y = put_again c.place c.new c.old (back_step cs y) h.1 in (
      (put_stands c.place c.new c.old (back_step cs y) h.1, subst (λ z. GoesForth cs z) (sym again) p.0),
      ap (forth_step cs) again ∙ p.1,
    )

-- bytes between others
pub spliced_there : (a old b new : List ℕ) → spliced (length a) (length old) new (a ++ (old ++ b)) ≡ a ++ (new ++ b)
spliced_there a old b new =
    ap (λ t. t ++ (new ++ drop (length a + length old) (a ++ (old ++ b)))) (take-append_seam a (old ++ b))
    ∙ ap (λ t. a ++ (new ++ t)) (ap (λ n. drop n (a ++ (old ++ b))) (sym (length-append a old)) ∙ (ap (drop (length (a ++ old))) (sym (append_assoc a old b)) ∙ drop-append_seam (a ++ old) b))

pub stands_there : (a old b : List ℕ) → Stands (length a) old (a ++ (old ++ b))
stands_there a old b = record {
  within = omega (arith, length-append a (old ++ b), length-append old b);
  same = spliced_there a old b old;
}

-- bytes copied at a place stand there
pub copied_stands : (place count : ℕ) (x old : List ℕ) → place + count ≤ length x → old ≡ take count (drop place x) → Stands place old x × (length old ≡ count)
copied_stands place count x old h e =
    let size : length old ≡ count = ap length e ∙ length-take-le count (drop place x) (omega (arith, h, length-drop place x)) in (
      record {
        within = omega (arith, h, size);
        same =
            ap (λ k. take place x ++ (old ++ drop (place + k) x)) size
            ∙ (ap (λ xs. take place x ++ (xs ++ drop (place + count) x)) e
            ∙ (ap (λ xs. take place x ++ (take count (drop place x) ++ xs)) (sym (drop-drop count place x))
            ∙ (ap (λ xs. take place x ++ xs) (take-append-drop count (drop place x)) ∙ take-append-drop place x)));
      },
      size,
    )

-- splices that find what they replace lead to what they make
pub leads_to : (ss : List Splice) (x y : List ℕ) → GoesForth ss x → forth_step ss x ≡ y → LeadsTo ss x y
leads_to ss x y g e =
    let p = back_forth ss x g in
    record {
      found = g;
      forth = e;
      found_back = subst (GoesBack ss) e p.0;
      back = ap (back_step ss) (sym e) ∙ p.1;
    }

-- splices after others
pub forth_append : (ss rs : List Splice) (x : List ℕ) → forth_step (ss ++ rs) x ≡ forth_step rs (forth_step ss x)
forth_append [] rs x = refl
forth_append (s ∷ ss) rs x = forth_append ss rs (forth_one s x)

pub found_append : (ss rs : List Splice) (x : List ℕ) → GoesForth ss x → GoesForth rs (forth_step ss x) → GoesForth (ss ++ rs) x
found_append [] rs x h g = g
found_append (s ∷ ss) rs x h g = (h.0, found_append ss rs (forth_one s x) h.1 g)

pub leads_on : (ss rs : List Splice) (x y z : List ℕ) → LeadsTo ss x y → LeadsTo rs y z → LeadsTo (ss ++ rs) x z
leads_on ss rs x y z p q =
    leads_to (ss ++ rs) x z (found_append ss rs x p.found (subst (GoesForth rs) (sym p.forth) q.found)) (forth_append ss rs x ∙ (ap (forth_step rs) p.forth ∙ q.forth))
