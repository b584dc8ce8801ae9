-- A history is told by its text, its steps and how many of them are done.
use Rattle.std.proofs.Common.{◌≡◌, ◌≤◌, ℕ, suc, zero, List, [], ◌∷◌, refl, ap, sym, ◌∙◌, subst, length, take, drop, get_or, arith}
use Rattle.mk_splice.specs.Splices.{Splice, back_step, GoesBack}
use Rattle.mk_splice.specs.Fits.{back_all, AllBack, AllForth, Fit}
use Rattle.mk_edit.specs.History.{History, texts_after, history_of}
use Rattle.mk_edit.proofs.Steps.{texts_from}
use Rattle.mk_edit.specs.Histories.{AreLinked, IsHistory, text_now}

-- linked texts are what the steps make of the first
linked_texts : (x : List ℕ) (ys : List (List ℕ)) (ss : List (List Splice)) → AreLinked x ys ss → texts_after x ss ≡ ys
linked_texts x [] [] h = refl
linked_texts x [] (s ∷ ss) h = absurd h
linked_texts x (y ∷ ys) [] h = absurd h
linked_texts x (y ∷ ys) (s ∷ ss) h = ap (λ z. z ∷ texts_after z ss) h.0.forth ∙ ap (λ zs. y ∷ zs) (linked_texts y ys ss h.1)

linked_forth : (x : List ℕ) (ys : List (List ℕ)) (ss : List (List Splice)) → AreLinked x ys ss → AllForth ss x
linked_forth x [] [] h = tt
linked_forth x [] (s ∷ ss) h = absurd h
linked_forth x (y ∷ ys) [] h = absurd h
linked_forth x (y ∷ ys) (s ∷ ss) h = (h.0.found, subst (AllForth ss) (sym h.0.forth) (linked_forth y ys ss h.1))

-- the steps before a text can be taken back from it, and those after it made
linked_back : (x : List ℕ) (ys : List (List ℕ)) (ss : List (List Splice)) (n : ℕ) → AreLinked x ys ss → n ≤ length ss → AllBack (take n ss) (get_or (x ∷ ys) n []) × (back_all (take n ss) (get_or (x ∷ ys) n []) ≡ x)
linked_back x ys ss zero h l = (tt, refl)
linked_back x [] [] (suc n) h l = absurd (omega (arith, l))
linked_back x [] (s ∷ ss) (suc n) h l = absurd h
linked_back x (y ∷ ys) [] (suc n) h l = absurd h
linked_back x (y ∷ ys) (s ∷ ss) (suc n) h l =
    let p = linked_back y ys ss n h.1 (omega (arith, l)) in
    ((p.0, subst (GoesBack s) (sym p.1) h.0.found_back), ap (back_step s) p.1 ∙ h.0.back)

linked_on : (x : List ℕ) (ys : List (List ℕ)) (ss : List (List Splice)) (n : ℕ) → AreLinked x ys ss → n ≤ length ss → AllForth (drop n ss) (get_or (x ∷ ys) n [])
linked_on x ys ss zero h l = linked_forth x ys ss h
linked_on x [] [] (suc n) h l = absurd (omega (arith, l))
linked_on x [] (s ∷ ss) (suc n) h l = absurd h
linked_on x (y ∷ ys) [] (suc n) h l = absurd h
linked_on x (y ∷ ys) (s ∷ ss) (suc n) h l = linked_on y ys ss n h.1 (omega (arith, l))

now_is : (h : History) (b : IsHistory h) → text_now h ≡ get_or (b.first ∷ b.others) h.place []
now_is h b = ap (λ ts. get_or ts h.place []) b.texts

pub history_fits : (h : History) → IsHistory h → Fit (text_now h) h.steps h.place
history_fits h b = record {
  within = b.within;
  back = subst (AllBack (take h.place h.steps)) (sym (now_is h b)) (linked_back b.first b.others h.steps h.place b.linked b.within).0;
  forth = subst (AllForth (drop h.place h.steps)) (sym (now_is h b)) (linked_on b.first b.others h.steps h.place b.linked b.within);
}

pub history_again : (h : History) → IsHistory h → history_of (text_now h) h.steps h.place ≡ h
history_again h b =
    let first : back_all (take h.place h.steps) (text_now h) ≡ b.first = ap (back_all (take h.place h.steps)) (now_is h b) ∙ (linked_back b.first b.others h.steps h.place b.linked b.within).1 in
    let texts : texts_from (back_all (take h.place h.steps) (text_now h)) h.steps ≡ h.texts = ap (λ z. texts_from z h.steps) first ∙ (ap (λ zs. b.first ∷ zs) (linked_texts b.first b.others h.steps b.linked) ∙ sym b.texts) in
    λ i. record { texts = texts i; steps = h.steps; place = h.place }
