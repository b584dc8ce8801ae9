-- Readers that read exactly what is spelled, and one after another.
use Rattle.std.proofs.Common.{◌≡◌, ◌++◌, ℕ, Result, Ok, Err, List, ◌∷◌, refl, ap, sym, ◌∙◌, subst, append_assoc}
use Rattle.mk_splice.specs.Readers.{named, and_then}
use Rattle.mk_splice.specs.inner.Parts.{with_first}

-- Some spelling begins with what stands before `rest`, and none with that and the next byte.
pub record Stops (A : Type 0) (Good : A → Type 0) (spell : A → List ℕ) (b rest : List ℕ) : Type 0 where
  pub front : List ℕ
  pub whole : b ≡ front ++ rest
  pub value : A
  pub good : Good value
  pub more : List ℕ
  pub begun : spell value ≡ front ++ more
  pub ends : (c : ℕ) (cs : List ℕ) → rest ≡ c ∷ cs → (x : A) (y z : List ℕ) → Good x → spell x ++ y ≡ front ++ (c ∷ z) → ⊥

-- What is read is spelled so, what is spelled so is read whatever follows, and else the reader stops where no spelling goes on.
pub record Reads (A : Type 0) (Good : A → Type 0) (spell : A → List ℕ) (read : List ℕ → Result (A × List ℕ) (List ℕ)) : Type 0 where
  pub found : (b : List ℕ) (x : A) (rest : List ℕ) → read b ≡ Ok (x, rest) → Good x × (b ≡ spell x ++ rest)
  pub again : (x : A) (rest : List ℕ) → Good x → read (spell x ++ rest) ≡ Ok (x, rest)
  pub stops : (b rest : List ℕ) → read b ≡ Err rest → Stops A Good spell b rest

-- what a reader gives, with its type
abbrev pub given : (A : Type 0) → Result (A × List ℕ) (List ℕ) → Result (A × List ℕ) (List ℕ)
given A r = r

pub pair_value : (A : Type 0) (p q : A × List ℕ) → given A (Ok p) ≡ Ok q → p ≡ q
pair_value A p q h = cc h

pub rest_value : (A : Type 0) (p q : List ℕ) → given A (Err p) ≡ Err q → p ≡ q
rest_value A p q h = cc h

pub ok_no_err : (A : Type 0) (p : A × List ℕ) (q : List ℕ) {P : Type 0} → given A (Ok p) ≡ Err q → P
ok_no_err A p q h = absurd (cc h)

pub err_no_ok : (A : Type 0) (p : A × List ℕ) (q : List ℕ) {P : Type 0} → given A (Err q) ≡ Ok p → P
err_no_ok A p q h = absurd (cc h)

module _ (A B : Type 0) (G : A → Type 0) (s : A → List ℕ) (r : List ℕ → Result (A × List ℕ) (List ℕ)) (H : A → B → Type 0) (t : A → B → List ℕ) (q : A → List ℕ → Result (B × List ℕ) (List ℕ)) (first : Reads A G s r) (then : (x : A) → G x → Reads B (H x) (t x) (q x)) where
  second_found : (b : List ℕ) (x : A) (l : List ℕ) (o : Result (B × List ℕ) (List ℕ)) → G x × (b ≡ s x ++ l) → q x l ≡ o → (p : A × B) (rest : List ℕ) → with_first x o ≡ Ok (p, rest) → (G p.0 × H p.0 p.1) × (b ≡ (s p.0 ++ t p.0 p.1) ++ rest)
  second_found b x l (Err m) g e p rest h = err_no_ok (A × B) (p, rest) m h
  second_found b x l (Ok (y, m)) g e p rest h =
      let pair : ((x, y), m) ≡ (p, rest) = pair_value (A × B) ((x, y), m) (p, rest) h in
      let f = (then x g.0).found l y m e in
      subst (λ (w : (A × B) × List ℕ). (G w.0.0 × H w.0.0 w.0.1) × (b ≡ (s w.0.0 ++ t w.0.0 w.0.1) ++ w.1)) pair ((g.0, f.0), g.1 ∙ (ap (λ k. s x ++ k) f.1 ∙ sym (append_assoc (s x) (t x y) m)))

  first_found : (b : List ℕ) (o : Result (A × List ℕ) (List ℕ)) → r b ≡ o → (p : A × B) (rest : List ℕ) → and_then o q ≡ Ok (p, rest) → (G p.0 × H p.0 p.1) × (b ≡ (s p.0 ++ t p.0 p.1) ++ rest)
  first_found b (Err m) e p rest h = err_no_ok (A × B) (p, rest) m h
  first_found b (Ok (x, l)) e p rest h = second_found b x l (q x l) (first.found b x l e) refl p rest h

  both_again : (p : A × B) (rest : List ℕ) → G p.0 × H p.0 p.1 → and_then (r ((s p.0 ++ t p.0 p.1) ++ rest)) q ≡ Ok (p, rest)
  both_again p rest g =
      ap (λ k. and_then (r k) q) (append_assoc (s p.0) (t p.0 p.1) rest)
      ∙ (ap (λ k. and_then k q) (first.again p.0 (t p.0 p.1 ++ rest) g.0)
      ∙ ap (with_first p.0) ((then p.0 g.0).again p.1 rest g.1))

  first_stops : (some : (x : A) → G x → (y : B) × H x y) (b l : List ℕ) → Stops A G s b l → Stops (A × B) (λ p. G p.0 × H p.0 p.1) (λ p. s p.0 ++ t p.0 p.1) b l
  first_stops some b l z =
      let y = some z.value z.good in
      record {
        front = z.front;
        whole = z.whole;
        value = (z.value, y.0);
        good = (z.good, y.1);
        more = z.more ++ t z.value y.0;
        begun = ap (λ k. k ++ t z.value y.0) z.begun ∙ append_assoc z.front z.more (t z.value y.0);
        ends = λ c cs e p u v g h. z.ends c cs e p.0 (t p.0 p.1 ++ u) v g.0 (sym (append_assoc (s p.0) (t p.0 p.1) u) ∙ h);
      }

  same_first : (x x' : A) (l l' : List ℕ) → G x → G x' → s x' ++ l' ≡ s x ++ l → ◌≡◌ {A = A × List ℕ} (x', l') (x, l)
  same_first x x' l l' g g' h = pair_value A (x', l') (x, l) (sym (first.again x' l' g') ∙ (ap r h ∙ first.again x l g))

  second_stops : (b : List ℕ) (x : A) (l m : List ℕ) → G x × (b ≡ s x ++ l) → Stops B (H x) (t x) l m → Stops (A × B) (λ p. G p.0 × H p.0 p.1) (λ p. s p.0 ++ t p.0 p.1) b m
  second_stops b x l m g z = record {
    front = s x ++ z.front;
    whole = g.1 ∙ (ap (λ k. s x ++ k) z.whole ∙ sym (append_assoc (s x) z.front m));
    value = (x, z.value);
    good = (g.0, z.good);
    more = z.more;
    begun = ap (λ k. s x ++ k) z.begun ∙ sym (append_assoc (s x) z.front z.more);
    ends = λ c cs e p u v k h.
        let same : ◌≡◌ {A = A × List ℕ} (p.0, t p.0 p.1 ++ u) (x, z.front ++ (c ∷ v)) = same_first x p.0 (z.front ++ (c ∷ v)) (t p.0 p.1 ++ u) g.0 k.0 (sym (append_assoc (s p.0) (t p.0 p.1) u) ∙ (h ∙ append_assoc (s x) z.front (c ∷ v))) in
        let value : p.0 ≡ x = ap (λ (w : A × List ℕ). w.0) same in
        z.ends c cs e p.1 u v (subst (λ w. H w p.1) value k.1) (ap (λ w. t w p.1 ++ u) (sym value) ∙ ap (λ (w : A × List ℕ). w.1) same);
  }

  second_stopped : (b : List ℕ) (x : A) (l : List ℕ) (o : Result (B × List ℕ) (List ℕ)) → G x × (b ≡ s x ++ l) → q x l ≡ o → (rest : List ℕ) → with_first x o ≡ Err rest → Stops (A × B) (λ p. G p.0 × H p.0 p.1) (λ p. s p.0 ++ t p.0 p.1) b rest
  second_stopped b x l (Ok (y, m)) g e rest h = ok_no_err (A × B) ((x, y), m) rest h
  second_stopped b x l (Err m) g e rest h = subst (Stops (A × B) (λ p. G p.0 × H p.0 p.1) (λ p. s p.0 ++ t p.0 p.1) b) (rest_value (A × B) m rest h) (second_stops b x l m g ((then x g.0).stops l m e))

  first_stopped : (some : (x : A) → G x → (y : B) × H x y) (b : List ℕ) (o : Result (A × List ℕ) (List ℕ)) → r b ≡ o → (rest : List ℕ) → and_then o q ≡ Err rest → Stops (A × B) (λ p. G p.0 × H p.0 p.1) (λ p. s p.0 ++ t p.0 p.1) b rest
  first_stopped some b (Err m) e rest h = subst (Stops (A × B) (λ p. G p.0 × H p.0 p.1) (λ p. s p.0 ++ t p.0 p.1) b) (rest_value (A × B) m rest h) (first_stops some b m (first.stops b m e))
  first_stopped some b (Ok (x, l)) e rest h = second_stopped b x l (q x l) (first.found b x l e) refl rest h

  pub reads_two : ((x : A) → G x → (y : B) × H x y) → Reads (A × B) (λ p. G p.0 × H p.0 p.1) (λ p. s p.0 ++ t p.0 p.1) (λ b. and_then (r b) q)
  reads_two some = record {
    found = λ b p rest h. first_found b (r b) refl p rest h;
    again = both_again;
    stops = λ b rest h. first_stopped some b (r b) refl rest h;
  }

-- what was read under another name
module _ (A C : Type 0) (G : A → Type 0) (s : A → List ℕ) (r : List ℕ → Result (A × List ℕ) (List ℕ)) (f : A → C) (H : C → Type 0) (t : C → List ℕ) (first : Reads A G s r) (good : (a : A) → G a → H (f a) × (t (f a) ≡ s a)) (from : (c : C) → H c → (a : A) × G a × (f a ≡ c)) where
  named_found : (b : List ℕ) (o : Result (A × List ℕ) (List ℕ)) → r b ≡ o → (x : C) (rest : List ℕ) → named f o ≡ Ok (x, rest) → H x × (b ≡ t x ++ rest)
  named_found b (Err m) e x rest h = err_no_ok C (x, rest) m h
  named_found b (Ok (a, l)) e x rest h =
      let p = first.found b a l e in
      let k = good a p.0 in
      subst (λ (w : C × List ℕ). H w.0 × (b ≡ t w.0 ++ w.1)) (pair_value C (f a, l) (x, rest) h) (k.0, p.1 ∙ ap (λ y. y ++ l) (sym k.1))

  named_again : (x : C) (rest : List ℕ) → H x → named f (r (t x ++ rest)) ≡ Ok (x, rest)
  named_again x rest h =
      let a = from x h in
      let same : t x ≡ s a.0 = ap t (sym a.2) ∙ (good a.0 a.1).1 in
      ap (λ y. named f (r (y ++ rest))) same ∙ (ap (named f) (first.again a.0 rest a.1) ∙ ap (λ y. given C (Ok (y, rest))) a.2)

  named_stops : (b m : List ℕ) → Stops A G s b m → Stops C H t b m
  named_stops b m z =
      let k = good z.value z.good in
      record {
        front = z.front;
        whole = z.whole;
        value = f z.value;
        good = k.0;
        more = z.more;
        begun = k.1 ∙ z.begun;
        ends = λ c cs e x y v h g.
            let a = from x h in
            z.ends c cs e a.0 y v a.1 (ap (λ w. w ++ y) (sym (ap t (sym a.2) ∙ (good a.0 a.1).1)) ∙ g);
      }

  named_stopped : (b : List ℕ) (o : Result (A × List ℕ) (List ℕ)) → r b ≡ o → (rest : List ℕ) → named f o ≡ Err rest → Stops C H t b rest
  named_stopped b (Ok (a, l)) e rest h = ok_no_err C (f a, l) rest h
  named_stopped b (Err m) e rest h = subst (Stops C H t b) (rest_value C m rest h) (named_stops b m (first.stops b m e))

  pub reads_named : Reads C H t (λ b. named f (r b))
  reads_named = record {
    found = λ b x rest h. named_found b (r b) refl x rest h;
    again = named_again;
    stops = λ b rest h. named_stopped b (r b) refl rest h;
  }
