-- Whole files: what they say, or the offset where they stop being the beginning of one that says something.
use Rattle.std.proofs.Common.{◌≡◌, ◌+◌, ◌-◌, ◌≤◌, ◌<◌, ◌++◌, ℕ, suc, Result, Ok, Err, List, [], ◌∷◌, refl, ap, sym, ◌∙◌, subst, length, take, arith, append_assoc, length-append, append-nil}
use Rattle.std.proofs.lemmas.List.{take_at}
use Rattle.std.proofs.Math.Seq.{take-append-add}
use Rattle.mk_splice.specs.Readers.{whole, LongestAt}
use Rattle.mk_splice.proofs.Sequences.{Reads, pair_value, ok_no_err}
use Rattle.mk_splice.proofs.Parts.{nil_cons}

-- what a whole file says, with its type
abbrev answer : (A : Type 0) → Result A ℕ → Result A ℕ
answer A r = r

value_same : (A : Type 0) (x y : A) → answer A (Ok x) ≡ Ok y → x ≡ y
value_same A x y h = cc h

offset_same : (A : Type 0) (m n : ℕ) → answer A (Err m) ≡ Err n → m ≡ n
offset_same A m n h = cc h

value_offset : (A : Type 0) (x : A) (n : ℕ) {P : Type 0} → answer A (Ok x) ≡ Err n → P
value_offset A x n h = absurd (cc h)

offset_value : (A : Type 0) (x : A) (n : ℕ) {P : Type 0} → answer A (Err n) ≡ Ok x → P
offset_value A x n h = absurd (cc h)

module _ (A : Type 0) (G : A → Type 0) (s : A → List ℕ) (r : List ℕ → Result (A × List ℕ) (List ℕ)) (one : Reads A G s r) where
  found_after : (file : List ℕ) (o : Result (A × List ℕ) (List ℕ)) → r file ≡ o → (n : ℕ) (x : A) → whole n o ≡ Ok x → G x × (s x ≡ file)
  found_after file (Ok (y, [])) e n x h =
      let p = one.found file y [] e in
      subst (λ w. G w × (s w ≡ file)) (value_same A y x h) (p.0, sym (p.1 ∙ append-nil (s y)))
  found_after file (Ok (y, c ∷ cs)) e n x h = offset_value A x (n - length (c ∷ cs)) h
  found_after file (Err rest) e n x h = offset_value A x (n - length rest) h

  pub whole_found : (file : List ℕ) (x : A) → whole (length file) (r file) ≡ Ok x → G x × (s x ≡ file)
  whole_found file x h = found_after file (r file) refl (length file) x h

  read_again : (file : List ℕ) (x : A) → G x → s x ≡ file → r file ≡ Ok (x, [])
  read_again file x g h = ap r (sym (append-nil (s x) ∙ h)) ∙ one.again x [] g

  pub whole_again : (file : List ℕ) (x : A) → G x → s x ≡ file → whole (length file) (r file) ≡ Ok x
  whole_again file x g h = ap (whole (length file)) (read_again file x g h)

  -- where some spelling begins with a front, and none is that front and what begins with the next byte
  begins_longer : (front rest : List ℕ) (m : ℕ) → length front < m → m ≤ length (front ++ rest) → (z : List ℕ) → (c : ℕ) × (cs : List ℕ) × (v : List ℕ) × (rest ≡ c ∷ cs) × (take m (front ++ rest) ++ z ≡ front ++ (c ∷ v))
  begins_longer front [] m h k z = absurd (omega (arith, h, k, length-append front []))
  begins_longer front (c ∷ cs) m h k z = (
    c,
    cs,
    take (m - length front - 1) cs ++ z,
    refl,
    ap (λ w. take w (front ++ (c ∷ cs)) ++ z) (let e : m ≡ length front + suc (m - length front - 1) = omega (arith, h) in e)
        ∙ (ap (λ w. w ++ z) (take-append-add front (c ∷ cs) (suc (m - length front - 1))) ∙ append_assoc front (c ∷ take (m - length front - 1) cs) z),
  )

  longest_at : (front rest more : List ℕ) (x : A) → G x → s x ≡ front ++ more → ((c : ℕ) (cs : List ℕ) → rest ≡ c ∷ cs → (y : A) (z : List ℕ) → G y → s y ≡ front ++ (c ∷ z) → ⊥)
      → ((y : A) → G y → s y ≡ front ++ rest → ⊥) → LongestAt A G s (front ++ rest) (length front)
  longest_at front rest more x g begun ends none = record {
    within = omega (arith, length-append front rest);
    begins = (x, more, g, begun ∙ ap (λ w. w ++ more) (sym (take_at front rest (length front) refl)));
    longest = λ m h k b. (let p = begins_longer front rest m h k b.1 in ends p.0 p.1 p.3 b.0 p.2 b.2 (b.3 ∙ p.4));
    none = none;
  }

  stops_after : (file : List ℕ) (o : Result (A × List ℕ) (List ℕ)) → r file ≡ o → (n : ℕ) → whole (length file) o ≡ Err n → LongestAt A G s file n
  stops_after file (Ok (y, [])) e n h = value_offset A y n h
  stops_after file (Ok (y, c ∷ cs)) e n h =
      let p = one.found file y (c ∷ cs) e in
      let size : length (s y) ≡ n = omega (arith, offset_same A (length file - length (c ∷ cs)) n h, ap length p.1, length-append (s y) (c ∷ cs)) in
      let same : (z : List ℕ) (d : ℕ) (x : A) → G x → s x ≡ s y ++ (d ∷ z) → ⊥ =
      λ z d x g k. (let w : ◌≡◌ {A = A × List ℕ} (x, []) (y, d ∷ z) = pair_value A (x, []) (y, d ∷ z) (sym (read_again (s y ++ (d ∷ z)) x g k) ∙ one.again y (d ∷ z) p.0) in nil_cons d z (ap (λ (v : A × List ℕ). v.1) w))
      in
      subst (LongestAt A G s file) size (subst (λ f. LongestAt A G s f (length (s y))) (sym p.1) (longest_at (s y) (c ∷ cs) [] y p.0 (sym (append-nil (s y))) (λ d ds k x z g l. same z d x g l) (λ x g l. same cs c x g l)))
  stops_after file (Err rest) e n h =
      let z = one.stops file rest e in
      let size : length z.front ≡ n = omega (arith, offset_same A (length file - length rest) n h, ap length z.whole, length-append z.front rest) in
      subst (LongestAt A G s file) size
      (subst (λ f. LongestAt A G s f (length z.front)) (sym z.whole)
      (longest_at z.front rest z.more z.value z.good z.begun (λ c cs k x v g l. z.ends c cs k x [] v g (append-nil (s x) ∙ l)) (λ x g l. ok_no_err A (x, []) rest (sym (read_again file x g (l ∙ sym z.whole)) ∙ e))))

  pub whole_stops : (file : List ℕ) (n : ℕ) → whole (length file) (r file) ≡ Err n → LongestAt A G s file n
  whole_stops file n h = stops_after file (r file) refl n h
