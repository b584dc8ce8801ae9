-- Readers of bytes, runs, texts and lists.
use Rattle.std.proofs.Common.{◌≡◌, ◌==◌, ◌-◌, ◌≤◌, ◌++◌, nat_lt, ℕ, zero, suc, Bool, true, false, inl, inr, Result, Ok, Err, List, [], ◌∷◌, refl, ap, sym, ◌∙◌, subst, length, take, drop, replicate, arith, length-append, append-nil, eq-eqb, eqb-true, ltb-true, ltb-false, le-ltb}
use Rattle.std.proofs.lemmas.Bool.{cases_Bool, both_ways}
use Rattle.std.proofs.lemmas.List.{take_at, drop_at, take-append-drop, length-take-le, length-replicate}
use Rattle.std.specs.List.{flat_map}
use Rattle.mk_splice.specs.Readers.{read_times, AllGood, read_byte, read_run, read_text}
use Rattle.mk_splice.specs.inner.Parts.{onto, read_mark}
use Rattle.mk_splice.proofs.Sequences.{Stops, Reads, given, pair_value, rest_value, ok_no_err, err_no_ok, reads_two, reads_named}

-- a list that begins with another byte
pub head_same : (a b : ℕ) (xs ys : List ℕ) → a ∷ xs ≡ b ∷ ys → a ≡ b
head_same a b xs ys h = cc h

pub tail_same : (a b : ℕ) (xs ys : List ℕ) → a ∷ xs ≡ b ∷ ys → xs ≡ ys
tail_same a b xs ys h = cc h

pub nil_cons : (c : ℕ) (cs : List ℕ) {P : Type 0} → [] ≡ c ∷ cs → P
nil_cons c cs h = absurd (cc h)

-- nothing is read
pub reads_nothing : Reads (List ℕ) (λ ds. ds ≡ []) (λ ds. []) (λ b. Ok ([], b))
reads_nothing = record {
  found = λ b x rest h. subst (λ (w : List ℕ × List ℕ). (w.0 ≡ []) × (b ≡ [] ++ w.1)) (pair_value (List ℕ) ([], b) (x, rest) h) (refl, refl);
  again = λ x rest g. ap (λ w. given (List ℕ) (Ok (w, rest))) (sym g);
  stops = λ b rest h. ok_no_err (List ℕ) ([], b) rest h;
}

-- a byte
module _ (t : ℕ → Bool) where
  pub byte_yes : (c : ℕ) (cs : List ℕ) → t c ≡ true → read_byte t (c ∷ cs) ≡ Ok (c, cs)
  byte_yes c cs e = rw e refl

  pub byte_no : (c : ℕ) (cs : List ℕ) → t c ≡ false → read_byte t (c ∷ cs) ≡ Err (c ∷ cs)
  byte_no c cs e = rw e refl

  byte_found : (b : List ℕ) (x : ℕ) (rest : List ℕ) → read_byte t b ≡ Ok (x, rest) → (t x ≡ true) × (b ≡ (x ∷ []) ++ rest)
  byte_found [] x rest h = err_no_ok ℕ (x, rest) [] h
  byte_found (c ∷ cs) x rest h =
      elim (cases_Bool (t c)) [
        | inl e ↦ subst (λ (w : ℕ × List ℕ). (t w.0 ≡ true) × (c ∷ cs ≡ (w.0 ∷ []) ++ w.1)) (pair_value ℕ (c, cs) (x, rest) (sym (byte_yes c cs e) ∙ h)) (e, refl)
        | inr e ↦ err_no_ok ℕ (x, rest) (c ∷ cs) (sym (byte_no c cs e) ∙ h)
      ]

  module _ (a : ℕ) (good : t a ≡ true) where
    byte_stops : (b rest : List ℕ) → read_byte t b ≡ Err rest → Stops ℕ (λ c. t c ≡ true) (λ c. c ∷ []) b rest
    byte_stops [] rest h = record {
      front = [];
      whole = rest_value ℕ [] rest h;
      value = a;
      good = good;
      more = a ∷ [];
      begun = refl;
      ends = λ c cs e x y z g k. nil_cons c cs (rest_value ℕ [] rest h ∙ e);
    }
    byte_stops (c ∷ cs) rest h =
        elim (cases_Bool (t c)) [
          | inl e ↦ ok_no_err ℕ (c, cs) rest (sym (byte_yes c cs e) ∙ h)
          | inr e ↦
              let same : c ∷ cs ≡ rest = rest_value ℕ (c ∷ cs) rest (sym (byte_no c cs e) ∙ h) in
              record {
                front = [];
                whole = same;
                value = a;
                good = good;
                more = a ∷ [];
                begun = refl;
                ends = λ d ds k x y z g l. both_ways (t c) e (ap t (head_same c d cs ds (same ∙ k) ∙ sym (head_same x d y z l)) ∙ g);
              }
        ]

    pub reads_byte : Reads ℕ (λ c. t c ≡ true) (λ c. c ∷ []) (read_byte t)
    reads_byte = record {
      found = byte_found;
      again = λ x rest g. byte_yes x rest g;
      stops = byte_stops;
    }

-- a byte that is given
pub reads_mark : (e : ℕ) → Reads ℕ (λ c. c == e ≡ true) (λ c. c ∷ []) (read_mark e)
reads_mark e = reads_byte (λ c. c == e) e (eq-eqb e e refl)

-- a run of bytes
run_yes : (n : ℕ) (b : List ℕ) → n ≤ length b → read_run n b ≡ Ok (take n b, drop n b)
run_yes n b h = let e : nat_lt (length b) n ≡ false = le-ltb (length b) n h in rw e refl

run_no : (n : ℕ) (b : List ℕ) → nat_lt (length b) n ≡ true → read_run n b ≡ Err []
run_no n b e = rw e refl

run_found : (n : ℕ) (b x rest : List ℕ) → read_run n b ≡ Ok (x, rest) → (length x ≡ n) × (b ≡ x ++ rest)
run_found n b x rest h =
    elim (cases_Bool (nat_lt (length b) n)) [
      | inl e ↦ err_no_ok (List ℕ) (x, rest) [] (sym (run_no n b e) ∙ h)
      | inr e ↦
          let within : n ≤ length b = ltb-false (length b) n e in
          subst (λ (w : List ℕ × List ℕ). (length w.0 ≡ n) × (b ≡ w.0 ++ w.1)) (pair_value (List ℕ) (take n b, drop n b) (x, rest) (sym (run_yes n b within) ∙ h))
          (length-take-le n b within, sym (take-append-drop n b))
    ]

run_again : (n : ℕ) (x rest : List ℕ) → length x ≡ n → read_run n (x ++ rest) ≡ Ok (x, rest)
run_again n x rest g =
    run_yes n (x ++ rest) (omega (arith, g, length-append x rest))
    ∙ (ap (λ w. given (List ℕ) (Ok (w, drop n (x ++ rest)))) (take_at x rest n g) ∙ ap (λ w. given (List ℕ) (Ok (x, w))) (drop_at x rest n g))

run_stops : (n : ℕ) (b rest : List ℕ) → read_run n b ≡ Err rest → Stops (List ℕ) (λ xs. length xs ≡ n) (λ xs. xs) b rest
run_stops n b rest h =
    elim (cases_Bool (nat_lt (length b) n)) [
      | inl e ↦
          let same : [] ≡ rest = rest_value (List ℕ) [] rest (sym (run_no n b e) ∙ h) in
          record {
            front = b;
            whole = sym (append-nil b) ∙ ap (λ w. b ++ w) same;
            value = b ++ replicate (n - length b) 0;
            good = omega (arith, length-append b (replicate (n - length b) 0), length-replicate {A = ℕ} (n - length b) 0, ltb-true (length b) n e);
            more = replicate (n - length b) 0;
            begun = refl;
            ends = λ c cs k x y z g l. nil_cons c cs (same ∙ k);
          }
      | inr e ↦ ok_no_err (List ℕ) (take n b, drop n b) rest (sym (run_yes n b (ltb-false (length b) n e)) ∙ h)
    ]

pub reads_run : (n : ℕ) → Reads (List ℕ) (λ xs. length xs ≡ n) (λ xs. xs) (read_run n)
reads_run n = record { found = run_found n; again = run_again n; stops = run_stops n }

pub some_run : (n : ℕ) → (xs : List ℕ) × (length xs ≡ n)
some_run n = (replicate n 0, length-replicate {A = ℕ} n 0)

-- a text that is given
pub reads_text : (w : List ℕ) → Reads (List ℕ) (λ x. x ≡ w) (λ x. x) (read_text w)
reads_text [] = record {
  found = λ b x rest h. subst (λ (w : List ℕ × List ℕ). (w.0 ≡ []) × (b ≡ w.0 ++ w.1)) (pair_value (List ℕ) ([], b) (x, rest) h) (refl, refl);
  again = λ x rest g. ap (λ w. read_text [] (w ++ rest)) g ∙ ap (λ w. given (List ℕ) (Ok (w, rest))) (sym g);
  stops = λ b rest h. ok_no_err (List ℕ) ([], b) rest h;
}
reads_text (w ∷ ws) =
    reads_named (ℕ × List ℕ) (List ℕ) _ _ _ onto (λ x. x ≡ w ∷ ws) (λ x. x)
    (reads_two ℕ (List ℕ) (λ c. c == w ≡ true) (λ c. c ∷ []) (read_mark w) (λ c xs. xs ≡ ws) (λ c xs. xs) (λ c. read_text ws) (reads_mark w) (λ c g. reads_text ws) (λ c g. (ws, refl)))
    (λ p g. (ap (λ c. c ∷ p.1) (eqb-true p.0 w g.0) ∙ ap (λ cs. w ∷ cs) g.1, refl))
    (λ x h. ((w, ws), (eq-eqb w w refl, refl), sym h))

-- the same reader n times
module _ (A : Type 0) (G : A → Type 0) (s : A → List ℕ) (r : List ℕ → Result (A × List ℕ) (List ℕ)) (one : Reads A G s r) where
  none_again : (xs : List A) (rest : List ℕ) → AllGood G zero xs → read_times zero r (flat_map s xs ++ rest) ≡ Ok (xs, rest)
  none_again [] rest g = refl
  none_again (x ∷ xs) rest g = absurd g

  cons_from : (n : ℕ) (xs : List A) → AllGood G (suc n) xs → (p : A × List A) × (G p.0 × AllGood G n p.1) × (onto p ≡ xs)
  cons_from n [] g = absurd g
  cons_from n (x ∷ xs) g = ((x, xs), g, refl)

  module _ (a : A) (good : G a) where
    pub some_times : (n : ℕ) → (xs : List A) × AllGood G n xs
    some_times zero = ([], tt)
    some_times (suc n) = let p = some_times n in (a ∷ p.0, (good, p.1))

    pub reads_times : (n : ℕ) → Reads (List A) (AllGood G n) (flat_map s) (read_times n r)
    reads_times zero = record {
      found = λ b x rest h. subst (λ (w : List A × List ℕ). AllGood G zero w.0 × (b ≡ flat_map s w.0 ++ w.1)) (pair_value (List A) ([], b) (x, rest) h) (tt, refl);
      again = none_again;
      stops = λ b rest h. ok_no_err (List A) ([], b) rest h;
    }
    reads_times (suc n) =
        reads_named (A × List A) (List A) _ _ _ onto (AllGood G (suc n)) (flat_map s)
        (reads_two A (List A) G s r (λ x xs. AllGood G n xs) (λ x xs. flat_map s xs) (λ x. read_times n r) one (λ x g. reads_times n) (λ x g. some_times n))
        (λ p g. (g, refl))
        (cons_from n)
