-- Numbers and the byte after them are read as they are spelled.
use Rattle.std.proofs.Common.{◌≡◌, ◌==◌, ◌++◌, ℕ, zero, suc, true, false, inl, inr, Result, Ok, Err, List, [], ◌∷◌, refl, ap, sym, ◌∙◌, subst, eq-eqb, ne_eqb}
use Rattle.std.proofs.lemmas.Bool.{cases_Bool, both_ways}
use Rattle.std.proofs.lemmas.Bool.Decides.{eqb_tells}
use Rattle.std.specs.Char.{is_ascii_digit}
use Rattle.mk_splice.specs.Readers.{named, read_byte}
use Rattle.mk_splice.specs.Grammar.{read_digits, AreDigits, more_digits, IsNumber, read_number}
use Rattle.mk_splice.specs.inner.Parts.{onto}
use Rattle.mk_splice.proofs.Sequences.{Stops, Reads, given, pair_value, rest_value, ok_no_err, err_no_ok, reads_two, reads_named}
use Rattle.mk_splice.proofs.Parts.{head_same, nil_cons, reads_byte}

-- the byte that ends a number is reached
pub digits_end : (n e : ℕ) (c : ℕ) (cs : List ℕ) → c == e ≡ true → read_digits n e (c ∷ cs) ≡ Ok ([], cs)
digits_end zero e c cs h = rw h refl
digits_end (suc n) e c cs h = rw h refl

-- no digit may follow
pub digits_full : (e c : ℕ) (cs : List ℕ) → c == e ≡ false → read_digits zero e (c ∷ cs) ≡ Err (c ∷ cs)
digits_full e c cs h = rw h refl

-- one digit more
pub digits_more : (n e c : ℕ) (cs : List ℕ) → c == e ≡ false → is_ascii_digit c ≡ true → read_digits (suc n) e (c ∷ cs) ≡ named (λ ds. c ∷ ds) (read_digits n e cs)
digits_more n e c cs h d = rw (h, d) refl

-- neither
pub digits_other : (n e c : ℕ) (cs : List ℕ) → c == e ≡ false → is_ascii_digit c ≡ false → read_digits (suc n) e (c ∷ cs) ≡ Err (c ∷ cs)
digits_other n e c cs h d = rw (h, d) refl

module _ (e : ℕ) (no : is_ascii_digit e ≡ false) where
  -- a digit doesn't end a number
  digit_no_end : (c : ℕ) → is_ascii_digit c ≡ true → c == e ≡ false
  digit_no_end c d = ne_eqb c e (λ k. both_ways (is_ascii_digit c) (ap is_ascii_digit k ∙ no) d)

  end_found : (n c : ℕ) (cs x rest : List ℕ) → c ≡ e → ◌≡◌ {A = List ℕ × List ℕ} ([], cs) (x, rest) → AreDigits n x × (c ∷ cs ≡ (x ++ e ∷ []) ++ rest)
  end_found n c cs x rest k h = subst (λ (w : List ℕ × List ℕ). AreDigits n w.0 × (c ∷ cs ≡ (w.0 ++ e ∷ []) ++ w.1)) h (tt, ap (λ d. d ∷ cs) k)

  more_found : (n c : ℕ) (cs : List ℕ) → is_ascii_digit c ≡ true → (o : Result (List ℕ × List ℕ) (List ℕ)) → ((x rest : List ℕ) → o ≡ Ok (x, rest) → AreDigits n x × (cs ≡ (x ++ e ∷ []) ++ rest)) → (x rest : List ℕ) → named (λ ds. c ∷ ds) o ≡ Ok (x, rest) → AreDigits (suc n) x × (c ∷ cs ≡ (x ++ e ∷ []) ++ rest)
  more_found n c cs d (Err m) told x rest h = err_no_ok (List ℕ) (x, rest) m h
  more_found n c cs d (Ok (y, m)) told x rest h =
      let p = told y m refl in
      subst (λ (w : List ℕ × List ℕ). AreDigits (suc n) w.0 × (c ∷ cs ≡ (w.0 ++ e ∷ []) ++ w.1)) (pair_value (List ℕ) (c ∷ y, m) (x, rest) h) ((d, p.0), ap (λ k. c ∷ k) p.1)

  digits_found : (n : ℕ) (b x rest : List ℕ) → read_digits n e b ≡ Ok (x, rest) → AreDigits n x × (b ≡ (x ++ e ∷ []) ++ rest)
  digits_found n [] x rest h = err_no_ok (List ℕ) (x, rest) [] h
  digits_found zero (c ∷ cs) x rest h =
      elim (eqb_tells c e) [
        | inl k ↦ end_found zero c cs x rest k.1 (pair_value (List ℕ) ([], cs) (x, rest) (sym (digits_end zero e c cs k.0) ∙ h))
        | inr k ↦ err_no_ok (List ℕ) (x, rest) (c ∷ cs) (sym (digits_full e c cs k.0) ∙ h)
      ]
  digits_found (suc n) (c ∷ cs) x rest h =
      elim (eqb_tells c e) [
        | inl k ↦ end_found (suc n) c cs x rest k.1 (pair_value (List ℕ) ([], cs) (x, rest) (sym (digits_end (suc n) e c cs k.0) ∙ h))
        | inr k ↦ elim (cases_Bool (is_ascii_digit c)) [
          | inl d ↦ more_found n c cs d (read_digits n e cs) (digits_found n cs) x rest (sym (digits_more n e c cs k.0 d) ∙ h)
          | inr d ↦ err_no_ok (List ℕ) (x, rest) (c ∷ cs) (sym (digits_other n e c cs k.0 d) ∙ h)
        ]
      ]

  digits_again : (n : ℕ) (x rest : List ℕ) → AreDigits n x → read_digits n e ((x ++ e ∷ []) ++ rest) ≡ Ok (x, rest)
  digits_again n [] rest g = digits_end n e e rest (eq-eqb e e refl)
  digits_again zero (c ∷ cs) rest g = absurd g
  digits_again (suc n) (c ∷ cs) rest g = digits_more n e c ((cs ++ e ∷ []) ++ rest) (digit_no_end c g.0) g.0 ∙ ap (named (λ ds. c ∷ ds)) (digits_again n cs rest g.1)

  -- where no spelling goes on
  stops_here : (n c : ℕ) (cs rest : List ℕ) → c == e ≡ false → ((d : ℕ) (x : List ℕ) → AreDigits n (d ∷ x) → d ≡ c → ⊥) → c ∷ cs ≡ rest → Stops (List ℕ) (AreDigits n) (λ ds. ds ++ e ∷ []) (c ∷ cs) rest
  stops_here n c cs rest k other same = record {
    front = [];
    whole = same;
    value = [];
    good = tt;
    more = e ∷ [];
    begun = refl;
    ends = λ d ds q x y z g l. stopped n c d (k) other (head_same c d cs ds (same ∙ q)) x y z g l;
  }
    where
      stopped : (n c d : ℕ) → c == e ≡ false → ((d : ℕ) (x : List ℕ) → AreDigits n (d ∷ x) → d ≡ c → ⊥) → c ≡ d → (x y z : List ℕ) → AreDigits n x → (x ++ e ∷ []) ++ y ≡ d ∷ z → ⊥
      stopped n c d k other q [] y z g l = both_ways (c == e) k (eq-eqb c e (q ∙ sym (head_same e d y z l)))
      stopped n c d k other q (a ∷ x) y z g l = other a x g (head_same a d ((x ++ e ∷ []) ++ y) z l ∙ sym q)

  end_stops : (n : ℕ) (b rest : List ℕ) → b ≡ [] → [] ≡ rest → Stops (List ℕ) (AreDigits n) (λ ds. ds ++ e ∷ []) b rest
  end_stops n b rest k same = record {
    front = [];
    whole = k ∙ same;
    value = [];
    good = tt;
    more = e ∷ [];
    begun = refl;
    ends = λ c cs q x y z g l. nil_cons c cs (same ∙ q);
  }

  later_stops : (n c : ℕ) (cs rest : List ℕ) → is_ascii_digit c ≡ true → Stops (List ℕ) (AreDigits n) (λ ds. ds ++ e ∷ []) cs rest → Stops (List ℕ) (AreDigits (suc n)) (λ ds. ds ++ e ∷ []) (c ∷ cs) rest
  later_stops n c cs rest d s = record {
    front = c ∷ s.front;
    whole = ap (λ k. c ∷ k) s.whole;
    value = c ∷ s.value;
    good = (d, s.good);
    more = s.more;
    begun = ap (λ k. c ∷ k) s.begun;
    ends = λ f fs q x y z g l. later f fs q x y z g l;
  }
    where
      later : (f : ℕ) (fs : List ℕ) → rest ≡ f ∷ fs → (x y z : List ℕ) → AreDigits (suc n) x → (x ++ e ∷ []) ++ y ≡ c ∷ (s.front ++ (f ∷ z)) → ⊥
      later f fs q [] y z g l = both_ways (c == e) (digit_no_end c d) (eq-eqb c e (sym (head_same e c y (s.front ++ (f ∷ z)) l)))
      later f fs q (a ∷ x) y z g l = s.ends f fs q x y z g.1 (cc l)

  more_stops : (n c : ℕ) (cs : List ℕ) → is_ascii_digit c ≡ true → (o : Result (List ℕ × List ℕ) (List ℕ)) → ((rest : List ℕ) → o ≡ Err rest → Stops (List ℕ) (AreDigits n) (λ ds. ds ++ e ∷ []) cs rest)
      → (rest : List ℕ) → named (λ ds. c ∷ ds) o ≡ Err rest → Stops (List ℕ) (AreDigits (suc n)) (λ ds. ds ++ e ∷ []) (c ∷ cs) rest
  more_stops n c cs d (Ok (y, m)) told rest h = ok_no_err (List ℕ) (c ∷ y, m) rest h
  more_stops n c cs d (Err m) told rest h = later_stops n c cs rest d (told rest (ap (λ k. given (List ℕ) (Err k)) (rest_value (List ℕ) m rest h)))

  digits_stop : (n : ℕ) (b rest : List ℕ) → read_digits n e b ≡ Err rest → Stops (List ℕ) (AreDigits n) (λ ds. ds ++ e ∷ []) b rest
  digits_stop n [] rest h = end_stops n [] rest refl (rest_value (List ℕ) [] rest h)
  digits_stop zero (c ∷ cs) rest h =
      elim (eqb_tells c e) [
        | inl k ↦ ok_no_err (List ℕ) ([], cs) rest (sym (digits_end zero e c cs k.0) ∙ h)
        | inr k ↦ stops_here zero c cs rest k.0 (λ d x g l. absurd g) (rest_value (List ℕ) (c ∷ cs) rest (sym (digits_full e c cs k.0) ∙ h))
      ]
  digits_stop (suc n) (c ∷ cs) rest h =
      elim (eqb_tells c e) [
        | inl k ↦ ok_no_err (List ℕ) ([], cs) rest (sym (digits_end (suc n) e c cs k.0) ∙ h)
        | inr k ↦ elim (cases_Bool (is_ascii_digit c)) [
          | inl d ↦ more_stops n c cs d (read_digits n e cs) (digits_stop n cs) rest (sym (digits_more n e c cs k.0 d) ∙ h)
          | inr d ↦ stops_here (suc n) c cs rest k.0 (λ a x g l. both_ways (is_ascii_digit c) d (ap is_ascii_digit (sym l) ∙ g.0)) (rest_value (List ℕ) (c ∷ cs) rest (sym (digits_other n e c cs k.0 d) ∙ h))
        ]
      ]

  reads_digits : (n : ℕ) → Reads (List ℕ) (AreDigits n) (λ ds. ds ++ e ∷ []) (read_digits n e)
  reads_digits n = record { found = digits_found n; again = digits_again n; stops = digits_stop n }

  number_from : (ds : List ℕ) → IsNumber ds → (p : ℕ × List ℕ) × ((is_ascii_digit p.0 ≡ true) × AreDigits (more_digits p.0) p.1) × (onto p ≡ ds)
  number_from [] g = absurd g
  number_from (c ∷ cs) g = ((c, cs), g, refl)

  pub reads_number : Reads (List ℕ) IsNumber (λ ds. ds ++ e ∷ []) (read_number e)
  reads_number =
      reads_named (ℕ × List ℕ) (List ℕ) _ _ _ onto IsNumber (λ ds. ds ++ e ∷ [])
      (reads_two ℕ (List ℕ) (λ c. is_ascii_digit c ≡ true) (λ c. c ∷ []) (read_byte is_ascii_digit) (λ c ds. AreDigits (more_digits c) ds) (λ c ds. ds ++ e ∷ []) (λ c. read_digits (more_digits c) e) (reads_byte is_ascii_digit 48 refl) (λ c g. reads_digits (more_digits c)) (λ c g. ([], tt)))
      (λ p g. (g, refl))
      number_from

-- numbers before a space, and before a line feed
pub reads_spaced : Reads (List ℕ) IsNumber (λ ds. ds ++ 32 ∷ []) (read_number 32)
reads_spaced = reads_number 32 refl

pub reads_lined : Reads (List ℕ) IsNumber (λ ds. ds ++ 10 ∷ []) (read_number 10)
reads_lined = reads_number 10 refl
