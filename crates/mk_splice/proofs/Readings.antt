-- How readers in memory go on or stop, one after another and in loops.
use Rattle.std.proofs.Common.{◌≡◌, ◌*◌, ◌+◌, ◌-◌, ◌^◌, ◌≤◌, ◌<◌, ◌++◌, ℕ, zero, suc, true, inl, inr, Result, Ok, Err, List, [], ◌∷◌, refl, ap, sym, ◌∙◌, subst, length, map, take, drop, min, arith, append_assoc, append-nil, length-append, take_all, get_or, ne_eqb}
use Rattle.std.proofs.lemmas.Bool.{cases_lt}
use Rattle.std.proofs.lemmas.List.{map-append, take_rest}
use Rattle.std.specs.Char.{is_ascii_digit}
use Rattle.std.specs.List.{flat_map}
use Rattle.mk_splice.specs.declared.reading.Version.{Version}
use Rattle.mk_splice.specs.declared.reading.Version.TheVariants.{One, Two}
use Rattle.std.specs.Borrow.{Bor}
use Rattle.mk_splice.specs.declared.reading.Stop.{Stop}
use Rattle.mk_splice.specs.declared.reading.Stop.TheVariants.{At, Memory}
use Rattle.mk_splice.specs.Splices.{Splice}
use Rattle.mk_splice.specs.inner.Readings.{StopsAt, Gives, SoFar}
use Rattle.mk_splice.specs.Readers.{named, and_then, read_times, read_byte, read_run, AllGood}
use Rattle.mk_splice.specs.Grammar.{Entry, StepText, IsEntry, IsStep, more_digits, value_from, number_of, read_digits, read_step, spell_entry, spell_step, read_number, read_sizes, read_entry}
use Rattle.mk_splice.specs.Journals.{saturated}
use Rattle.mk_splice.specs.inner.Parts.{with_first, onto, read_mark, read_end, entry_of}
use Rattle.mk_splice.proofs.Sequences.{given}
use Rattle.mk_splice.proofs.Parts.{byte_yes}
use Rattle.mk_splice.proofs.Numbers.{digits_more}
use Rattle.mk_splice.proofs.Entries.{reads_entry, reads_step}

-- a reader stops where its first part does
pub first_fails : (A B : Type 0) (r : Result (A × List ℕ) (List ℕ)) (q : A → List ℕ → Result (B × List ℕ) (List ℕ)) (e : Stop) → StopsAt {A = A} e r → StopsAt {A = A × B} e (and_then r q)
first_fails A B r q (At left) h = (h.0, ap (λ k. and_then k q) h.1, h.2)
first_fails A B r q Memory h = tt

-- or where the part after it does
pub next_fails : (A B : Type 0) (r : Result (A × List ℕ) (List ℕ)) (q : A → List ℕ → Result (B × List ℕ) (List ℕ)) (a : A) (l : List ℕ) (e : Stop) → r ≡ Ok (a, l) → StopsAt {A = B} e (q a l) → StopsAt {A = A × B} e (and_then r q)
next_fails A B r q a l (At left) g h = (h.0, ap (λ k. and_then k q) g ∙ ap (with_first a) h.1, h.2)
next_fails A B r q a l Memory g h = tt

pub named_fails : (A B : Type 0) (f : A → B) (r : Result (A × List ℕ) (List ℕ)) (e : Stop) → StopsAt {A = A} e r → StopsAt {A = B} e (named f r)
named_fails A B f r (At left) h = (h.0, ap (named f) h.1, h.2)
named_fails A B f r Memory h = tt

-- a reader goes on where both its parts do
pub next_goes : (A B : Type 0) (r : Result (A × List ℕ) (List ℕ)) (q : A → List ℕ → Result (B × List ℕ) (List ℕ)) (a : A) (l : List ℕ) (b : B) (m : List ℕ) → r ≡ Ok (a, l) → q a l ≡ Ok (b, m) → and_then r q ≡ Ok ((a, b), m)
next_goes A B r q a l b m g h = ap (λ k. and_then k q) g ∙ ap (with_first a) h

pub same_fails : (A : Type 0) (r s : Result (A × List ℕ) (List ℕ)) (e : Stop) → r ≡ s → StopsAt {A = A} e r → StopsAt {A = A} e s
same_fails A r s e g h = subst (λ k. StopsAt {A = A} e k) g h

-- the same reader many times
module _ (A X M : Type 0) (f : X → M) (g : A → M) (r : List ℕ → Result (A × List ℕ) (List ℕ)) (total : ℕ) (bytes : List ℕ) where
  named_nothing : (o : Result (List A × List ℕ) (List ℕ)) → o ≡ named (λ ys. [] ++ ys) o
  named_nothing (Ok p) = refl
  named_nothing (Err e) = refl

  pub begins : SoFar A X M f g r total bytes total bytes []
  begins = record { values = []; same = refl; read = named_nothing (read_times total r bytes) }

  named_onto : (vs : List A) (a : A) (o : Result (List A × List ℕ) (List ℕ)) → named (λ ys. vs ++ ys) (named onto (with_first a o)) ≡ named (λ ys. (vs ++ a ∷ []) ++ ys) o
  named_onto vs a (Ok p) = ap (λ k. given (List A) (Ok (k, p.1))) (sym (append_assoc vs (a ∷ []) p.0))
  named_onto vs a (Err e) = refl

  pub one_more : (left : ℕ) (rest following : List ℕ) (xs : List X) (a : A) (x : X) → SoFar A X M f g r total bytes (suc left) rest xs → r rest ≡ Ok (a, following) → f x ≡ g a → SoFar A X M f g r total bytes left following (xs ++ x ∷ [])
  one_more left rest following xs a x s h e = record {
    values = s.values ++ a ∷ [];
    same = map-append f xs (x ∷ []) ∙ (ap (λ k. k ++ f x ∷ []) s.same ∙ (ap (λ k. map g s.values ++ k ∷ []) e ∙ sym (map-append g s.values (a ∷ []))));
    read = s.read ∙ (ap (λ k. named (λ ys. s.values ++ ys) (named onto (and_then k (λ y. read_times left r)))) h ∙ named_onto s.values a (read_times left r following));
  }

  pub one_fails : (left : ℕ) (rest : List ℕ) (xs : List X) (e : Stop) → SoFar A X M f g r total bytes (suc left) rest xs → StopsAt {A = A} e (r rest) → StopsAt {A = List A} e (read_times total r bytes)
  one_fails left rest xs e s h =
      same_fails (List A) (named (λ ys. s.values ++ ys) (read_times (suc left) r rest)) (read_times total r bytes) e (sym s.read)
      (named_fails (List A) (List A) (λ ys. s.values ++ ys) (read_times (suc left) r rest) e
      (named_fails (A × List A) (List A) onto (and_then (r rest) (λ y. read_times left r)) e (first_fails A (List A) (r rest) (λ y. read_times left r) e h)))

  pub one_more_at : (more left : ℕ) (rest following : List ℕ) (xs ys : List X) (a : A) (x : X) → more ≡ left + 1 → ys ≡ xs ++ x ∷ [] → SoFar A X M f g r total bytes more rest xs → r rest ≡ Ok (a, following) → f x ≡ g a → SoFar A X M f g r total bytes left following ys
  one_more_at more left rest following xs ys a x size e s h k =
      let next : more ≡ suc left = omega (arith, size) in
      subst (λ zs. SoFar A X M f g r total bytes left following zs) (sym e) (one_more left rest following xs a x (subst (λ n. SoFar A X M f g r total bytes n rest xs) next s) h k)

  pub one_fails_at : (more left : ℕ) (rest : List ℕ) (xs : List X) (e : Stop) → more ≡ left + 1 → SoFar A X M f g r total bytes more rest xs → StopsAt {A = A} e (r rest) → StopsAt {A = List A} e (read_times total r bytes)
  one_fails_at more left rest xs e size s h =
      let next : more ≡ suc left = omega (arith, size) in
      one_fails left rest xs e (subst (λ n. SoFar A X M f g r total bytes n rest xs) next s) h

  pub all_read : (left : ℕ) (rest : List ℕ) (xs : List X) → left ≡ 0 → SoFar A X M f g r total bytes left rest xs → (vs : List A) × (read_times total r bytes ≡ Ok (vs, rest)) × (map f xs ≡ map g vs)
  all_read left rest xs none s = (s.values, s.read ∙ (ap (λ n. named (λ ys. s.values ++ ys) (read_times n r rest)) none ∙ ap (λ k. given (List A) (Ok (k, rest))) (append-nil s.values)), s.same)

-- more readings than there are bytes come to nothing, however many
module _ (A : Type 0) (r : List ℕ → Result (A × List ℕ) (List ℕ)) (consumes : (b : List ℕ) (a : A) (l : List ℕ) → r b ≡ Ok (a, l) → length l < length b) where
  beyond_after : (n m : ℕ) (b : List ℕ) (o : Result (A × List ℕ) (List ℕ)) → r b ≡ o → ((l : List ℕ) → length l < length b → read_times n r l ≡ read_times m r l) → named onto (and_then o (λ x. read_times n r)) ≡ named onto (and_then o (λ x. read_times m r))
  beyond_after n m b (Err e) h more = refl
  beyond_after n m b (Ok p) h more = ap (λ k. named onto (with_first p.0 k)) (more p.1 (consumes b p.0 p.1 h))

  times_beyond : (n m : ℕ) (b : List ℕ) → length b < n → length b < m → read_times n r b ≡ read_times m r b
  times_beyond zero m b h k = absurd (omega (arith, h))
  times_beyond (suc n) zero b h k = absurd (omega (arith, k))
  times_beyond (suc n) (suc m) b h k = beyond_after n m b (r b) refl (λ l less. times_beyond n m l (omega (arith, h, less)) (omega (arith, k, less)))

  pub times_same : (n : ℕ) (b : List ℕ) → length b < 2 ^ 64 - 1 → read_times (saturated n) r b ≡ read_times n r b
  times_same n b h =
      elim (cases_lt n (2 ^ 64)) [
        | inl less ↦ (let e : saturated n ≡ n = omega (arith, less) in ap (λ k. read_times k r b) e)
        | inr more ↦ times_beyond (saturated n) n b (omega (arith, h, more)) (omega (arith, h, more))
      ]

-- what is given stands for what was read under another name
pub gives_named : (A B X : Type 0) (Means : A → X → Type 0) (Other : B → X → Type 0) (f : A → B) (read : Result (A × List ℕ) (List ℕ)) (result : Result (X × Bor (List ℕ)) Stop) → ((a : A) (x : X) → Means a x → Other (f a) x) → Gives {A = A} {X = X} Means result read → Gives {A = B} {X = X} Other result (named f read)
gives_named A B X Means Other f read (Ok p) told h = (f h.0, ap (named f) h.1, told h.0 p.0 h.2)
gives_named A B X Means Other f read (Err e) told h = named_fails A B f read e h

pub gives_same : (A X : Type 0) (Means : A → X → Type 0) (read other : Result (A × List ℕ) (List ℕ)) (result : Result (X × Bor (List ℕ)) Stop) → read ≡ other → Gives {A = A} {X = X} Means result read → Gives {A = A} {X = X} Means result other
gives_same A X Means read other result e h = subst (λ r. Gives {A = A} {X = X} Means result r) e h

pub gives_next : (A B X : Type 0) (Means : B → X → Type 0) (Other : A × B → X → Type 0) (r : Result (A × List ℕ) (List ℕ)) (q : A → List ℕ → Result (B × List ℕ) (List ℕ)) (a : A) (l : List ℕ) (result : Result (X × Bor (List ℕ)) Stop) → r ≡ Ok (a, l) → ((b : B) (x : X) → Means b x → Other (a, b) x) → Gives {A = B} {X = X} Means result (q a l) → Gives {A = A × B} {X = X} Other result (and_then r q)
gives_next A B X Means Other r q a l (Ok p) g told h = ((a, h.0), next_goes A B r q a l h.0 p.1.now g h.1, told h.0 p.0 h.2)
gives_next A B X Means Other r q a l (Err e) g told h = next_fails A B r q a l e g h

-- an entry is read where its parts are
pub entry_goes : (b r1 r2 r3 r4 r5 r6 place old_size new_size old new : List ℕ) (c : ℕ) → read_number 32 b ≡ Ok (place, r1) → read_number 32 r1 ≡ Ok (old_size, r2) → read_number 10 r2 ≡ Ok (new_size, r3) → read_run (number_of old_size) r3 ≡ Ok (old, r4) → read_run (number_of new_size) r4 ≡ Ok (new, r5) → read_mark 10 r5 ≡ Ok (c, r6)
    → read_entry b ≡ Ok (record { place = place; old_size = old_size; new_size = new_size; old = old; new = new }, r6)
entry_goes b r1 r2 r3 r4 r5 r6 place old_size new_size old new c e1 e2 e3 e4 e5 e6 =
    let sizes : read_sizes b ≡ Ok (((place, old_size), new_size), r3) =
    next_goes (List ℕ × List ℕ) (List ℕ) (and_then (read_number 32 b) (λ p. read_number 32)) (λ p. read_number 10) (place, old_size) r2 new_size r3 (next_goes (List ℕ) (List ℕ) (read_number 32 b) (λ p. read_number 32) place r1 old_size r2 e1 e2) e3
    in
    let ending : read_end (number_of new_size) r4 ≡ Ok ((new, c), r6) = next_goes (List ℕ) ℕ (read_run (number_of new_size) r4) (λ xs. read_mark 10) new r5 c r6 e5 e6 in
    ap (named entry_of)
    (next_goes (((List ℕ × List ℕ) × List ℕ) × List ℕ) (List ℕ × ℕ) (and_then (read_sizes b) (λ p. read_run (number_of p.0.1))) (λ p. read_end (number_of p.0.1)) (((place, old_size), new_size), old) r4 (new, c) r6
    (next_goes ((List ℕ × List ℕ) × List ℕ) (List ℕ) (read_sizes b) (λ p. read_run (number_of p.0.1)) ((place, old_size), new_size) r3 old r4 sizes e4) ending)

pub splice_same : (place n : ℕ) (old xs new ys : List ℕ) → place ≡ n → old ≡ xs → new ≡ ys → ◌≡◌ {A = Splice} (record { place = place; old = old; new = new }) (record { place = n; old = xs; new = ys })
splice_same place n old xs new ys e f g = cc

-- an error that is passed on
pub gives_stopped : (A X : Type 0) (Means : A → X → Type 0) (read : Result (A × List ℕ) (List ℕ)) (result : Result (X × Bor (List ℕ)) Stop) (e stop : Stop) → result ≡ Err e → e ≡ stop → StopsAt {A = A} stop read → Gives {A = A} {X = X} Means result read
gives_stopped A X Means read result e stop h k s = subst (λ o. Gives {A = A} {X = X} Means o read) (sym h) (subst (λ t. StopsAt {A = A} t read) (sym k) s)

-- a number in memory with one digit more
pub saturated_more : (value v mul more d : ℕ) → value ≡ saturated v → mul ≡ min (value * 10) (2 ^ 64 - 1) → more ≡ min (mul + d) (2 ^ 64 - 1) → more ≡ saturated (10 * v + d)
saturated_more value v mul more d e f g = omega (arith, e, f, g)

-- digits go on with one more
pub digits_go : (bytes : List ℕ) (left end v : ℕ) (result : Result (ℕ × Bor (List ℕ)) Stop) → 1 ≤ length bytes → 0 < left → (get_or bytes 0 0 ≡ end → ⊥) → is_ascii_digit (get_or bytes 0 0) ≡ true
    → Gives {A = List ℕ} {X = ℕ} (λ ds n. n ≡ saturated (value_from (10 * v + (get_or bytes 0 0 - 48)) ds)) result (read_digits (left - 1) end (take (length bytes - 1) (drop 1 bytes)))
    → Gives {A = List ℕ} {X = ℕ} (λ ds n. n ≡ saturated (value_from v ds)) result (read_digits left end bytes)
digits_go [] left end v result h k other d g = absurd (omega (arith, h))
digits_go (c ∷ cs) zero end v result h k other d g = absurd (omega (arith, k))
digits_go (c ∷ cs) (suc n) end v result h k other d g =
    let same : read_digits (suc n - 1) end (take (length (c ∷ cs) - 1) (drop 1 (c ∷ cs))) ≡ read_digits n end cs =
    ap (read_digits (suc n - 1) end) (take_rest (c ∷ cs) 1) ∙ (let e : suc n - 1 ≡ n = omega arith in ap (λ m. read_digits m end cs) e)
    in
    gives_same (List ℕ) ℕ (λ ds m. m ≡ saturated (value_from v ds)) (named (λ ds. c ∷ ds) (read_digits n end cs)) (read_digits (suc n) end (c ∷ cs)) result (sym (digits_more n end c cs (ne_eqb c end other) d))
    (gives_named (List ℕ) (List ℕ) ℕ (λ ds m. m ≡ saturated (value_from (10 * v + (c - 48)) ds)) (λ ds m. m ≡ saturated (value_from v ds)) (λ ds. c ∷ ds) (read_digits n end cs) result (λ ds m e. e)
    (gives_same (List ℕ) ℕ (λ ds m. m ≡ saturated (value_from (10 * v + (c - 48)) ds)) (read_digits (suc n - 1) end (take (length (c ∷ cs) - 1) (drop 1 (c ∷ cs)))) (read_digits n end cs) result same g))

-- a number begins with its first digit
pub number_goes : (bytes : List ℕ) (more end : ℕ) (result : Result (ℕ × Bor (List ℕ)) Stop) → 1 ≤ length bytes → is_ascii_digit (get_or bytes 0 0) ≡ true → more ≡ more_digits (get_or bytes 0 0)
    → Gives {A = List ℕ} {X = ℕ} (λ ds n. n ≡ saturated (value_from (get_or bytes 0 0 - 48) ds)) result (read_digits more end (take (length bytes - 1) (drop 1 bytes)))
    → Gives {A = List ℕ} {X = ℕ} (λ ds n. n ≡ saturated (number_of ds)) result (read_number end bytes)
number_goes [] more end result h d e g = absurd (omega (arith, h))
number_goes (c ∷ cs) more end result h d e g =
    let same : read_digits more end (take (length (c ∷ cs) - 1) (drop 1 (c ∷ cs))) ≡ read_digits (more_digits c) end cs = ap (read_digits more end) (take_rest (c ∷ cs) 1) ∙ ap (λ m. read_digits m end cs) e in
    let value : c - 48 ≡ 10 * 0 + (c - 48) = omega arith in
    gives_named (ℕ × List ℕ) (List ℕ) ℕ (λ p m. m ≡ saturated (number_of (p.0 ∷ p.1))) (λ ds m. m ≡ saturated (number_of ds)) onto (and_then (read_byte is_ascii_digit (c ∷ cs)) (λ k. read_digits (more_digits k) end)) result (λ p m k. k)
    (gives_next ℕ (List ℕ) ℕ (λ ds m. m ≡ saturated (value_from (c - 48) ds)) (λ p m. m ≡ saturated (number_of (p.0 ∷ p.1))) (read_byte is_ascii_digit (c ∷ cs)) (λ k. read_digits (more_digits k) end) c cs result (byte_yes is_ascii_digit c cs d) (λ ds m k. k ∙ ap (λ n. saturated (value_from n ds)) value)
    (gives_same (List ℕ) ℕ (λ ds m. m ≡ saturated (value_from (c - 48) ds)) (read_digits more end (take (length (c ∷ cs) - 1) (drop 1 (c ∷ cs)))) (read_digits (more_digits c) end cs) result same g))

pub more_nought : (c more : ℕ) → c ≡ 48 → more ≡ 0 → more ≡ more_digits c
more_nought c more e f = f ∙ ap more_digits (sym e)

pub more_other : (c more : ℕ) → (c ≡ 48 → ⊥) → more ≡ 19 → more ≡ more_digits c
more_other c more e f = let k = ne_eqb c 48 e in rw k f

-- entries and steps have bytes
entry_long : (e : Entry) → 0 < length (spell_entry e)
entry_long e = omega (arith, length-append ((((e.place ++ 32 ∷ []) ++ (e.old_size ++ 32 ∷ [])) ++ (e.new_size ++ 10 ∷ [])) ++ e.old) (e.new ++ 10 ∷ []), length-append e.new (10 ∷ []))

entries_long : (es : List Entry) → AllGood IsEntry 1 es → 0 < length (flat_map spell_entry es)
entries_long [] g = absurd g
entries_long (e ∷ es) g = omega (arith, entry_long e, length-append (spell_entry e) (flat_map spell_entry es))

step_long : (v : Version) (s : StepText) → IsStep v s → 0 < length (spell_step v s)
step_long One s g = entries_long s.entries g.entries
step_long Two s g = omega (arith, length-append (s.count ++ 10 ∷ []) (flat_map spell_entry s.entries), length-append s.count (10 ∷ []))

pub entry_consumes : (b : List ℕ) (e : Entry) (l : List ℕ) → read_entry b ≡ Ok (e, l) → length l < length b
entry_consumes b e l h = omega (arith, entry_long e, ap length (reads_entry.found b e l h).1, length-append (spell_entry e) l)

pub step_consumes : (v : Version) (b : List ℕ) (s : StepText) (l : List ℕ) → read_step v b ≡ Ok (s, l) → length l < length b
step_consumes v b s l h = let p = (reads_step v).found b s l h in omega (arith, step_long v s p.0, ap length p.1, length-append (spell_step v s) l)

-- a count in memory
pub count_same : (A : Type 0) (r : List ℕ → Result (A × List ℕ) (List ℕ)) → ((b : List ℕ) (a : A) (l : List ℕ) → r b ≡ Ok (a, l) → length l < length b) → (count n : ℕ) (b : List ℕ) → count ≡ saturated n → length b < 2 ^ 64 - 1 → read_times count r b ≡ read_times n r b
count_same A r consumes count n b e h = ap (λ k. read_times k r b) e ∙ times_same A r consumes n b h

-- a whole array
pub ids_same : (xs ys : List ℕ) (n : ℕ) → length xs ≤ n → map (λ x. x) (take n xs) ≡ map (λ x. x) ys → xs ≡ ys
ids_same xs ys n h e = sym (take_all n xs h) ∙ (sym (same_map (take n xs)) ∙ (e ∙ same_map ys))
  where
    same_map : (zs : List ℕ) → map (λ x. x) zs ≡ zs
    same_map [] = refl
    same_map (z ∷ zs) = ap (λ k. z ∷ k) (same_map zs)
