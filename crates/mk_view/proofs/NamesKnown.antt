-- What is known of the names that were given, when one more is given.
use Rattle.std.proofs.Common.{◌≡◌, ◌≤◌, ◌<◌, ◌+◌, ◌||◌, ℕ, Bool, true, false, if◌then◌else◌, Option, None, Some, List, ◌∷◌, refl, sym, ap, subst, ◌∙◌, is_some, inl, inr, arith}
use Rattle.std.specs.Cmp.Lexicographic.{bytes_decides, nat_list_eq_equiv}
use Rattle.std.specs.Str.{bytes_eq}
use Rattle.std.proofs.lemmas.Bool.{cases_Bool, cases_lt, cond-true, cond-false}
use Rattle.mk_view.specs.inner.Taken.{Knows}
use Rattle.mk_view.specs.GivenNames.{is_taken, numbered, IsLeastFree, IsGivenBy, IsGiven}

or_more : (a b : Bool) → b ≡ true → (a || b) ≡ true
or_more true b h = refl
or_more false b h = h

-- after a number is kept for a name, where the other names are those that were there
record Keeps (f g : List ℕ → Option ℕ) (names more : List (List ℕ)) (name : List ℕ) (number : ℕ) : Type 0 where
  kept : (other : List ℕ) → g other ≡ (if bytes_eq name other then Some number else f other)
  here : is_taken more name ≡ true
  others : (other : List ℕ) → bytes_eq name other ≡ false → is_taken more other ≡ is_taken names other
  wider : (other : List ℕ) → is_taken names other ≡ true → is_taken more other ≡ true
  one : 1 ≤ number
  tried : (n : ℕ) → 1 ≤ n → n < number → is_taken more (numbered name n) ≡ true

module _ (f g : List ℕ → Option ℕ) (names more : List (List ℕ)) (name : List ℕ) (number : ℕ) (k : Knows f names) (h : Keeps f g names more name number) where
  at_name : (other : List ℕ) → bytes_eq name other ≡ true → g other ≡ Some number
  at_name other y = h.kept other ∙ cond-true (bytes_eq name other) (Some number) (f other) y

  at_others : (other : List ℕ) → bytes_eq name other ≡ false → g other ≡ f other
  at_others other n = h.kept other ∙ cond-false (bytes_eq name other) (Some number) (f other) n

  same_number : (other : List ℕ) (first : ℕ) → bytes_eq name other ≡ true → g other ≡ Some first → number ≡ first
  same_number other first y e = let same : ◌≡◌ {A = Option ℕ} (Some number) (Some first) = sym (at_name other y) ∙ e in cc

  knows : Knows g more
  knows = record {
    known = λ other. elim (cases_Bool (bytes_eq name other)) [
      | inl y ↦ ap is_some (at_name other y) ∙ sym (subst (λ q. is_taken more q ≡ true) ((bytes_decides name other).0 y) h.here)
      | inr n ↦ ap is_some (at_others other n) ∙ (k.known other ∙ sym (h.others other n))
    ];
    from_one = λ other first e. elim (cases_Bool (bytes_eq name other)) [
      | inl y ↦ let same = same_number other first y e in let one = h.one in omega arith
      | inr n ↦ k.from_one other first (sym (at_others other n) ∙ e)
    ];
    tried = λ other first e n low high. elim (cases_Bool (bytes_eq name other)) [
      | inl y ↦
          let same = same_number other first y e in
          let less : n < number = omega arith in
          subst (λ q. is_taken more (numbered q n) ≡ true) ((bytes_decides name other).0 y) (h.tried n low less)
      | inr u ↦ h.wider (numbered other n) (k.tried other first (sym (at_others other u) ∙ e) n low high)
    ];
  }

-- a name is kept that is given for the first time
one_more : (f g : List ℕ → Option ℕ) (names : List (List ℕ)) (name : List ℕ) → Knows f names → ((other : List ℕ) → g other ≡ (if bytes_eq name other then Some 1 else f other)) → Knows g (name ∷ names)
one_more f g names name k kept =
    knows f g names (name ∷ names) name 1 k (record {
      kept = kept;
      here = ap (λ b. b || is_taken names name) (nat_list_eq_equiv.refl name);
      others = λ other n. ap (λ b. b || is_taken names other) (nat_list_eq_equiv.symm other name ∙ n);
      wider = λ other t. or_more (bytes_eq other name) (is_taken names other) t;
      one = omega arith;
      tried = λ n low high. absurd (omega arith);
    })

-- a name that no earlier section has
pub given_own : (f g : List ℕ → Option ℕ) (own given : List ℕ) → f own ≡ None → given ≡ own → ((other : List ℕ) → g other ≡ (if bytes_eq own other then Some 1 else f other))
    → (names : List (List ℕ)) → Knows f names → IsGiven names own given × Knows g (given ∷ names)
given_own f g own given none same kept names k =
    let free : is_taken names own ≡ false = sym (k.known own) ∙ ap is_some none in (
      subst (λ b. IsGivenBy b names own given) (sym free) same,
      subst (λ q. Knows g (q ∷ names)) (sym same) (one_more f g names own k kept),
    )

-- a number that makes a new name, where all from one on that was known to be the first have made names that were given
least_free : (f : List ℕ → Option ℕ) (own : List ℕ) (first number : ℕ) → f own ≡ Some first → f (numbered own number) ≡ None → first ≤ number
    → ((n : ℕ) → first ≤ n → n < number → is_some (f (numbered own n)) ≡ true) → (names : List (List ℕ)) → Knows f names → IsLeastFree names own number
least_free f own first number had free above tried names k =
    let one = k.from_one own first had in
    record {
      from_one = omega arith;
      free = sym (k.known (numbered own number)) ∙ ap is_some free;
      least = λ n low high. elim (cases_lt n first) [
        | inl l ↦ k.tried own first had n low l
        | inr g ↦ sym (k.known (numbered own n)) ∙ tried n g high
      ];
    }

-- the name that is made is kept, and after it the number from which on the next is looked for
two_more : (f e g : List ℕ → Option ℕ) (own given : List ℕ) (number : ℕ) (names : List (List ℕ)) → Knows f names → is_taken names own ≡ true → IsLeastFree names own number → given ≡ numbered own number
    → ((other : List ℕ) → e other ≡ (if bytes_eq given other then Some 1 else f other)) → ((other : List ℕ) → g other ≡ (if bytes_eq own other then Some (number + 1) else e other)) → Knows g (given ∷ names)
two_more f e g own given number names k t l same first second =
    let more : is_taken (given ∷ names) own ≡ true = or_more (bytes_eq own given) (is_taken names own) t in
    knows e g (given ∷ names) (given ∷ names) own (number + 1) (one_more f e names given k first) (record {
      kept = second;
      here = more;
      others = λ other n. refl;
      wider = λ other u. u;
      one = omega arith;
      tried = λ n low high. elim (cases_lt n number) [
        | inl less ↦ or_more (bytes_eq (numbered own n) given) (is_taken names (numbered own n)) (l.least n low less)
        | inr above ↦
            let at : n ≡ number = omega arith in
            let made : numbered own n ≡ given = ap (numbered own) at ∙ sym same in
            ap (λ b. b || is_taken names (numbered own n)) (subst (λ q. bytes_eq (numbered own n) q ≡ true) made (nat_list_eq_equiv.refl (numbered own n)))
      ];
    })

-- a name that an earlier section has
pub given_numbered : (f e g : List ℕ → Option ℕ) (own given : List ℕ) (first number : ℕ) → f own ≡ Some first → given ≡ numbered own number → f (numbered own number) ≡ None → first ≤ number
    → ((n : ℕ) → first ≤ n → n < number → is_some (f (numbered own n)) ≡ true)
    → ((other : List ℕ) → e other ≡ (if bytes_eq given other then Some 1 else f other)) → ((other : List ℕ) → g other ≡ (if bytes_eq own other then Some (number + 1) else e other))
    → (names : List (List ℕ)) → Knows f names → IsGiven names own given × Knows g (given ∷ names)
given_numbered f e g own given first number had same free above tried put again names k =
    let t : is_taken names own ≡ true = sym (k.known own) ∙ ap is_some had in
    let l = least_free f own first number had free above tried names k in (
      subst (λ b. IsGivenBy b names own given) (sym t) (number, l, same),
      two_more f e g own given number names k t l same put again,
    )
