-- Bytes of a parameter are bytes of the value; a boundary is trimmed.
use Rattle.mk_head.specs.Types.{boundary_of}
use Rattle.std.proofs.Common.{◌≡◌, ◌==◌, ◌&&◌, ℕ, Bool, true, false, Option, None, Some, List, [], ◌∷◌, refl, ap, sym, inl, inr, subst, codes}
use Rattle.std.proofs.lemmas.Bool.{cases_Bool}
use Rattle.std.specs.List.{list_all, onto_first}
use Rattle.std.specs.Str.{bytes_eq}
use Rattle.mk_line.specs.Ascii.{is_blank, semicolon, quote, backslash, equals_sign, slash}
use Rattle.mk_line.specs.Marks.{trimmed, trimmed_before}
use Rattle.mk_line.specs.Parting.{before, following}
use Rattle.mk_head.specs.Values.{Scan, Plain, scan, is_kept, is_plain, uncommented, pieces, unled, stripped, unquoted, parameter_value, parameter_before, parameters, typed_as, type_of_pieces, content_type_of, param_of, is_token, MediaType}
use Rattle.std.specs.Prelude.{unwrap_or}

-- all bytes pass a test
abbrev Passes : (ℕ → Bool) → List ℕ → Type 0
Passes t xs = list_all t xs ≡ true

abbrev AllPass : (ℕ → Bool) → List (List ℕ) → Type 0
AllPass t [] = Unit {0}
AllPass t (x ∷ xs) = Passes t x × AllPass t xs

both : (a b : Bool) → (a && b) ≡ true → (a ≡ true) × (b ≡ true)
both true b h = (refl, h)
both false b h = cc

and_true : (a b : Bool) → a ≡ true → b ≡ true → (a && b) ≡ true
and_true a b h k = rw (h, k) refl

uncommented_all : (t : ℕ → Bool) (s : Scan) (xs : List ℕ) → Passes t xs → Passes t (uncommented s xs)
uncommented_all t s [] h = refl
uncommented_all t s (x ∷ xs) h =
    let p = both (t x) (list_all t xs) h in
    elim (cases_Bool (is_kept s x)) [
      | inl k ↦ rw k (and_true (t x) (list_all t (uncommented (scan s x) xs)) p.0 (uncommented_all t (scan s x) xs p.1))
      | inr k ↦ rw k (uncommented_all t (scan s x) xs p.1)
    ]

push_all : (t : ℕ → Bool) (x : ℕ) (ps : List (List ℕ)) → t x ≡ true → AllPass t ps → AllPass t (onto_first x ps)
push_all t x [] h k = (and_true (t x) true h refl, tt)
push_all t x (p ∷ ps) h k = (and_true (t x) (list_all t p) h k.0, k.1)

pieces_all : (t : ℕ → Bool) (s : Scan) (xs : List ℕ) → Passes t xs → AllPass t (pieces s xs)
pieces_all t s [] h = (refl, tt)
pieces_all t s (x ∷ xs) h =
    let p = both (t x) (list_all t xs) h in
    elim (cases_Bool (is_plain s && x == semicolon)) [
      | inl k ↦ rw k (refl, pieces_all t s xs p.1)
      | inr k ↦ rw k (push_all t x (pieces (scan s x) xs) p.0 (pieces_all t (scan s x) xs p.1))
    ]

some_same : (a b : List ℕ) → ◌≡◌ {A = Option (List ℕ)} (Some a) (Some b) → a ≡ b
some_same a b e = cc

none_some : (a : List ℕ) → ◌≡◌ {A = Option (List ℕ)} None (Some a) → ⊥
none_some a e = cc

after_all : (t : ℕ → Bool) (mark : ℕ) (xs ys : List ℕ) → Passes t xs → following mark xs ≡ Some ys → Passes t ys
after_all t mark [] ys h e = absurd (none_some ys e)
after_all t mark (x ∷ xs) ys h e =
    let p = both (t x) (list_all t xs) h in
    elim (cases_Bool (x == mark)) [
      | inl k ↦ subst (Passes t) (some_same xs ys (rw k at e)) p.1
      | inr k ↦ after_all t mark xs ys p.1 (rw k at e)
    ]

unled_all : (t : ℕ → Bool) (xs : List ℕ) → Passes t xs → Passes t (unled xs)
unled_all t [] h = refl
unled_all t (x ∷ xs) h =
    elim (cases_Bool (is_blank x)) [
      | inl k ↦ rw k (unled_all t xs (both (t x) (list_all t xs) h).1)
      | inr k ↦ rw k h
    ]

before_all : (t : ℕ → Bool) (x : ℕ) (ys : List ℕ) → t x ≡ true → Passes t ys → Passes t (trimmed_before x ys)
before_all t x [] h k =
    elim (cases_Bool (is_blank x)) [
      | inl b ↦ rw b refl
      | inr b ↦ rw b (and_true (t x) true h refl)
    ]
before_all t x (y ∷ ys) h k = and_true (t x) (list_all t (y ∷ ys)) h k

trimmed_all : (t : ℕ → Bool) (xs : List ℕ) → Passes t xs → Passes t (trimmed xs)
trimmed_all t [] h = refl
trimmed_all t (x ∷ xs) h = let p = both (t x) (list_all t xs) h in before_all t x (trimmed xs) p.0 (trimmed_all t xs p.1)

unquoted_all : (t : ℕ → Bool) (escaped : Bool) (xs : List ℕ) → Passes t xs → Passes t (unquoted escaped xs)
unquoted_all t true [] h = refl
unquoted_all t false [] h = refl
unquoted_all t true (x ∷ xs) h = let p = both (t x) (list_all t xs) h in and_true (t x) (list_all t (unquoted false xs)) p.0 (unquoted_all t false xs p.1)
unquoted_all t false (x ∷ xs) h =
    let p = both (t x) (list_all t xs) h in
    elim (cases_Bool (x == quote)) [
      | inl k ↦ rw k refl
      | inr k ↦
          elim (cases_Bool (x == backslash)) [
            | inl b ↦ rw (k, b) (unquoted_all t true xs p.1)
            | inr b ↦ rw (k, b) (and_true (t x) (list_all t (unquoted false xs)) p.0 (unquoted_all t false xs p.1))
          ]
    ]

value_all : (t : ℕ → Bool) (xs : List ℕ) → Passes t xs → Passes t (parameter_value xs)
value_all t [] h = refl
value_all t (x ∷ xs) h =
    elim (cases_Bool (x == quote)) [
      | inl k ↦ rw k (unquoted_all t false xs (both (t x) (list_all t xs) h).1)
      | inr k ↦ rw k h
    ]

-- the values of parameters
abbrev ValuesPass : (ℕ → Bool) → List (List ℕ × List ℕ) → Type 0
ValuesPass t [] = Unit {0}
ValuesPass t (p ∷ ps) = Passes t p.1 × ValuesPass t ps

parameter_all : (t : ℕ → Bool) (name piece : List ℕ) (o : Option (List ℕ)) (ps : List (List ℕ × List ℕ)) → following equals_sign piece ≡ o → Passes t piece → ValuesPass t ps → ValuesPass t (parameter_before name o ps)
parameter_all t name piece None ps e h k = k
parameter_all t name piece (Some value) ps e h k = (value_all t (stripped value) (trimmed_all t (unled value) (unled_all t value (after_all t equals_sign piece value h e))), k)

parameters_all : (t : ℕ → Bool) (ps : List (List ℕ)) → AllPass t ps → ValuesPass t (parameters ps)
parameters_all t [] h = tt
parameters_all t (p ∷ ps) h = parameter_all t (before equals_sign p) p (following equals_sign p) (parameters ps) refl h.0 (parameters_all t ps h.1)

typed_params : (main : List ℕ) (o : Option (List ℕ)) (ps : List (List ℕ × List ℕ)) → (typed_as main o ps).params ≡ ps
typed_params main None ps = refl
typed_params main (Some sub) ps =
    elim (cases_Bool (is_token main && is_token sub)) [
      | inl k ↦ rw k refl
      | inr k ↦ rw k refl
    ]

type_all : (t : ℕ → Bool) (ps : List (List ℕ)) → AllPass t ps → ValuesPass t (type_of_pieces ps).params
type_all t [] h = tt
type_all t (p ∷ ps) h = subst (ValuesPass t) (sym (typed_params (before slash (stripped p)) (following slash (stripped p)) (parameters ps))) (parameters_all t ps h.1)

param_all : (t : ℕ → Bool) (name bytes : List ℕ) (ps : List (List ℕ × List ℕ)) → ValuesPass t ps → param_of name ps ≡ Some bytes → Passes t bytes
param_all t name bytes [] h e = absurd (none_some bytes e)
param_all t name bytes (p ∷ ps) h e =
    elim (cases_Bool (bytes_eq p.0 name)) [
      | inl k ↦ subst (Passes t) (some_same p.1 bytes (rw k at e)) h.0
      | inr k ↦ param_all t name bytes ps h.1 (rw k at e)
    ]

pub parameters_bytes : (test : ℕ → Bool) (value name bytes : List ℕ) → list_all test value ≡ true → param_of name (content_type_of value).params ≡ Some bytes → list_all test bytes ≡ true
parameters_bytes test value name bytes h e =
    param_all test name bytes (content_type_of value).params (type_all test (pieces Plain (uncommented Plain value)) (pieces_all test Plain (uncommented Plain value) (uncommented_all test Plain value h))) e

-- trimming twice
before_twice : (x : ℕ) (ys : List ℕ) → trimmed ys ≡ ys → trimmed (trimmed_before x ys) ≡ trimmed_before x ys
before_twice x [] h =
    elim (cases_Bool (is_blank x)) [
      | inl b ↦ rw b refl
      | inr b ↦ rw b (rw b refl)
    ]
before_twice x (y ∷ ys) h = ap (trimmed_before x) h

pub trimmed_twice : (xs : List ℕ) → trimmed (trimmed xs) ≡ trimmed xs
trimmed_twice [] = refl
trimmed_twice (x ∷ xs) = before_twice x (trimmed xs) (trimmed_twice xs)

boundary_twice : (o : Option (List ℕ)) → trimmed (trimmed (unwrap_or o [])) ≡ trimmed (unwrap_or o [])
boundary_twice None = refl
boundary_twice (Some b) = trimmed_twice b

pub boundaries_trimmed : (t : MediaType) → trimmed (boundary_of t) ≡ boundary_of t
boundaries_trimmed t = boundary_twice (param_of (codes "boundary") t.params)
