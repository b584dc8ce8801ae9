-- How many bytes letters of base64 are the encoding of.
use Rattle.std.proofs.Common.{◌≡◌, ◌≢◌, ◌==◌, ◌&&◌, ◌||◌, ◌<◌, ◌≤◌, ◌+◌, ◌-◌, ◌*◌, ◌/◌, ◌%◌, ℕ, suc, zero, Bool, true, false, not, nat_le, nat_lt, List, [], ◌∷◌, ◌++◌, refl, ap, sym, ◌∙◌, subst, length, filter, take_while, count_by, slice_index, arith, inl, inr}
use Rattle.std.proofs.lemmas.Bool.{agree_below_at, and_parts, cases_Bool, eqb-true, ltb-true, or_cases, leb-true}
use Rattle.std.proofs.lemmas.List.{append-nil}
use Rattle.std.proofs.lemmas.List.Sums.{length-filter}
use Rattle.std.specs.List.{list_all}
use Rattle.base64.specs.Engines.{standard, standard_no_pad}
use Rattle.base64.specs.GeneralPurpose.{IsBytes, encode_of}
use Rattle.base64.specs.Rfc4648.{encode_symbols}
use Rattle.mk_line.specs.Ascii.{equals_sign}
use Rattle.mk_code.specs.Base64Text.{IsBase64Of, is_letter}
use Rattle.mk_code.specs.inner.Sizes.{is_well_ended, letter_value}

abbrev symbol : ℕ → ℕ
symbol value = slice_index standard.encode_table value

abbrev symbols : List ℕ → List ℕ
symbols bytes = encode_symbols standard.encode_table bytes

-- a letter is a byte
abbrev is_upper : ℕ → Bool
is_upper x = nat_le 65 x && nat_le x 90

abbrev is_lower : ℕ → Bool
is_lower x = nat_le 97 x && nat_le x 122

abbrev is_digit : ℕ → Bool
is_digit x = nat_le 48 x && nat_le x 57

letter_low : (x : ℕ) → is_letter x ≡ true → x < 256
letter_low x h =
    elim (or_cases (((is_upper x || is_lower x) || is_digit x) || x == 43) (x == 47) h) [
      | inl b ↦ elim (or_cases ((is_upper x || is_lower x) || is_digit x) (x == 43) b) [
        | inl c ↦ elim (or_cases (is_upper x || is_lower x) (is_digit x) c) [
          | inl d ↦ elim (or_cases (is_upper x) (is_lower x) d) [
            | inl a ↦ let most : x ≤ 90 = leb-true x 90 (and_parts (nat_le 65 x) (nat_le x 90) a).1 in omega arith
            | inr a ↦ let most : x ≤ 122 = leb-true x 122 (and_parts (nat_le 97 x) (nat_le x 122) a).1 in omega arith
          ]
          | inr a ↦ let most : x ≤ 57 = leb-true x 57 (and_parts (nat_le 48 x) (nat_le x 57) a).1 in omega arith
        ]
        | inr a ↦ let same : x ≡ 43 = eqb-true x 43 a in omega arith
      ]
      | inr a ↦ let same : x ≡ 47 = eqb-true x 47 a in omega arith
    ]

-- a letter stands for six bits
abbrev is_known : ℕ → Bool
is_known x = not (is_letter x) || (nat_lt (letter_value x) 64 && (symbol (letter_value x) == x))

letter_known : (x : ℕ) → is_letter x ≡ true → (letter_value x < 64) × (symbol (letter_value x) ≡ x)
letter_known x h =
    let t : is_known x ≡ true = agree_below_at is_known (λ _. true) 256 x refl (letter_low x h) in
    let both : (nat_lt (letter_value x) 64 && (symbol (letter_value x) == x)) ≡ true = (rw h at t) in
    let p = and_parts (nat_lt (letter_value x) 64) (symbol (letter_value x) == x) both in
    (ltb-true (letter_value x) 64 p.0, eqb-true (symbol (letter_value x)) x p.1)

-- the last of some letters
abbrev pub last_of : List ℕ → ℕ
last_of [] = 0
last_of (x ∷ []) = x
last_of (x ∷ y ∷ ys) = last_of (y ∷ ys)

pub last_after : (before : List ℕ) (x : ℕ) → last_of (before ++ x ∷ []) ≡ x
last_after [] x = refl
last_after (a ∷ []) x = refl
last_after (a ∷ b ∷ before) x = last_after (b ∷ before) x

last_beyond : (a b c d e : ℕ) (rest : List ℕ) → last_of (a ∷ b ∷ c ∷ d ∷ e ∷ rest) ≡ last_of (e ∷ rest)
last_beyond a b c d e rest = refl

-- letters are the encoding of bytes, of which there are three for each whole group, and one less than the letters that are left
record HasBytes (found : List ℕ) : Type 0 where
  pub bytes : List ℕ
  pub are_bytes : IsBytes bytes
  pub encoded : found ≡ symbols bytes
  pub size : length bytes ≡ length found / 4 * 3 + (length found % 4 - 1)

one_byte : (x : ℕ) → x < 256 → IsBytes (x ∷ [])
one_byte x l zero = l
one_byte x l (suc i) = omega arith

byte_before : (x : ℕ) (xs : List ℕ) → x < 256 → IsBytes xs → IsBytes (x ∷ xs)
byte_before x xs l h zero = l
byte_before x xs l h (suc i) = h i

no_bytes : IsBytes []
no_bytes i = omega arith

four_letters : (a b c d : ℕ) (rest : List ℕ) → is_letter a ≡ true → is_letter b ≡ true → is_letter c ≡ true → is_letter d ≡ true → HasBytes rest → HasBytes (a ∷ b ∷ c ∷ d ∷ rest)
unfolding encode_symbols
four_letters a b c d rest ha hb hc hd h =
    let ka = letter_known a ha in
    let kb = letter_known b hb in
    let kc = letter_known c hc in
    let kd = letter_known d hd in
    let va = letter_value a in
    let vb = letter_value b in
    let vc = letter_value c in
    let vd = letter_value d in
    let x : ℕ = va * 4 + vb / 16 in
    let y : ℕ = vb % 16 * 16 + vc / 4 in
    let z : ℕ = vc % 4 * 64 + vd in
    let e0 : x / 4 ≡ va = omega (arith, ka.0, kb.0) in
    let e1 : x % 4 * 16 + y / 16 ≡ vb = omega (arith, ka.0, kb.0, kc.0) in
    let e2 : y % 16 * 4 + z / 64 ≡ vc = omega (arith, kb.0, kc.0, kd.0) in
    let e3 : z % 64 ≡ vd = omega (arith, kc.0, kd.0) in
    record {
      bytes = x ∷ y ∷ z ∷ h.bytes;
      are_bytes = byte_before x (y ∷ z ∷ h.bytes) (omega (arith, ka.0, kb.0)) (byte_before y (z ∷ h.bytes) (omega (arith, kb.0, kc.0)) (byte_before z h.bytes (omega (arith, kc.0, kd.0)) h.are_bytes));
      encoded = rw (e0, e1, e2, e3, ka.1, kb.1, kc.1, kd.1) (ap (λ xs. a ∷ b ∷ c ∷ d ∷ xs) h.encoded);
      size = omega (arith, h.size);
    }

two_letters : (a b : ℕ) → is_letter a ≡ true → is_letter b ≡ true → (letter_value b % 16 == 0) ≡ true → HasBytes (a ∷ b ∷ [])
unfolding encode_symbols
two_letters a b ha hb t =
    let ka = letter_known a ha in
    let kb = letter_known b hb in
    let va = letter_value a in
    let vb = letter_value b in
    let none : vb % 16 ≡ 0 = eqb-true (vb % 16) 0 t in
    let x : ℕ = va * 4 + vb / 16 in
    let e0 : x / 4 ≡ va = omega (arith, ka.0, kb.0) in
    let e1 : x % 4 * 16 ≡ vb = omega (arith, ka.0, kb.0, none) in
    record {
      bytes = x ∷ [];
      are_bytes = one_byte x (omega (arith, ka.0, kb.0));
      encoded = rw (e0, e1, ka.1, kb.1) refl;
      size = refl;
    }

three_letters : (a b c : ℕ) → is_letter a ≡ true → is_letter b ≡ true → is_letter c ≡ true → (letter_value c % 4 == 0) ≡ true → HasBytes (a ∷ b ∷ c ∷ [])
unfolding encode_symbols
three_letters a b c ha hb hc t =
    let ka = letter_known a ha in
    let kb = letter_known b hb in
    let kc = letter_known c hc in
    let va = letter_value a in
    let vb = letter_value b in
    let vc = letter_value c in
    let none : vc % 4 ≡ 0 = eqb-true (vc % 4) 0 t in
    let x : ℕ = va * 4 + vb / 16 in
    let y : ℕ = vb % 16 * 16 + vc / 4 in
    let e0 : x / 4 ≡ va = omega (arith, ka.0, kb.0) in
    let e1 : x % 4 * 16 + y / 16 ≡ vb = omega (arith, ka.0, kb.0, kc.0) in
    let e2 : y % 16 * 4 ≡ vc = omega (arith, kb.0, kc.0, none) in
    record {
      bytes = x ∷ y ∷ [];
      are_bytes = byte_before x (y ∷ []) (omega (arith, ka.0, kb.0)) (one_byte y (omega (arith, kb.0, kc.0)));
      encoded = rw (e0, e1, e2, ka.1, kb.1, kc.1) refl;
      size = refl;
    }

ended_same : (n m : ℕ) (x : ℕ) → n ≡ m → is_well_ended n x ≡ true → is_well_ended m x ≡ true
ended_same n m x e h = subst (λ k. is_well_ended k x ≡ true) e h

-- letters that end well
has_bytes : (found : List ℕ) → list_all is_letter found ≡ true → is_well_ended (length found % 4) (last_of found) ≡ true → HasBytes found
unfolding encode_symbols
has_bytes [] h w = record { bytes = []; are_bytes = no_bytes; encoded = refl; size = refl }
has_bytes (a ∷ []) h w = absurd (cc w)
has_bytes (a ∷ b ∷ []) h w =
    let p = and_parts (is_letter a) _ h in
    let q = and_parts (is_letter b) _ p.1 in
    two_letters a b p.0 q.0 w
has_bytes (a ∷ b ∷ c ∷ []) h w =
    let p = and_parts (is_letter a) _ h in
    let q = and_parts (is_letter b) _ p.1 in
    let r = and_parts (is_letter c) _ q.1 in
    three_letters a b c p.0 q.0 r.0 w
has_bytes (a ∷ b ∷ c ∷ d ∷ []) h w =
    let p = and_parts (is_letter a) _ h in
    let q = and_parts (is_letter b) _ p.1 in
    let r = and_parts (is_letter c) _ q.1 in
    let s = and_parts (is_letter d) _ r.1 in
    four_letters a b c d [] p.0 q.0 r.0 s.0 (has_bytes [] refl refl)
has_bytes (a ∷ b ∷ c ∷ d ∷ e ∷ rest) h w =
    let p = and_parts (is_letter a) _ h in
    let q = and_parts (is_letter b) _ p.1 in
    let r = and_parts (is_letter c) _ q.1 in
    let s = and_parts (is_letter d) _ r.1 in
    let same : length (a ∷ b ∷ c ∷ d ∷ e ∷ rest) % 4 ≡ length (e ∷ rest) % 4 = omega arith in
    four_letters a b c d (e ∷ rest) p.0 q.0 r.0 s.0 (has_bytes (e ∷ rest) s.1 (ended_same _ _ (last_of (e ∷ rest)) same w))

-- what the encoding of bytes ends with
first_ends : (x : ℕ) → x < 4 → (letter_value (symbol (x * 16)) % 16 == 0) ≡ true
first_ends x l = agree_below_at (λ k. letter_value (symbol (k * 16)) % 16 == 0) (λ _. true) 4 x refl l

second_ends : (x : ℕ) → x < 16 → (letter_value (symbol (x * 4)) % 4 == 0) ≡ true
second_ends x l = agree_below_at (λ k. letter_value (symbol (k * 4)) % 4 == 0) (λ _. true) 16 x refl l

four_more : (a b c d : ℕ) (rest : List ℕ) → rest ≢ [] → is_well_ended (length rest % 4) (last_of rest) ≡ true → is_well_ended (length (a ∷ b ∷ c ∷ d ∷ rest) % 4) (last_of (a ∷ b ∷ c ∷ d ∷ rest)) ≡ true
four_more a b c d [] some w = absurd (some refl)
four_more a b c d (e ∷ rest) some w =
    let same : length (e ∷ rest) % 4 ≡ length (a ∷ b ∷ c ∷ d ∷ e ∷ rest) % 4 = omega arith in
    ended_same _ _ (last_of (e ∷ rest)) same w

some_symbols : (x : ℕ) (xs : List ℕ) → symbols (x ∷ xs) ≢ []
unfolding encode_symbols
some_symbols x [] e = cc e
some_symbols x (y ∷ []) e = cc e
some_symbols x (y ∷ z ∷ xs) e = cc e

ends_well : (bytes : List ℕ) → is_well_ended (length (symbols bytes) % 4) (last_of (symbols bytes)) ≡ true
unfolding encode_symbols
ends_well [] = refl
ends_well (a ∷ []) = first_ends (a % 4) (omega arith)
ends_well (a ∷ b ∷ []) = second_ends (b % 16) (omega arith)
ends_well (a ∷ b ∷ c ∷ []) = refl
ends_well (a ∷ b ∷ c ∷ d ∷ rest) =
    four_more (symbol (a / 4)) (symbol (a % 4 * 16 + b / 16)) (symbol (b % 16 * 4 + c / 64)) (symbol (c % 64)) (symbols (d ∷ rest)) (some_symbols d rest) (ends_well (d ∷ rest))

all_letters : (xs : List ℕ) → list_all is_letter (filter is_letter xs) ≡ true
all_letters [] = refl
all_letters (x ∷ xs) = elim (cases_Bool (is_letter x)) [
  | inl t ↦ rw (t, t) (all_letters xs)
  | inr f ↦ rw f (all_letters xs)
]

plain : (bytes : List ℕ) → encode_of standard_no_pad bytes ≡ symbols bytes
plain bytes = append-nil (symbols bytes)

-- the bytes of letters, and how many there are
abbrev pub HasSize : List ℕ → ℕ → Type 0
HasSize text size = (bytes : List ℕ) × IsBase64Of text bytes × (size ≡ length bytes)

abbrev before_sign : List ℕ → List ℕ
before_sign text = take_while (λ byte. not (byte == equals_sign)) text

pub none_found : (text front : List ℕ) → front ≡ before_sign text → filter is_letter front ≡ [] → HasSize text 0
unfolding encode_symbols
none_found text front e none = ([], (no_bytes, ap (filter is_letter) (sym e) ∙ (none ∙ sym (plain []))), refl)

pub size_found : (text front before : List ℕ) (last count loose size : ℕ) → front ≡ before_sign text → filter is_letter front ≡ before ++ last ∷ [] → count ≡ count_by is_letter front → loose ≡ count % 4
    → size ≡ count / 4 * 3 + (loose - 1) → is_well_ended loose last ≡ true → HasSize text size
size_found text front before last count loose size e parts counted l s w =
    let found = filter is_letter front in
    let long : length found ≡ count = length-filter is_letter front ∙ sym counted in
    let end : last ≡ last_of found = sym (last_after before last) ∙ ap last_of (sym parts) in
    let rem : loose ≡ length found % 4 = l ∙ ap (λ k. k % 4) (sym long) in
    let h = has_bytes found (all_letters front) (subst (λ k. is_well_ended (length found % 4) k ≡ true) end (ended_same loose (length found % 4) last rem w)) in
    (h.bytes, (h.are_bytes, ap (filter is_letter) (sym e) ∙ (h.encoded ∙ sym (plain h.bytes))), omega (arith, h.size, long, l, s))

pub none_encoded : (text front before : List ℕ) (last count loose : ℕ) → front ≡ before_sign text → filter is_letter front ≡ before ++ last ∷ [] → count ≡ count_by is_letter front → loose ≡ count % 4
    → is_well_ended loose last ≡ false → (bytes : List ℕ) → ¬ IsBase64Of text bytes
none_encoded text front before last count loose e parts counted l w bytes h =
    let found = filter is_letter front in
    let same : found ≡ symbols bytes = ap (filter is_letter) e ∙ (h.1 ∙ plain bytes) in
    let long : length found ≡ count = length-filter is_letter front ∙ sym counted in
    let end : last_of found ≡ last = ap last_of parts ∙ last_after before last in
    let rem : length found % 4 ≡ loose = ap (λ k. k % 4) long ∙ sym l in
    let there : is_well_ended (length found % 4) (last_of found) ≡ true = subst (λ xs. is_well_ended (length xs % 4) (last_of xs) ≡ true) (sym same) (ends_well bytes) in
    let held : is_well_ended loose last ≡ true = subst (λ k. is_well_ended loose k ≡ true) end (ended_same (length found % 4) loose (last_of found) rem there) in
    cc (held, w)
