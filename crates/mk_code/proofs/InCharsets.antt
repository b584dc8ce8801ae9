-- Texts in charsets, in UTF-8.
use Rattle.std.proofs.Common.{◌≡◌, ◌==◌, ◌<◌, ◌+◌, ◌-◌, ◌++◌, ◌/◌, ◌%◌, if◌then◌else◌, ℕ, zero, suc, Bool, true, false, Option, None, Some, List, [], ◌∷◌, refl, subst, inl, inr, arith, find, codes}
use Rattle.std.specs.Prelude.{nat_lt, option_and_then, slice_get, slice_index, unwrap_or}
use Rattle.std.specs.Char.{encode_utf8}
use Rattle.std.specs.List.{flat_map, list_all, list_any}
use Rattle.std.specs.Option.{option_map}
use Rattle.std.specs.Str.{IsUtf8, bytes_eq, encode_utf8_all}
use Rattle.std.proofs.lemmas.Bool.{cases_Bool, and_parts, ltb-true}
use Rattle.std.proofs.lemmas.Str.{IsUtf8-nil, IsUtf8-append, IsUtf8-encode, IsUtf8-from_ascii}
use Rattle.base64.specs.GeneralPurpose.{IsBytes}
use lib.Utf8.{scalar, scalars, low_scalar, scalar_cases}
use Rattle.mk_line.specs.declared.cutting.Ending.{Ending}
use Rattle.mk_code.specs.Charsets.{character_in, iso_tables, other_tables, text_in_table, upper_of}
use Rattle.mk_code.specs.EncodedWords.{in_utf8, utf8_labels, words_decoded, words_encoded}
use Rattle.mk_code.proofs.Base64Blocks.{both_bytes}
use Rattle.mk_code.proofs.WordsBack.{words_back}

-- each byte's character in UTF-8
flat_utf8 : (f : ℕ → ℕ) (bytes : List ℕ) → list_all (λ b. scalar (f b)) bytes ≡ true → IsUtf8 (flat_map (λ b. encode_utf8 (f b)) bytes)
flat_utf8 f [] h = IsUtf8-nil
flat_utf8 f (b ∷ bs) h =
    let both = and_parts (scalar (f b)) (list_all (λ b. scalar (f b)) bs) h in
    IsUtf8-append (encode_utf8 (f b)) (flat_map (λ b. encode_utf8 (f b)) bs) (IsUtf8-encode (f b) both.0) (flat_utf8 f bs both.1)

bytes_scalar : (bytes : List ℕ) → IsBytes bytes → list_all scalar bytes ≡ true
bytes_scalar [] h = refl
bytes_scalar (b ∷ bs) h = let small = h 0 in rw (low_scalar b (omega (arith, small))) (bytes_scalar bs (λ i. h (suc i)))

ascii_bytes : (bytes : List ℕ) → list_all (λ byte. nat_lt byte 128) bytes ≡ true → (i : ℕ) → slice_index bytes i < 128
ascii_bytes [] h i = omega arith
ascii_bytes (b ∷ bs) h zero = ltb-true b 128 (and_parts (nat_lt b 128) (list_all (λ byte. nat_lt byte 128) bs) h).0
ascii_bytes (b ∷ bs) h (suc i) = ascii_bytes bs (and_parts (nat_lt b 128) (list_all (λ byte. nat_lt byte 128) bs) h).1 i

-- the characters of a table are characters
at_scalar : (upper : List ℕ) (i c : ℕ) → list_all scalar upper ≡ true → slice_get upper i ≡ Some c → scalar c ≡ true
at_scalar [] i c h e = absurd (let no : ◌≡◌ {A = Option ℕ} None (Some c) = e in cc)
at_scalar (x ∷ xs) zero c h e = let same : x ≡ c = cc in subst (λ y. scalar y ≡ true) same (and_parts (scalar x) (list_all scalar xs) h).0
at_scalar (x ∷ xs) (suc i) c h e = at_scalar xs i c (and_parts (scalar x) (list_all scalar xs) h).1 e

of_some : (found : Option ℕ) → ((c : ℕ) → found ≡ Some c → scalar c ≡ true) → scalar (unwrap_or (option_and_then (λ c. if c == 65533 then None else Some c) found) 0) ≡ true
of_some None h = refl
of_some (Some c) h = elim (cases_Bool (c == 65533)) [ inl t ↦ rw t refl | inr f ↦ rw f (h c refl) ]

character_scalar : (upper : List ℕ) (byte : ℕ) → list_all scalar upper ≡ true → scalar (unwrap_or (character_in upper byte) 0) ≡ true
character_scalar upper byte h = elim (cases_Bool (nat_lt byte 128)) [
  | inl t ↦ let small = ltb-true byte 128 t in rw t (low_scalar byte (omega (arith, small)))
  | inr f ↦ rw f (of_some (slice_get upper (byte - 128)) (λ c e. at_scalar upper (byte - 128) c h e))
]

characters_scalar : (upper bytes : List ℕ) → list_all scalar upper ≡ true → list_all (λ byte. scalar (unwrap_or (character_in upper byte) 0)) bytes ≡ true
characters_scalar upper [] h = refl
characters_scalar upper (b ∷ bs) h = rw (character_scalar upper b h) (characters_scalar upper bs h)

if_utf8 : (test : Bool) (given text : List ℕ) → IsUtf8 given → (if test then Some given else None) ≡ Some text → IsUtf8 text
if_utf8 true given text u e = let same : given ≡ text = cc in subst IsUtf8 same u
if_utf8 false given text u e = absurd (let no : ◌≡◌ {A = Option (List ℕ)} None (Some text) = e in cc)

table_utf8 : (upper bytes text : List ℕ) → list_all scalar upper ≡ true → text_in_table upper bytes ≡ Some text → IsUtf8 text
table_utf8 upper bytes text h e =
    if_utf8 _ (flat_map (λ byte. encode_utf8 (unwrap_or (character_in upper byte) 0)) bytes) text
    (flat_utf8 (λ byte. unwrap_or (character_in upper byte) 0) bytes (characters_scalar upper bytes h)) e

-- what all pass, what is found passes
found_passes : {X : Type 0} (p q : X → Bool) (xs : List X) (x : X) → list_all q xs ≡ true → find p xs ≡ Some x → q x ≡ true
found_passes {X} p q [] x h e = absurd (let no : ◌≡◌ {A = Option X} None (Some x) = e in cc)
found_passes {X} p q (y ∷ ys) x h e =
    let both = and_parts (q y) (list_all q ys) h in
    elim (cases_Bool (p y)) [
      | inl t ↦
          let found : ◌≡◌ {A = Option X} (Some y) (Some x) = rw t at e in
          let same : y ≡ x = cc in
          subst (λ z. q z ≡ true) same both.0
      | inr f ↦ found_passes p q ys x both.1 (rw f at e)
    ]

all_tables : list_all (λ c. list_all scalar c.upper) (iso_tables ++ other_tables) ≡ true
unfolding iso_tables other_tables
all_tables = refl

made_of : {X Y : Type 0} (f : X → Y) (found : Option X) (y : Y) → option_map f found ≡ Some y → (x : X) × ((found ≡ Some x) × (f x ≡ y))
made_of {X} {Y} f None y e = absurd (let no : ◌≡◌ {A = Option Y} None (Some y) = e in cc)
made_of f (Some x) y e = (x, (refl, cc))

upper_scalar : (label upper : List ℕ) → upper_of label ≡ Some upper → list_all scalar upper ≡ true
upper_scalar label upper e =
    let m = made_of (λ c. c.upper) (find (λ c. list_any (bytes_eq label) c.labels) (iso_tables ++ other_tables)) upper e in
    subst (λ u. list_all scalar u ≡ true) m.1.1
    (found_passes (λ c. list_any (bytes_eq label) c.labels) (λ c. list_all scalar c.upper) (iso_tables ++ other_tables) m.0 all_tables m.1.0)

by_table : (bytes text : List ℕ) (found : Option (List ℕ)) → ((upper : List ℕ) → found ≡ Some upper → list_all scalar upper ≡ true)
    → option_and_then (λ upper. text_in_table upper bytes) found ≡ Some text → IsUtf8 text
by_table bytes text None h e = absurd (let no : ◌≡◌ {A = Option (List ℕ)} None (Some text) = e in cc)
by_table bytes text (Some upper) h e = table_utf8 upper bytes text (h upper refl) e

pub charset_utf8 : (charset bytes text : List ℕ) → list_any (bytes_eq charset) utf8_labels ≡ false → IsBytes bytes → in_utf8 charset bytes ≡ Some text → IsUtf8 text
charset_utf8 charset bytes text n b e = elim (cases_Bool (bytes_eq charset (codes "us-ascii"))) [
  | inl a ↦ elim (cases_Bool (list_all (λ byte. nat_lt byte 128) bytes)) [
    | inl t ↦
        let is : ◌≡◌ {A = Option (List ℕ)} (Some bytes) (Some text) = rw (n, a, t) at e in
        let same : bytes ≡ text = cc in
        subst IsUtf8 same (IsUtf8-from_ascii bytes (ascii_bytes bytes t))
    | inr f ↦ absurd (let no : ◌≡◌ {A = Option (List ℕ)} None (Some text) = rw (n, a, f) at e in cc)
  ]
  | inr a ↦ elim (cases_Bool (bytes_eq charset (codes "iso-8859-1"))) [
    | inl l ↦
        let is : ◌≡◌ {A = Option (List ℕ)} (Some (flat_map encode_utf8 bytes)) (Some text) = rw (n, a, l) at e in
        let same : flat_map encode_utf8 bytes ≡ text = cc in
        subst IsUtf8 same (flat_utf8 (λ byte. byte) bytes (bytes_scalar bytes b))
    | inr l ↦ by_table bytes text (upper_of charset) (upper_scalar charset) (rw (n, a, l) at e)
  ]
]

-- the bytes of a text in UTF-8 are bytes
bytes_nil : IsBytes []
bytes_nil i = omega arith

bytes_cons : (byte : ℕ) (bytes : List ℕ) → byte < 256 → IsBytes bytes → IsBytes (byte ∷ bytes)
bytes_cons byte bytes l h zero = l
bytes_cons byte bytes l h (suc i) = h i

goes_byte : (bits : ℕ) → 128 + bits % 64 < 256
goes_byte bits = omega arith

encode_bytes : (c : ℕ) → c < 1114112 → IsBytes (encode_utf8 c)
unfolding encode_utf8
encode_bytes c l =
    let one = bytes_cons (128 + c % 64) [] (goes_byte c) bytes_nil in
    let two = bytes_cons (128 + c / 64 % 64) ((128 + c % 64) ∷ []) (goes_byte (c / 64)) one in
    let three = bytes_cons (128 + c / 4096 % 64) ((128 + c / 64 % 64) ∷ (128 + c % 64) ∷ []) (goes_byte (c / 4096)) two in
    elim (cases_Bool (nat_lt c 128)) [
      | inl a ↦ let small = ltb-true c 128 a in rw a (bytes_cons c [] (omega (arith, small)) bytes_nil)
      | inr b ↦ elim (cases_Bool (nat_lt c 2048)) [
        | inl d ↦ let small = ltb-true c 2048 d in rw (b, d) (bytes_cons (192 + c / 64) ((128 + c % 64) ∷ []) (omega (arith, small)) one)
        | inr e ↦ elim (cases_Bool (nat_lt c 65536)) [
          | inl f ↦ let small = ltb-true c 65536 f in rw (b, e, f) (bytes_cons (224 + c / 4096) ((128 + c / 64 % 64) ∷ (128 + c % 64) ∷ []) (omega (arith, small)) two)
          | inr g ↦ rw (b, e, g) (bytes_cons (240 + c / 262144) ((128 + c / 4096 % 64) ∷ (128 + c / 64 % 64) ∷ (128 + c % 64) ∷ []) (omega (arith, l)) three)
        ]
      ]
    ]

scalar_less : (c : ℕ) → scalar c ≡ true → c < 1114112
scalar_less c h = elim (scalar_cases c h) [ inl l ↦ omega (arith, l) | inr both ↦ both.1 ]

all_bytes : (cs : List ℕ) → scalars cs ≡ true → IsBytes (encode_utf8_all cs)
all_bytes [] h = bytes_nil
all_bytes (c ∷ cs) h =
    let both = and_parts (scalar c) (scalars cs) h in
    both_bytes (encode_utf8 c) (encode_utf8_all cs) (encode_bytes c (scalar_less c both.0)) (all_bytes cs both.1)

text_bytes : (text : List ℕ) → IsUtf8 text → IsBytes text
text_bytes text u = subst IsBytes u.1.1 (all_bytes u.0 u.1.0)

pub charsets_back : (eol : Ending) (charset bytes text : List ℕ) → IsBytes bytes → in_utf8 charset bytes ≡ Some text → words_decoded (words_encoded eol text) ≡ text
charsets_back eol charset bytes text b e =
    words_back eol text (elim (cases_Bool (list_any (bytes_eq charset) utf8_labels)) [
      | inl t ↦
          let is : ◌≡◌ {A = Option (List ℕ)} (Some bytes) (Some text) = rw t at e in
          let same : bytes ≡ text = cc in
          subst IsBytes same b
      | inr f ↦ text_bytes text (charset_utf8 charset bytes text f b e)
    ])
