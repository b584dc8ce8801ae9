-- Characters by their bytes, and how long the encoded words of a text are.
use Rattle.std.proofs.Common.{◌≡◌, ◌==◌, ◌<◌, ◌≤◌, ◌+◌, ◌/◌, ◌%◌, ℕ, true, false, List, [], ◌∷◌, ◌++◌, map, refl, ap, sym, ◌∙◌, length, replicate, arith, inl, inr, length-append, subst}
use Rattle.std.proofs.Math.Bool.{and-false}
use Rattle.std.specs.Prelude.{nat_le, nat_lt}
use Rattle.std.specs.Char.{encode_utf8}
use Rattle.std.specs.Str.{IsUtf8, encode_utf8_all}
use Rattle.std.specs.List.{onto_first}
use Rattle.std.proofs.lemmas.Bool.{cases_Bool, le-leb, lt-leb, leb-true, ltb-true, eqb-true}
use Rattle.std.proofs.lemmas.List.{length-replicate}
use Rattle.base64.specs.Rfc4648.{encode_symbols, padding_len}
use Rattle.base64.specs.Engines.{standard}
use Rattle.base64.proofs.RoundTrip.{length-encode_symbols}
use Rattle.mk_code.specs.EncodedWords.{is_continuation_byte, goes_on, characters, front_onto, goes_in, piece_room, pieces, encoded_word, word_width, AreShort}

-- a byte after the first of a character
goes : (bits : ℕ) → is_continuation_byte (128 + bits % 64) ≡ true
goes bits = rw (le-leb 128 (128 + bits % 64) (omega arith), le-leb (128 + bits % 64) 191 (omega arith)) refl

-- a first byte doesn't go on with another character
begins_low : (byte : ℕ) → byte < 128 → is_continuation_byte byte ≡ false
begins_low byte l = rw (lt-leb 128 byte l) refl

begins_high : (byte : ℕ) → 192 ≤ byte → is_continuation_byte byte ≡ false
begins_high byte l = rw (lt-leb byte 191 (omega arith)) (and-false (nat_le 128 byte))

one_byte : (a : ℕ) (text : List ℕ) → goes_on text ≡ false → characters (a ∷ text) ≡ (a ∷ []) ∷ characters text
one_byte a text h = rw h refl

more_bytes : (a b : ℕ) (bytes text : List ℕ) → is_continuation_byte b ≡ true → characters (b ∷ (bytes ++ text)) ≡ (b ∷ bytes) ∷ characters text → characters (a ∷ b ∷ (bytes ++ text)) ≡ (a ∷ b ∷ bytes) ∷ characters text
more_bytes a b bytes text c h = rw c (ap (onto_first a) h)

-- a character before bytes that don't go on with it
character_whole : (c : ℕ) (text : List ℕ) → goes_on text ≡ false → characters (encode_utf8 c ++ text) ≡ encode_utf8 c ∷ characters text
unfolding encode_utf8
character_whole c text h =
    let one = one_byte (128 + c % 64) text h in
    let two = more_bytes (128 + c / 64 % 64) (128 + c % 64) [] text (goes c) one in
    let three = more_bytes (128 + c / 4096 % 64) (128 + c / 64 % 64) ((128 + c % 64) ∷ []) text (goes (c / 64)) two in
    elim (cases_Bool (nat_lt c 128)) [
      | inl a ↦ rw a (one_byte c text h)
      | inr b ↦ elim (cases_Bool (nat_lt c 2048)) [
        | inl d ↦ rw (b, d) (more_bytes (192 + c / 64) (128 + c % 64) [] text (goes c) one)
        | inr e ↦ elim (cases_Bool (nat_lt c 65536)) [
          | inl f ↦ rw (b, e, f) (more_bytes (224 + c / 4096) (128 + c / 64 % 64) ((128 + c % 64) ∷ []) text (goes (c / 64)) two)
          | inr g ↦ rw (b, e, g) (more_bytes (240 + c / 262144) (128 + c / 4096 % 64) ((128 + c / 64 % 64) ∷ (128 + c % 64) ∷ []) text (goes (c / 4096)) three)
        ]
      ]
    ]

first_begins : (c : ℕ) (text : List ℕ) → goes_on (encode_utf8 c ++ text) ≡ false
unfolding encode_utf8
first_begins c text =
    elim (cases_Bool (nat_lt c 128)) [
      | inl a ↦ rw a (begins_low c (ltb-true c 128 a))
      | inr b ↦ elim (cases_Bool (nat_lt c 2048)) [
        | inl d ↦ rw (b, d) (begins_high (192 + c / 64) (omega arith))
        | inr e ↦ elim (cases_Bool (nat_lt c 65536)) [
          | inl f ↦ rw (b, e, f) (begins_high (224 + c / 4096) (omega arith))
          | inr g ↦ rw (b, e, g) (begins_high (240 + c / 262144) (omega arith))
        ]
      ]
    ]

all_begin : (cs : List ℕ) → goes_on (encode_utf8_all cs) ≡ false
all_begin [] = refl
all_begin (c ∷ cs) = first_begins c (encode_utf8_all cs)

pub characters_whole : (cs : List ℕ) → characters (encode_utf8_all cs) ≡ map encode_utf8 cs
characters_whole [] = refl
characters_whole (c ∷ cs) = character_whole c (encode_utf8_all cs) (all_begin cs) ∙ ap (λ xs. encode_utf8 c ∷ xs) (characters_whole cs)

-- a character has four bytes at most
character_short : (c : ℕ) → length (encode_utf8 c) ≤ 4
unfolding encode_utf8
character_short c =
    elim (cases_Bool (nat_lt c 128)) [
      | inl a ↦ rw a (omega arith)
      | inr b ↦ elim (cases_Bool (nat_lt c 2048)) [
        | inl d ↦ rw (b, d) (omega arith)
        | inr e ↦ elim (cases_Bool (nat_lt c 65536)) [ inl f ↦ rw (b, e, f) (omega arith) | inr g ↦ rw (b, e, g) (omega arith) ]
      ]
    ]

-- lists of so many bytes at most
abbrev Small : ℕ → List (List ℕ) → Type 0
Small most [] = Unit {0}
Small most (xs ∷ xss) = (length xs ≤ most) × Small most xss

characters_short : (cs : List ℕ) → Small 4 (map encode_utf8 cs)
characters_short [] = tt
characters_short (c ∷ cs) = (character_short c, characters_short cs)

-- pieces of which the first has so many bytes already
abbrev Fit : ℕ → List (List ℕ) → Type 0
Fit used [] = Unit {0}
Fit used (p ∷ ps) = (used + length p ≤ piece_room) × Small piece_room ps

fit_front : (used : ℕ) (c : List ℕ) (ps : List (List ℕ)) → used + length c ≤ piece_room → Fit (used + length c) ps → Fit used (front_onto c ps)
fit_front used c [] l h = (l, tt)
fit_front used c (p ∷ ps) l h = (omega (arith, h.0, length-append c p), h.1)

small_front : (c : List ℕ) (ps : List (List ℕ)) → length c ≤ piece_room → Fit (length c) ps → Small piece_room (front_onto c ps)
small_front c [] l h = (l, tt)
small_front c (p ∷ ps) l h = (omega (arith, h.0, length-append c p), h.1)

in_room : (used : ℕ) (c : List ℕ) → length c ≤ 4 → goes_in used c ≡ true → used + length c ≤ piece_room
in_room used c l h =
    elim (cases_Bool (used == 0)) [
      | inl z ↦ let none : used ≡ 0 = eqb-true used 0 z in omega arith
      | inr n ↦ leb-true (used + length c) piece_room (rw n at h)
    ]

pieces_fit : (cs : List (List ℕ)) (used : ℕ) → Small 4 cs → used ≤ piece_room → Fit used (pieces cs used)
pieces_fit [] used h l = (omega arith, tt)
pieces_fit (c ∷ cs) used h l =
    elim (cases_Bool (goes_in used c)) [
      | inl t ↦
          let room = in_room used c h.0 t in
          rw t (fit_front used c (pieces cs (used + length c)) room (pieces_fit cs (used + length c) h.1 room))
      | inr f ↦
          let room : length c ≤ piece_room = omega (arith, h.0) in
          rw f (omega arith, small_front c (pieces cs (length c)) room (pieces_fit cs (length c) h.1 room))
    ]

-- the word of a small piece is short
word_short : (p : List ℕ) → length p ≤ piece_room → length (encoded_word p) ≤ word_width
word_short p l =
    omega (arith, length-append (encode_symbols standard.encode_table p ++ replicate (padding_len (length p)) 61) (63 ∷ 61 ∷ []), length-append (encode_symbols standard.encode_table p) (replicate (padding_len (length p)) 61), length-encode_symbols standard.encode_table p, length-replicate {A = ℕ} (padding_len (length p)) 61, l)

words_small : (ps : List (List ℕ)) → Small piece_room ps → AreShort ps
words_small [] h = tt
words_small (p ∷ ps) h = (word_short p h.0, words_small ps h.1)

fit_small : (ps : List (List ℕ)) → Fit 0 ps → Small piece_room ps
fit_small [] h = tt
fit_small (p ∷ ps) h = (omega (arith, h.0), h.1)

pub words_short : (text : List ℕ) → IsUtf8 text → AreShort (pieces (characters text) 0)
words_short text h =
    let whole : characters text ≡ map encode_utf8 h.0 = ap characters (sym h.1.1) ∙ characters_whole h.0 in
    let small : Small 4 (characters text) = subst (Small 4) (sym whole) (characters_short h.0) in
    words_small (pieces (characters text) 0) (fit_small (pieces (characters text) 0) (pieces_fit (characters text) 0 small (omega arith)))
