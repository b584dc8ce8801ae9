-- A text comes back from its encoded words.
use Rattle.std.proofs.Common.{◌≡◌, ◌==◌, ◌&&◌, ◌≤◌, ◌+◌, ℕ, Bool, suc, zero, true, false, not, List, [], ◌∷◌, ◌++◌, refl, ap, sym, ◌∙◌, length, drop, replicate, arith, inl, inr, append_assoc, Some, append-nil, subst}
use Rattle.std.specs.Prelude.{nat_le, codes}
use Rattle.std.specs.List.{list_all, flat_map, onto_first, join_by, concat, take_while}
use Rattle.std.proofs.lemmas.Bool.{cases_Bool, and_parts, le-leb, not-true}
use Rattle.std.proofs.lemmas.List.{drop_at, length-replicate}
use Rattle.std.proofs.lemmas.List.Sums.{take_while-cons}
use Rattle.base64.specs.Rfc4648.{encode_symbols, padding_len}
use Rattle.base64.specs.GeneralPurpose.{IsBytes, encode_of, decode_of, decoded_of}
use Rattle.base64.specs.Engines.{standard, standard_no_pad}
use Rattle.base64.proofs.EngineFacts.{decode_of-encode_of, front_bytes}
use Rattle.mk_line.specs.Ascii.{is_blank}
use Rattle.mk_line.specs.Lines.{ending_bytes}
use Rattle.mk_line.specs.declared.cutting.Ending.{Ending}
use Rattle.mk_line.specs.Parting.{has_byte}
use Rattle.mk_code.specs.Base64Text.{is_letter}
use Rattle.mk_code.specs.EncodedWords.{Run, Gap, Word, run_before, runs, parts_decoded, word_decoded, b_text, is_padding, shown, unfolded, is_shown, encoded_word, characters, goes_on, goes_in, front_onto, pieces, stays, words_encoded, words_decoded, has_pair}
use Rattle.mk_code.specs.declared.one_word.Readable.TheVariants.{All}
use Rattle.mk_code.proofs.OutputCuts.{differs}
use Rattle.mk_code.proofs.Base64Laws.{symbols_pass}
use Rattle.mk_code.proofs.QpBack.{AreBytes}
use Rattle.mk_code.proofs.WordParts.{parts_run, decoded_ok}
use Rattle.mk_code.proofs.WordsKept.{unfold_byte, unfold_run, unfold_ending, words_kept}

-- printable and no blank
abbrev is_graphic : ℕ → Bool
is_graphic byte = nat_le 33 byte && nat_le byte 126

all_append : (p : ℕ → Bool) (xs ys : List ℕ) → list_all p xs ≡ true → list_all p ys ≡ true → list_all p (xs ++ ys) ≡ true
all_append p [] ys h k = k
all_append p (x ∷ xs) ys h k =
    let both = and_parts (p x) (list_all p xs) h in
    rw both.0 (all_append p xs ys both.1 k)

all_equals : (p : ℕ → Bool) (n : ℕ) → p 61 ≡ true → list_all p (replicate n 61) ≡ true
all_equals p zero h = refl
all_equals p (suc n) h = rw h (all_equals p n h)

lacks_all : (byte : ℕ) (xs : List ℕ) → list_all (λ other. not (other == byte)) xs ≡ true → has_byte byte xs ≡ false
lacks_all byte [] h = refl
lacks_all byte (x ∷ xs) h =
    let both = and_parts (not (x == byte)) (list_all (λ other. not (other == byte)) xs) h in
    rw (not-true (x == byte) both.0) (lacks_all byte xs both.1)

-- base64 in a word comes back

letters_front : (xs : List ℕ) (n : ℕ) → list_all is_letter xs ≡ true → take_while is_letter (xs ++ replicate n 61) ≡ xs
letters_front [] zero h = refl
letters_front [] (suc n) h = take_while-cons is_letter 61 (replicate n 61)
letters_front (x ∷ xs) n h =
    let both = and_parts (is_letter x) (list_all is_letter xs) h in
    rw (take_while-cons is_letter x (xs ++ replicate n 61), both.0) (ap (λ ys. x ∷ ys) (letters_front xs n both.1))

padding_padded : (n : ℕ) → n ≤ 2 → is_padding (replicate n 61) ≡ true
padding_padded n l =
    let few : nat_le (length {A = ℕ} (replicate n 61)) 2 ≡ true = le-leb (length {A = ℕ} (replicate n 61)) 2 (omega (arith, length-replicate {A = ℕ} n 61, l)) in
    rw few (all_equals (λ byte. byte == 61) n refl)

b_padded : (xs bytes : List ℕ) (n : ℕ) → list_all is_letter xs ≡ true → n ≤ 2 → decoded_of standard_no_pad xs ≡ Some bytes → b_text (xs ++ replicate n 61) ≡ Some bytes
b_padded xs bytes n h l d = rw (letters_front xs n h, drop_at xs (replicate n 61) (length xs) refl, padding_padded n l) d

b_back : (bytes : List ℕ) → IsBytes bytes → b_text (encode_of standard bytes) ≡ Some bytes
b_back bytes small =
    b_padded (encode_symbols standard.encode_table bytes) bytes (padding_len (length bytes)) (symbols_pass is_letter bytes refl small) (omega arith)
    (decoded_ok (encode_symbols standard.encode_table bytes) bytes
    (ap (decode_of standard_no_pad) (sym (append-nil (encode_symbols standard.encode_table bytes))) ∙ decode_of-encode_of standard_no_pad bytes refl small))

encoded_all : (p : ℕ → Bool) (bytes : List ℕ) → list_all p (encode_symbols standard.encode_table bytes) ≡ true → p 61 ≡ true → list_all p (encode_of standard bytes) ≡ true
encoded_all p bytes h e = all_append p (encode_symbols standard.encode_table bytes) (replicate (padding_len (length bytes)) 61) h (all_equals p (padding_len (length bytes)) e)

pub word_back : (piece : List ℕ) → IsBytes piece → word_decoded (encoded_word piece) ≡ Some piece
word_back piece small =
    ap (λ ps. parts_decoded ((61 ∷ []) ∷ codes "utf-8" ∷ (66 ∷ []) ∷ ps))
    (parts_run (encode_of standard piece) (61 ∷ []) (lacks_all 63 (encode_of standard piece) (encoded_all (λ byte. not (byte == 63)) piece (symbols_pass (λ byte. not (byte == 63)) piece refl small) refl)))
    ∙ rw (b_back piece small) refl

word_graphic : (piece : List ℕ) → IsBytes piece → list_all is_graphic (encoded_word piece) ≡ true
word_graphic piece small =
    all_append is_graphic (encode_of standard piece) (codes "?=") (encoded_all is_graphic piece (symbols_pass is_graphic piece refl small) refl) refl

-- a word before what begins with no word
abbrev BeginsNoWord : List Run → Type 0
BeginsNoWord [] = Unit {0}
BeginsNoWord (Gap gap ∷ rs) = Unit {0}
BeginsNoWord (Word word ∷ rs) = ⊥

graphic_dark : (byte : ℕ) → is_graphic byte ≡ true → is_blank byte ≡ false
graphic_dark byte h = rw (differs is_graphic byte 32 refl h, differs is_graphic byte 9 refl h) refl

word_begun : (byte : ℕ) (rs : List Run) → is_blank byte ≡ false → BeginsNoWord rs → run_before byte rs ≡ Word (byte ∷ []) ∷ rs
word_begun byte [] d h = rw d refl
word_begun byte (Gap gap ∷ rs) d h = rw d refl
word_begun byte (Word word ∷ rs) d h = absurd h

word_grown : (byte : ℕ) (word : List ℕ) (rs : List Run) → is_blank byte ≡ false → run_before byte (Word word ∷ rs) ≡ Word (byte ∷ word) ∷ rs
word_grown byte word rs d = rw d refl

runs_word : (byte : ℕ) (bytes text : List ℕ) → list_all is_graphic (byte ∷ bytes) ≡ true → BeginsNoWord (runs text) → runs ((byte ∷ bytes) ++ text) ≡ Word (byte ∷ bytes) ∷ runs text
runs_word byte [] text h n =
    let both = and_parts (is_graphic byte) true h in
    word_begun byte (runs text) (graphic_dark byte both.0) n
runs_word byte (next ∷ bytes) text h n =
    let both = and_parts (is_graphic byte) (list_all is_graphic (next ∷ bytes)) h in
    ap (run_before byte) (runs_word next bytes text both.1 n) ∙ word_grown byte (next ∷ bytes) (runs text) (graphic_dark byte both.0)

runs_encoded : (piece text : List ℕ) → IsBytes piece → BeginsNoWord (runs text) → runs (encoded_word piece ++ text) ≡ Word (encoded_word piece) ∷ runs text
runs_encoded piece text small n = runs_word 61 (drop 1 (encoded_word piece)) text (word_graphic piece small) n

-- the words after the first, each after a space
abbrev spaced : List (List ℕ) → List ℕ
spaced ps = flat_map (λ p. (32 ∷ []) ++ encoded_word p) ps

spaced_runs : (p : List ℕ) (ps : List (List ℕ)) → IsBytes p → BeginsNoWord (runs (spaced ps)) → runs (spaced (p ∷ ps)) ≡ Gap (32 ∷ []) ∷ Word (encoded_word p) ∷ runs (spaced ps)
spaced_runs p ps small n = ap (run_before 32) (runs_encoded p (spaced ps) small n)

spaced_none : (ps : List (List ℕ)) → AreBytes ps → BeginsNoWord (runs (spaced ps))
spaced_none [] h = tt
spaced_none (p ∷ ps) h = subst BeginsNoWord (sym (spaced_runs p ps h.0 (spaced_none ps h.1))) tt

spaced_shown : (ps : List (List ℕ)) → AreBytes ps → shown All true (runs (spaced ps)) ≡ concat ps
spaced_shown [] h = refl
spaced_shown (p ∷ ps) h =
    ap (shown All true) (spaced_runs p ps h.0 (spaced_none ps h.1))
    ∙ rw (word_back p h.0) (ap (λ xs. p ++ xs) (spaced_shown ps h.1))

-- the value without its line endings
abbrev folded : Ending → List (List ℕ) → List ℕ
folded eol ps = flat_map (λ p. (ending_bytes eol ++ 32 ∷ []) ++ encoded_word p) ps

unfold_folded : (eol : Ending) (ps : List (List ℕ)) → AreBytes ps → unfolded (folded eol ps) ≡ spaced ps
unfold_folded eol [] h = refl
unfold_folded eol (p ∷ ps) h =
    ap unfolded (append_assoc (ending_bytes eol ++ 32 ∷ []) (encoded_word p) (folded eol ps) ∙ append_assoc (ending_bytes eol) (32 ∷ []) (encoded_word p ++ folded eol ps))
    ∙ (unfold_ending eol (32 ∷ (encoded_word p ++ folded eol ps))
    ∙ (unfold_byte 32 (encoded_word p ++ folded eol ps) refl refl
    ∙ ap (λ xs. 32 ∷ xs) (unfold_run is_graphic (encoded_word p) (folded eol ps) refl refl (word_graphic p h.0) ∙ ap (λ xs. encoded_word p ++ xs) (unfold_folded eol ps h.1))))

words_shown : (eol : Ending) (ps : List (List ℕ)) → AreBytes ps → words_decoded (join_by encoded_word (ending_bytes eol ++ 32 ∷ []) ps) ≡ concat ps
words_shown eol [] h = refl
words_shown eol (p ∷ ps) h =
    ap (λ xs. shown All false (runs xs)) (unfold_run is_graphic (encoded_word p) (folded eol ps) refl refl (word_graphic p h.0) ∙ ap (λ xs. encoded_word p ++ xs) (unfold_folded eol ps h.1))
    ∙ (ap (shown All false) (runs_encoded p (spaced ps) h.0 (spaced_none ps h.1))
    ∙ rw (word_back p h.0) (ap (λ xs. p ++ xs) (spaced_shown ps h.1)))

-- the pieces joined are the text
concat_front : (front : List ℕ) (ps : List (List ℕ)) → concat (front_onto front ps) ≡ front ++ concat ps
concat_front front [] = refl
concat_front front (p ∷ ps) = append_assoc front p (concat ps)

concat_pieces : (cs : List (List ℕ)) (used : ℕ) → concat (pieces cs used) ≡ concat cs
concat_pieces [] used = refl
concat_pieces (c ∷ cs) used =
    elim (cases_Bool (goes_in used c)) [
      | inl t ↦ rw t (concat_front c (pieces cs (used + length c)) ∙ ap (λ xs. c ++ xs) (concat_pieces cs (used + length c)))
      | inr f ↦ rw f (concat_front c (pieces cs (length c)) ∙ ap (λ xs. c ++ xs) (concat_pieces cs (length c)))
    ]

concat_onto : (byte : ℕ) (ps : List (List ℕ)) → concat (onto_first byte ps) ≡ byte ∷ concat ps
concat_onto byte [] = refl
concat_onto byte (p ∷ ps) = refl

concat_characters : (text : List ℕ) → concat (characters text) ≡ text
concat_characters [] = refl
concat_characters (x ∷ xs) =
    elim (cases_Bool (goes_on xs)) [
      | inl t ↦ rw t (concat_onto x (characters xs) ∙ ap (λ ys. x ∷ ys) (concat_characters xs))
      | inr f ↦ rw f (ap (λ ys. x ∷ ys) (concat_characters xs))
    ]

-- pieces of bytes are bytes
back_bytes : (a b : List ℕ) → IsBytes (a ++ b) → IsBytes b
back_bytes [] b h = h
back_bytes (x ∷ a) b h = back_bytes a b (λ i. h (suc i))

bytes_concat : (ps : List (List ℕ)) → IsBytes (concat ps) → AreBytes ps
bytes_concat [] h = tt
bytes_concat (p ∷ ps) h = (front_bytes p (concat ps) h, bytes_concat ps (back_bytes p (concat ps) h))

pieces_back : (eol : Ending) (text : List ℕ) → IsBytes text → words_decoded (join_by encoded_word (ending_bytes eol ++ 32 ∷ []) (pieces (characters text) 0)) ≡ text
pieces_back eol text small =
    let whole : concat (pieces (characters text) 0) ≡ text = concat_pieces (characters text) 0 ∙ concat_characters text in
    words_shown eol (pieces (characters text) 0) (bytes_concat (pieces (characters text) 0) (subst IsBytes (sym whole) small)) ∙ whole

kept_back : (text : List ℕ) → stays text ≡ true → words_decoded text ≡ text
kept_back text h =
    let both = and_parts (nat_le (length text) 200) (list_all is_shown text && not (has_pair 61 63 text)) h in
    let rest = and_parts (list_all is_shown text) (not (has_pair 61 63 text)) both.1 in
    words_kept text rest.0 (not-true (has_pair 61 63 text) rest.1)

pub words_back : (eol : Ending) (text : List ℕ) → IsBytes text → words_decoded (words_encoded eol text) ≡ text
words_back eol text small =
    elim (cases_Bool (stays text)) [
      | inl t ↦ rw t (kept_back text t)
      | inr f ↦ rw f (pieces_back eol text small)
    ]
