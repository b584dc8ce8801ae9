-- A base64 text piece by piece: the letters at its start, and what they stand for.
use Rattle.std.proofs.Common.{◌≡◌, ◌==◌, ◌<◌, ◌≤◌, ◌⊎◌, ◌+◌, ◌-◌, ◌%◌, ◌++◌, ℕ, suc, zero, Bool, true, false, Ok, List, [], ◌∷◌, refl, ap, sym, ◌∙◌, subst, length, take, drop, arith, inl, inr, append_assoc, length-append}
use Rattle.std.proofs.Math.Numerals.{one-add}
use Rattle.std.proofs.lemmas.Bool.{cases_Bool, and_parts, or_parts}
use Rattle.std.proofs.lemmas.List.{append-nil, take-append-drop, take-append-le}
use Rattle.std.specs.List.{list_all, prefix_len}
use Rattle.base64.specs.Engines.{standard_no_pad}
use Rattle.base64.specs.GeneralPurpose.{IsBytes, decode_of, encode_of}
use Rattle.base64.specs.Rfc4648.{encode_symbols}
use Rattle.base64.proofs.EngineFacts.{decode_of-encode_of}
use Rattle.mk_line.specs.Parting.{has_byte}
use Rattle.mk_head.specs.declared.encodings.Encoding.TheVariants.{Base64}
use Rattle.mk_code.specs.declared.decoding.CodeError.{CodeError}
use Rattle.mk_code.specs.declared.decoding.CodeError.TheVariants.{BadBase64, UnknownEncoding, Memory}
use Rattle.mk_code.specs.Base64Text.{IsBase64Of, is_letter, letters}
use Rattle.mk_code.specs.Contents.{IsRefused}
use Rattle.mk_code.specs.inner.Decoded.{HasDecoded, EncodesNone}
use Rattle.mk_code.specs.inner.Strays.{is_stray}
use Rattle.mk_code.proofs.Base64Blocks.{split_encoded}
use Rattle.mk_code.proofs.Base64Laws.{letters_equals, letters_letter, letters_other}

-- a run of letters at the start
letters_run : (run following : List ℕ) → list_all is_letter run ≡ true → letters (run ++ following) ≡ run ++ letters following
letters_run [] following h = refl
letters_run (x ∷ xs) following h =
    let both = and_parts (is_letter x) (list_all is_letter xs) h in
    letters_letter x (xs ++ following) both.0 ∙ ap (λ ys. x ∷ ys) (letters_run xs following both.1)

-- bytes at the start that are no letters, without an equals sign among them, and with one
not_letter : (x : ℕ) → is_stray x ≡ true → is_letter x ≡ false
not_letter x h = elim (cases_Bool (is_letter x)) [ inl t ↦ let bad : false ≡ true = rw t at h in absurd (cc bad) | inr f ↦ f ]

strays_passed : (strays following : List ℕ) → list_all is_stray strays ≡ true → has_byte 61 strays ≡ false → letters (strays ++ following) ≡ letters following
strays_passed [] following h e = refl
strays_passed (x ∷ xs) following h e =
    let both = and_parts (is_stray x) (list_all is_stray xs) h in
    let none = or_parts (x == 61) (has_byte 61 xs) e in
    letters_other x (xs ++ following) (not_letter x both.0) none.0 ∙ strays_passed xs following both.1 none.1

strays_ended : (front following : List ℕ) (others : List ℕ) → list_all is_stray (front ++ others) ≡ true → has_byte 61 front ≡ false → letters (front ++ 61 ∷ following) ≡ []
strays_ended [] following others h e = letters_equals following
strays_ended (x ∷ xs) following others h e =
    let both = and_parts (is_stray x) (list_all is_stray (xs ++ others)) h in
    let none = or_parts (x == 61) (has_byte 61 xs) e in
    letters_other x (xs ++ 61 ∷ following) (not_letter x both.0) none.0 ∙ strays_ended xs following others both.1 none.1

-- what passes a test at the start passes it
front_passes : (p : ℕ → Bool) (xs : List ℕ) → list_all p (take (prefix_len p xs) xs) ≡ true
front_passes p [] = refl
front_passes p (x ∷ xs) = elim (cases_Bool (p x)) [
  | inl h ↦ rw (h, one-add (prefix_len p xs), h) (front_passes p xs)
  | inr h ↦ rw h refl
]

-- the run of letters in a window at the start
pub window_run : (rest window run : List ℕ) (most n : ℕ) → window ≡ take most rest → n ≡ prefix_len is_letter window → n ≤ length window → run ≡ take n rest → list_all is_letter run ≡ true
window_run rest window run most n w e l r =
    let same : take n rest ≡ take n window =
    ap (take n) (sym (take-append-drop most rest) ∙ ap (λ xs. xs ++ drop most rest) (sym w)) ∙ take-append-le n window (drop most rest) l in
    subst (λ xs. list_all is_letter xs ≡ true) (sym (r ∙ (same ∙ ap (λ k. take k window) e))) (front_passes is_letter window)

pub stray_run : (following strays : List ℕ) (n : ℕ) → n ≡ prefix_len is_stray following → strays ≡ take n following → list_all is_stray strays ≡ true
stray_run following strays n e s = subst (λ xs. list_all is_stray xs ≡ true) (sym (s ∙ ap (λ k. take k following) e)) (front_passes is_stray following)

-- a run of letters, and the bytes after it up to the next
pub step_run : (rest run following strays more : List ℕ) → rest ≡ run ++ following → following ≡ strays ++ more → list_all is_letter run ≡ true → list_all is_stray strays ≡ true → has_byte 61 strays ≡ false
    → letters rest ≡ run ++ letters more
step_run rest run following strays more r f a b e =
    ap letters r ∙ (letters_run run following a ∙ ap (λ xs. run ++ xs) (ap letters f ∙ strays_passed strays more b e))

pub step_end : (rest run following strays more front tail : List ℕ) → rest ≡ run ++ following → following ≡ strays ++ more → list_all is_letter run ≡ true → list_all is_stray strays ≡ true
    → strays ≡ front ++ 61 ∷ tail → has_byte 61 front ≡ false → letters rest ≡ run
step_end rest run following strays more front tail r f a b s e =
    ap letters r
    ∙ (letters_run run following a
    ∙ (ap (λ xs. run ++ xs) (ap letters (f ∙ (ap (λ xs. xs ++ more) s ∙ append_assoc front (61 ∷ tail) more)) ∙ strays_ended front (tail ++ more) (61 ∷ tail) (subst (λ xs. list_all is_stray xs ≡ true) s b) e)
    ∙ append-nil run))

-- letters that were gathered before
pub gathered : (text found found1 rest run more : List ℕ) → letters text ≡ found ++ letters rest → found1 ≡ found ++ run → letters rest ≡ run ++ letters more → letters text ≡ found1 ++ letters more
gathered text found found1 rest run more h f s =
    h ∙ (ap (λ xs. found ++ xs) s ∙ (sym (append_assoc found run (letters more)) ∙ ap (λ xs. xs ++ letters more) (sym f)))

-- bytes with the same letters are the same
same_bytes : (a b : List ℕ) → IsBytes a → IsBytes b → encode_of standard_no_pad a ≡ encode_of standard_no_pad b → a ≡ b
same_bytes a b h k e =
    let same : Ok a ≡ Ok b =
    sym (decode_of-encode_of standard_no_pad a refl h) ∙ (ap (decode_of standard_no_pad) e ∙ decode_of-encode_of standard_no_pad b refl k) in cc

no_more : (left : List ℕ) → left ≡ [] → IsBase64Of left []
unfolding encode_symbols
no_more left e = (λ i. omega arith, ap letters e)

-- the letters of a piece, whole groups or all: its bytes, and the rest of the content
pub piece_taken : (text found left out content : List ℕ) → letters text ≡ found ++ letters left → (length found ≡ 16384) ⊎ (left ≡ []) → HasDecoded [] found out [] → IsBase64Of text content
    → (more : List ℕ) × (content ≡ out ++ more) × IsBase64Of left more
piece_taken text found left out content e (inl whole) d h =
    let s = split_encoded content found (letters left) h.0 (sym h.1 ∙ e) (ap (λ n. n % 4) whole) in
    let same : s.early ≡ d.bytes = same_bytes s.early d.bytes s.early_bytes d.are_bytes (s.front_is ∙ (d.letters ∙ append-nil (encode_of standard_no_pad d.bytes))) in
    (s.late, sym s.whole ∙ ap (λ xs. xs ++ s.late) (same ∙ sym d.text), (s.late_bytes, sym s.following_is))
piece_taken text found left out content e (inr none) d h =
    let all : letters text ≡ found = e ∙ (ap (λ xs. found ++ letters xs) none ∙ append-nil found) in
    let same : content ≡ d.bytes = same_bytes content d.bytes h.0 d.are_bytes (sym h.1 ∙ (all ∙ (d.letters ∙ append-nil (encode_of standard_no_pad d.bytes)))) in
    ([], same ∙ (sym d.text ∙ sym (append-nil out)), no_more left none)

-- letters that are the encoding of no bytes are none of a content
bad_piece : (text found left : List ℕ) → letters text ≡ found ++ letters left → (length found ≡ 16384) ⊎ (left ≡ []) → EncodesNone found BadBase64 → (content : List ℕ) → ¬ IsBase64Of text content
bad_piece text found left e (inl whole) bad content h =
    let s = split_encoded content found (letters left) h.0 (sym h.1 ∙ e) (ap (λ n. n % 4) whole) in
    bad s.early s.early_bytes (sym s.front_is)
bad_piece text found left e (inr none) bad content h =
    bad content h.0 (sym (e ∙ (ap (λ xs. found ++ letters xs) none ∙ append-nil found)) ∙ h.1)

pub refused_piece : (text found left : List ℕ) (error : CodeError) → letters text ≡ found ++ letters left → (length found ≡ 16384) ⊎ (left ≡ []) → EncodesNone found error → IsRefused Base64 text error
refused_piece text found left BadBase64 e w bad = (refl, bad_piece text found left e w bad)
refused_piece text found left UnknownEncoding e w bad = absurd bad
refused_piece text found left Memory e w bad = tt

-- what is gathered of a text: its letters so far
pub record Gathers (text found rest : List ℕ) : Type 0 where
  pub letters_are : letters text ≡ found ++ letters rest
  pub room : length found ≤ 16384
  pub less : (length rest < length text) ⊎ ((length found ≡ 0) × (length rest ≡ length text))

pub gathered_more : (text found found1 rest run more : List ℕ) → Gathers text found rest → found1 ≡ found ++ run → letters rest ≡ run ++ letters more → length run ≤ 16384 - length found → length more < length rest → Gathers text found1 more
gathered_more text found found1 rest run more h f s few l =
    let sum : length found1 ≡ length found + length run = ap length f ∙ length-append found run in
    record {
      letters_are = gathered text found found1 rest run more h.letters_are f s;
      room = (let r = h.room in omega (arith, r, few, sum));
      less = inl (elim h.less [ inl k ↦ omega (arith, k, l) | inr both ↦ (let k = both.1 in omega (arith, k, l)) ]);
    }

-- a step takes a byte at least
pub progress : (rest window following : List ℕ) (most n k : ℕ) → 0 < length rest → 0 < most → window ≡ take most rest → n ≡ prefix_len is_letter window → following ≡ drop n rest → k ≡ prefix_len is_stray following → 0 < n + k
progress [] window following most n k l m w e f g = absurd (omega (arith, l))
progress (x ∷ xs) window following zero n k l m w e f g = absurd (omega (arith, m))
progress (x ∷ xs) window following (suc most) n k l m w e f g = elim (cases_Bool (is_letter x)) [
  | inl h ↦
      let some : prefix_len is_letter (x ∷ take most xs) ≡ suc (prefix_len is_letter (take most xs)) = rw (h, one-add (prefix_len is_letter (take most xs))) refl in
      let more : n ≡ suc (prefix_len is_letter (take most xs)) = e ∙ (ap (prefix_len is_letter) w ∙ some) in
      omega (arith, more)
  | inr h ↦
      let none : n ≡ 0 = e ∙ (ap (prefix_len is_letter) w ∙ rw h refl) in
      let all : following ≡ x ∷ xs = f ∙ ap (λ i. drop i (x ∷ xs)) none in
      let some : prefix_len is_stray (x ∷ xs) ≡ suc (prefix_len is_stray xs) = rw (h, one-add (prefix_len is_stray xs)) refl in
      let more : k ≡ suc (prefix_len is_stray xs) = g ∙ (ap (prefix_len is_stray) all ∙ some) in
      omega (arith, more)
]
