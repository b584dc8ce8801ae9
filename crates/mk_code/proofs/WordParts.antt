-- An encoded word by its parts.
use Rattle.std.proofs.Common.{◌≡◌, ◌==◌, ◌≤◌, ℕ, true, false, List, [], ◌∷◌, ◌++◌, refl, ap, sym, ◌∙◌, length, take, drop, arith, inl, inr, append_assoc, None, Some, Ok, Err}
use Rattle.std.specs.Prelude.{Option}
use Rattle.std.specs.Option.{option_map}
use Rattle.std.specs.Result.{result_ok}
use Rattle.std.specs.Str.{bytes_eq}
use Rattle.std.specs.List.{prefix_len, onto_first, slice_split}
use Rattle.std.proofs.lemmas.Bool.{cases_Bool, or_parts, and_right}
use Rattle.std.proofs.lemmas.List.{length-take-le}
use Rattle.std.proofs.lemmas.Slice.Eq.{bytes_eq-Decides}
use Rattle.base64.specs.GeneralPurpose.{decode_of, decoded_of}
use Rattle.base64.specs.Engines.{standard_no_pad}
use Rattle.base64.specs.declared.decode.DecodeError.{DecodeError}
use Rattle.mk_line.specs.Parting.{has_byte}
use Rattle.mk_code.specs.Base64Text.{is_letter}
use Rattle.mk_code.specs.EncodedWords.{parts_decoded, word_decoded, inner_decoded, is_padding, b_text, q_text, put_before}

-- what stands between question marks
abbrev pub parts : List ℕ → List (List ℕ)
parts text = slice_split (λ byte. byte == 63) text

-- what stands before a question mark is a part
pub parts_run : (front following : List ℕ) → has_byte 63 front ≡ false → parts (front ++ 63 ∷ following) ≡ front ∷ parts following
parts_run [] following h = refl
parts_run (x ∷ xs) following h =
    let both = or_parts (x == 63) (has_byte 63 xs) h in
    rw both.0 (ap (onto_first x) (parts_run xs following both.1))

pub parts_cut : (text front following : List ℕ) → text ≡ front ++ 63 ∷ following → has_byte 63 front ≡ false → parts text ≡ front ∷ parts following
parts_cut text front following e h = ap parts e ∙ parts_run front following h

pub parts_whole : (text : List ℕ) → has_byte 63 text ≡ false → parts text ≡ text ∷ []
parts_whole [] h = refl
parts_whole (x ∷ xs) h =
    let both = or_parts (x == 63) (has_byte 63 xs) h in
    rw both.0 (ap (onto_first x) (parts_whole xs both.1))

-- a text with a question mark has two parts at least
record HasTwo (ps : List (List ℕ)) : Type 0 where
  one : List ℕ
  two : List ℕ
  others : List (List ℕ)
  are : ps ≡ one ∷ two ∷ others

record HasOne (ps : List (List ℕ)) : Type 0 where
  one : List ℕ
  others : List (List ℕ)
  are : ps ≡ one ∷ others

one_onto : (byte : ℕ) (ps : List (List ℕ)) → HasOne (onto_first byte ps)
one_onto byte [] = record { one = byte ∷ []; others = []; are = refl }
one_onto byte (p ∷ ps) = record { one = byte ∷ p; others = ps; are = refl }

one_part : (text : List ℕ) → HasOne (parts text)
one_part [] = record { one = []; others = []; are = refl }
one_part (x ∷ xs) = elim (cases_Bool (x == 63)) [
  | inl t ↦ rw t (record { one = []; others = parts xs; are = refl })
  | inr f ↦ rw f (one_onto x (parts xs))
]

two_parts : (text : List ℕ) → has_byte 63 text ≡ true → HasTwo (parts text)
two_parts [] h = let bad : false ≡ true = h in absurd (cc bad)
two_parts (x ∷ xs) h = elim (cases_Bool (x == 63)) [
  | inl t ↦
      let more = one_part xs in
      rw t (record { one = []; two = more.one; others = more.others; are = ap (λ ps. [] ∷ ps) more.are })
  | inr f ↦
      let more = two_parts xs (rw f at h) in
      rw f (record { one = x ∷ more.one; two = more.two; others = more.others; are = ap (onto_first x) more.are })
]

-- the parts after the fourth question mark
abbrev decoded_parts : List ℕ → List ℕ → List ℕ → List ℕ → List (List ℕ) → Option (List ℕ)
decoded_parts start charset name text ps = parts_decoded (start ∷ charset ∷ name ∷ text ∷ ps)

bad_start : (start charset name text : List ℕ) (ps : List (List ℕ)) → bytes_eq start (61 ∷ []) ≡ false → decoded_parts start charset name text ps ≡ None
bad_start start charset name text [] h = refl
bad_start start charset name text (z ∷ []) h = rw h refl
bad_start start charset name text (z ∷ more ∷ others) h = refl

bad_end : (start charset name text end : List ℕ) → bytes_eq end (61 ∷ []) ≡ false → decoded_parts start charset name text (parts end) ≡ None
bad_end start charset name text end h = elim (cases_Bool (has_byte 63 end)) [
  | inl t ↦ ap (decoded_parts start charset name text) (two_parts end t).are
  | inr f ↦ ap (decoded_parts start charset name text) (parts_whole end f) ∙ rw (and_right (bytes_eq start (61 ∷ [])) (bytes_eq end (61 ∷ [])) h) refl
]

-- the four cuts of a word
pub word_cut : (word start rest charset rest1 name rest2 text end : List ℕ) → word ≡ start ++ 63 ∷ rest → has_byte 63 start ≡ false → rest ≡ charset ++ 63 ∷ rest1 → has_byte 63 charset ≡ false → rest1 ≡ name ++ 63 ∷ rest2 → has_byte 63 name ≡ false → rest2 ≡ text ++ 63 ∷ end → has_byte 63 text ≡ false
    → word_decoded word ≡ decoded_parts start charset name text (parts end)
word_cut word start rest charset rest1 name rest2 text end e1 h1 e2 h2 e3 h3 e4 h4 =
    ap parts_decoded (parts_cut word start rest e1 h1 ∙ ap (λ ps. start ∷ ps) (parts_cut rest charset rest1 e2 h2 ∙ ap (λ ps. charset ∷ ps) (parts_cut rest1 name rest2 e3 h3 ∙ ap (λ ps. name ∷ ps) (parts_cut rest2 text end e4 h4))))

pub word_starts_bad : (word start charset name text end : List ℕ) → word_decoded word ≡ decoded_parts start charset name text (parts end) → bytes_eq start (61 ∷ []) ≡ false → word_decoded word ≡ None
word_starts_bad word start charset name text end e h = e ∙ bad_start start charset name text (parts end) h

pub word_ends_bad : (word start charset name text end : List ℕ) → word_decoded word ≡ decoded_parts start charset name text (parts end) → bytes_eq end (61 ∷ []) ≡ false → word_decoded word ≡ None
word_ends_bad word start charset name text end e h = e ∙ bad_end start charset name text end h

pub word_good : (word start charset name text end : List ℕ) → word_decoded word ≡ decoded_parts start charset name text (parts end) → bytes_eq start (61 ∷ []) ≡ true → bytes_eq end (61 ∷ []) ≡ true
    → word_decoded word ≡ inner_decoded charset name text
word_good word start charset name text end e h k =
    let same : end ≡ 61 ∷ [] = (bytes_eq-Decides end (61 ∷ [])).0 k in
    e ∙ (ap (λ z. decoded_parts start charset name text (parts z)) same ∙ rw h refl)

-- base64 in a word
pub decoded_ok : (text items : List ℕ) → decode_of standard_no_pad text ≡ Ok items → decoded_of standard_no_pad text ≡ Some items
unfolding decoded_of
decoded_ok text items h = ap result_ok h

decoded_err : (text : List ℕ) (error : DecodeError) → decode_of standard_no_pad text ≡ Err error → decoded_of standard_no_pad text ≡ None
unfolding decoded_of
decoded_err text error h = ap result_ok h

b_front : (text front tail : List ℕ) (n : ℕ) → n ≡ prefix_len is_letter text → n ≤ length text → front ≡ take n text → tail ≡ drop n text → is_padding tail ≡ true → b_text text ≡ decoded_of standard_no_pad front
b_front text front tail n e l f g p =
    let size : length (take (prefix_len is_letter text) text) ≡ prefix_len is_letter text = length-take-le (prefix_len is_letter text) text (omega (arith, e, l)) in
    let padded : is_padding (drop (prefix_len is_letter text) text) ≡ true = ap (λ k. is_padding (drop k text)) (sym e) ∙ (ap is_padding (sym g) ∙ p) in
    rw (size, padded) (ap (decoded_of standard_no_pad) (ap (λ k. take k text) (sym e) ∙ sym f))

pub b_found : (text front tail items : List ℕ) (n : ℕ) → n ≡ prefix_len is_letter text → n ≤ length text → front ≡ take n text → tail ≡ drop n text → is_padding tail ≡ true → decode_of standard_no_pad front ≡ Ok items → Some items ≡ b_text text
b_found text front tail items n e l f g p d = sym (b_front text front tail n e l f g p ∙ decoded_ok front items d)

pub b_refused : (text front tail : List ℕ) (n : ℕ) (error : DecodeError) → n ≡ prefix_len is_letter text → n ≤ length text → front ≡ take n text → tail ≡ drop n text → is_padding tail ≡ true → decode_of standard_no_pad front ≡ Err error → None ≡ b_text text
b_refused text front tail n error e l f g p d = sym (b_front text front tail n e l f g p ∙ decoded_err front error d)

-- a step of the loop over a text in Q
after_out : (out out1 : List ℕ) (byte : ℕ) (rest : Option (List ℕ)) → out1 ≡ out ++ byte ∷ [] → option_map (λ bytes. out1 ++ bytes) rest ≡ option_map (λ bytes. out ++ bytes) (put_before byte rest)
after_out out out1 byte None p = refl
after_out out out1 byte (Some bytes) p = ap Some (ap (λ xs. xs ++ bytes) p ∙ append_assoc out (byte ∷ []) bytes)

pub q_step : (text rest following out out1 : List ℕ) (byte : ℕ) → q_text rest ≡ put_before byte (q_text following) → out1 ≡ out ++ byte ∷ [] → option_map (λ bytes. out ++ bytes) (q_text rest) ≡ q_text text → option_map (λ bytes. out1 ++ bytes) (q_text following) ≡ q_text text
q_step text rest following out out1 byte e p h = after_out out out1 byte (q_text following) p ∙ (ap (option_map (λ bytes. out ++ bytes)) (sym e) ∙ h)
