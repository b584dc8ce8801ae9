-- A text in pieces of whole characters.
use Rattle.std.proofs.Common.{◌≡◌, ◌≢◌, ◌==◌, ◌<◌, ◌≤◌, ◌+◌, ◌-◌, ◌⊎◌, ℕ, suc, zero, true, false, List, [], ◌∷◌, ◌++◌, refl, ap, sym, ◌∙◌, length, take, drop, arith, inl, inr, append_assoc, append-nil, length-drop}
use Rattle.std.proofs.Math.Bool.{or-true}
use Rattle.std.proofs.Math.Numerals.{one-add}
use Rattle.std.specs.Prelude.{nat_le}
use Rattle.std.specs.List.{prefix_len, onto_first, join_by}
use Rattle.std.proofs.lemmas.Bool.{cases_Bool, lt-leb, le-leb, ne_eqb}
use Rattle.std.proofs.lemmas.List.{take_rest, drop-drop, length-take-le, drop_all, take_all}
use Rattle.mk_code.specs.EncodedWords.{is_continuation_byte, characters, front_onto, goes_in, piece_room, pieces, encoded_word}
use Rattle.mk_code.proofs.LogicalLines.{joined_next}

-- the first character: a byte and those that go on with it
character_front : (byte : ℕ) (rest : List ℕ) → characters (byte ∷ rest) ≡ (byte ∷ take (prefix_len is_continuation_byte rest) rest) ∷ characters (drop (prefix_len is_continuation_byte rest) rest)
character_front byte [] = refl
character_front byte (x ∷ xs) =
    elim (cases_Bool (is_continuation_byte x)) [
      | inl c ↦ rw (c, one-add (prefix_len is_continuation_byte xs)) (ap (onto_first byte) (character_front x xs))
      | inr f ↦ rw f refl
    ]

pub character_cut : (text : List ℕ) (n : ℕ) → 0 < length text → n ≡ prefix_len is_continuation_byte (take (length text - 1) (drop 1 text)) → characters text ≡ take (1 + n) text ∷ characters (drop (1 + n) text)
character_cut [] n o e = absurd (omega (arith, o))
character_cut (x ∷ xs) n o e =
    let same : n ≡ prefix_len is_continuation_byte xs = e ∙ ap (prefix_len is_continuation_byte) (take_rest (x ∷ xs) 1) in
    rw (one-add n) (rw same (character_front x xs))

-- there is always a piece
front_some : (front : List ℕ) (ps : List (List ℕ)) → front_onto front ps ≡ [] → ⊥
front_some front [] e = cc
front_some front (p ∷ ps) e = cc

pub pieces_some : (cs : List (List ℕ)) (used : ℕ) → pieces cs used ≢ []
pieces_some [] used e = cc
pieces_some (c ∷ cs) used e =
    elim (cases_Bool (goes_in used c)) [
      | inl t ↦ front_some c (pieces cs (used + length c)) (rw t at e)
      | inr f ↦ let bad : [] ∷ front_onto c (pieces cs (length c)) ≡ [] = (rw f at e) in absurd (cc bad)
    ]

front_nil : (ps : List (List ℕ)) → ps ≢ [] → front_onto [] ps ≡ ps
front_nil [] h = absurd (h refl)
front_nil (p ∷ ps) h = refl

pub pieces_begun : (text : List ℕ) → pieces (characters text) 0 ≡ front_onto [] (pieces (characters text) 0)
pieces_begun text = sym (front_nil (pieces (characters text) 0) (pieces_some (characters text) 0))

front_twice : (a b : List ℕ) (ps : List (List ℕ)) → front_onto a (front_onto b ps) ≡ front_onto (a ++ b) ps
front_twice a b [] = refl
front_twice a b (p ∷ ps) = ap (λ xs. xs ∷ ps) (sym (append_assoc a b p))

take_nil : (n : ℕ) → take {A = ℕ} n [] ≡ []
take_nil zero = refl
take_nil (suc n) = refl

take_both : (n m : ℕ) (xs : List ℕ) → take n xs ++ take m (drop n xs) ≡ take (n + m) xs
take_both zero m xs = ap (λ k. take k xs) (let same : m ≡ 0 + m = omega arith in same)
take_both (suc n) m [] = take_nil m ∙ sym (take_nil (suc n + m))
take_both (suc n) m (x ∷ xs) = rw (let more : suc n + m ≡ suc (n + m) = omega arith in more) (ap (λ ys. x ∷ ys) (take_both n m xs))

-- a character that goes in
goes_fit : (used : ℕ) (character : List ℕ) (width : ℕ) → length character ≡ width → (used ≡ 0) ⊎ (used + width ≤ piece_room) → goes_in used character ≡ true
goes_fit used c width l h = elim h [
  | inl z ↦ rw z refl
  | inr r ↦ let fits : nat_le (used + length c) piece_room ≡ true = le-leb (used + length c) piece_room (omega (arith, l, r)) in rw fits (or-true (used == 0))
]

-- a character that goes into no piece that has some already
goes_not : (used : ℕ) (character : List ℕ) (width : ℕ) → length character ≡ width → 0 < used → piece_room < used + width → goes_in used character ≡ false
goes_not used c width l o h =
    let some : (used == 0) ≡ false = ne_eqb used 0 (λ e. omega arith) in
    let tight : nat_le (used + length c) piece_room ≡ false = lt-leb (used + length c) piece_room (omega (arith, l, h)) in
    rw (some, tight) refl

pieces_in : (c : List ℕ) (cs : List (List ℕ)) (used width : ℕ) → length c ≡ width → goes_in used c ≡ true → pieces (c ∷ cs) used ≡ front_onto c (pieces cs (used + width))
pieces_in c cs used width l h = rw (h, l) refl

-- a step of the loop over the characters
pub piece_grows : (text rest : List ℕ) (size width : ℕ) → size ≤ length text → rest ≡ take (length text - size) (drop size text) → characters rest ≡ take width rest ∷ characters (drop width rest) → width ≤ length rest → (size ≡ 0) ⊎ (size + width ≤ piece_room)
    → pieces (characters text) 0 ≡ front_onto (take size text) (pieces (characters (drop size text)) size)
    → pieces (characters text) 0 ≡ front_onto (take (size + width) text) (pieces (characters (drop (size + width) text)) (size + width))
piece_grows text rest size width w e c l fits told =
    let same : rest ≡ drop size text = e ∙ take_rest text size in
    let long : length (take width rest) ≡ width = length-take-le width rest l in
    told
    ∙ (ap (λ xs. front_onto (take size text) (pieces (characters xs) size)) (sym same)
    ∙ (ap (λ cs. front_onto (take size text) (pieces cs size)) c
    ∙ (ap (front_onto (take size text)) (pieces_in (take width rest) (characters (drop width rest)) size width long (goes_fit size (take width rest) width long fits))
    ∙ (front_twice (take size text) (take width rest) (pieces (characters (drop width rest)) (size + width))
    ∙ (ap (λ xs. front_onto (take size text ++ take width xs) (pieces (characters (drop width xs)) (size + width))) same
    ∙ (ap (λ xs. front_onto xs (pieces (characters (drop width (drop size text))) (size + width))) (take_both size width text)
    ∙ ap (λ xs. front_onto (take (size + width) text) (pieces (characters xs) (size + width))) (drop-drop width size text)))))))

pub piece_within : (text rest : List ℕ) (size width : ℕ) → size ≤ length text → rest ≡ take (length text - size) (drop size text) → width ≤ length rest → size + width ≤ length text
piece_within text rest size width w e l = omega (arith, l, ap length (e ∙ take_rest text size), length-drop size text, w)

-- a piece is full
pub piece_full : (text rest : List ℕ) (size width : ℕ) → rest ≡ take (length text - size) (drop size text) → characters rest ≡ take width rest ∷ characters (drop width rest) → width ≤ length rest → 0 < size → piece_room < size + width
    → pieces (characters text) 0 ≡ front_onto (take size text) (pieces (characters (drop size text)) size)
    → pieces (characters text) 0 ≡ take size text ∷ pieces (characters (drop size text)) 0
piece_full text rest size width e c l o h told =
    let same : rest ≡ drop size text = e ∙ take_rest text size in
    let long : length (take width rest) ≡ width = length-take-le width rest l in
    let zero-width : 0 + width ≡ width = omega arith in
    let over : pieces (characters rest) size ≡ [] ∷ pieces (characters rest) 0 =
    ap (λ cs. pieces cs size) c
    ∙ (rw (goes_not size (take width rest) width long o h, long) refl
    ∙ (ap (λ k. [] ∷ front_onto (take width rest) (pieces (characters (drop width rest)) k)) (sym zero-width)
    ∙ (ap (λ ps. [] ∷ ps) (sym (pieces_in (take width rest) (characters (drop width rest)) 0 width long refl))
    ∙ ap (λ cs. [] ∷ pieces cs 0) (sym c)))) in
    told
    ∙ (ap (λ xs. front_onto (take size text) (pieces (characters xs) size)) (sym same)
    ∙ (ap (front_onto (take size text)) over
    ∙ (ap (λ xs. xs ∷ pieces (characters rest) 0) (append-nil (take size text))
    ∙ ap (λ xs. take size text ∷ pieces (characters xs) 0) same)))

-- the last piece
pub piece_last : (text : List ℕ) (size : ℕ) → length text ≤ size → pieces (characters text) 0 ≡ front_onto (take size text) (pieces (characters (drop size text)) size) → pieces (characters text) 0 ≡ text ∷ []
piece_last text size l told =
    told
    ∙ (ap (λ xs. front_onto (take size text) (pieces (characters xs) size)) (drop_all size text l)
    ∙ (ap (λ xs. xs ∷ []) (append-nil (take size text)) ∙ ap (λ xs. xs ∷ []) (take_all size text l)))

-- a step of the loop over the pieces
pub word_pushed : (sep fold rest piece following out out1 out2 : List ℕ) → fold ≡ sep → pieces (characters rest) 0 ≡ piece ∷ pieces (characters following) 0 → out1 ≡ out ++ encoded_word piece → out2 ≡ out1 ++ fold
    → out2 ++ join_by encoded_word sep (pieces (characters following) 0) ≡ out ++ join_by encoded_word sep (pieces (characters rest) 0)
word_pushed sep fold rest piece following out out1 out2 f e p q =
    ap (λ xs. xs ++ join_by encoded_word sep (pieces (characters following) 0)) (q ∙ (ap (λ xs. out1 ++ xs) f ∙ ap (λ xs. xs ++ sep) p))
    ∙ (append_assoc (out ++ encoded_word piece) sep (join_by encoded_word sep (pieces (characters following) 0))
    ∙ (append_assoc out (encoded_word piece) (sep ++ join_by encoded_word sep (pieces (characters following) 0))
    ∙ ap (λ xs. out ++ xs) (
    ap (λ xs. encoded_word piece ++ xs) (sym (joined_next encoded_word sep (pieces (characters following) 0) (pieces_some (characters following) 0)))
    ∙ ap (join_by encoded_word sep) (sym e))))
