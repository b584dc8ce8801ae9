-- Texts in pieces: what is put together is taken apart again.
use Rattle.std.proofs.Common.{◌≡◌, ◌≢◌, ◌==◌, ◌+◌, ◌-◌, ◌<◌, ◌≤◌, if◌then◌else◌, ℕ, zero, suc, true, false, nat_lt, drop, take, slice_index, List, [], ◌∷◌, ◌++◌, length, Some, None, Option, refl, sym, ap, ◌∙◌, inl, inr, arith}
use Rattle.std.proofs.lemmas.List.{length-drop, take_all}
use Rattle.std.proofs.lemmas.Bool.{cases_Bool, eq-eqb, ne_eqb, lt-ltb, le-ltb, ltb-true, ltb-false}
use Rattle.std.proofs.lemmas.Bool.Decides.{eqb_tells}
use Rattle.std.specs.List.{join_with_byte, onto_first, position_or_len}
use Rattle.std.specs.Option.{option_map, option_map_or}
use Rattle.std.specs.Char.{digit_value}
use Rattle.std.specs.Str.Parse.{AllDigits}
use Rattle.mk_script.specs.Paths.{parted}
use Rattle.mk_script.specs.Targets.{parted_last}
use Rattle.mk_script.specs.inner.Numbers.{pieces_of}
use Rattle.mk_script.proofs.NumberLemmas.{some_same, none_some}

-- a byte does not stand in a text
abbrev pub HoldsNo : ℕ → List ℕ → Type 0
HoldsNo separator [] = Unit {0}
HoldsNo separator (byte ∷ bytes) = (byte ≢ separator) × HoldsNo separator bytes

-- a byte stands in none of the texts
abbrev pub AllHoldNo : ℕ → List (List ℕ) → Type 0
AllHoldNo separator [] = Unit {0}
AllHoldNo separator (text ∷ texts) = HoldsNo separator text × AllHoldNo separator texts

pub HoldsNo-append : (separator : ℕ) (xs ys : List ℕ) → HoldsNo separator xs → HoldsNo separator ys → HoldsNo separator (xs ++ ys)
HoldsNo-append separator [] ys p q = q
HoldsNo-append separator (x ∷ xs) ys p q = (p.0, HoldsNo-append separator xs ys p.1 q)

pub HoldsNo-digits : (separator : ℕ) (digits : List ℕ) → 10 ≤ digit_value separator → AllDigits 10 digits → HoldsNo separator digits
HoldsNo-digits separator [] h all = tt
HoldsNo-digits separator (d ∷ ds) h all =
    (λ e. let same : digit_value d ≡ digit_value separator = ap digit_value e in let small : digit_value d < 10 = all.0 in absurd (omega arith), HoldsNo-digits separator ds h all.1)

pub HoldsNo-join : (separator dot : ℕ) (pieces : List (List ℕ)) → dot ≢ separator → AllHoldNo separator pieces → HoldsNo separator (join_with_byte dot pieces)
HoldsNo-join separator dot [] h all = tt
HoldsNo-join separator dot (piece ∷ []) h all = all.0
HoldsNo-join separator dot (piece ∷ next ∷ pieces) h all =
    HoldsNo-append separator piece (dot ∷ join_with_byte dot (next ∷ pieces)) all.0 (h, HoldsNo-join separator dot (next ∷ pieces) h all.1)

-- ---- the pieces between separators

pieces_of-append : (separator : ℕ) (piece rest : List ℕ) → HoldsNo separator piece
    → pieces_of separator (piece ++ (separator ∷ rest)) ≡ piece ∷ pieces_of separator rest
pieces_of-append separator [] rest h = let here : (separator == separator) ≡ true = eq-eqb separator separator refl in rw here refl
pieces_of-append separator (byte ∷ bytes) rest h =
    let other : (byte == separator) ≡ false = ne_eqb byte separator h.0 in
    rw other (ap (onto_first byte) (pieces_of-append separator bytes rest h.1))

pieces_of-one : (separator : ℕ) (piece : List ℕ) → HoldsNo separator piece → pieces_of separator piece ≡ piece ∷ []
pieces_of-one separator [] h = refl
pieces_of-one separator (byte ∷ bytes) h =
    let other : (byte == separator) ≡ false = ne_eqb byte separator h.0 in
    rw other (ap (onto_first byte) (pieces_of-one separator bytes h.1))

pub pieces_of-join : (separator : ℕ) (piece : List ℕ) (pieces : List (List ℕ)) → AllHoldNo separator (piece ∷ pieces)
    → pieces_of separator (join_with_byte separator (piece ∷ pieces)) ≡ piece ∷ pieces
pieces_of-join separator piece [] h = pieces_of-one separator piece h.0
pieces_of-join separator piece (next ∷ pieces) h =
    pieces_of-append separator piece (join_with_byte separator (next ∷ pieces)) h.0 ∙ ap (λ rest. piece ∷ rest) (pieces_of-join separator next pieces h.1)

join-onto_first : (separator byte : ℕ) (pieces : List (List ℕ)) → join_with_byte separator (onto_first byte pieces) ≡ byte ∷ join_with_byte separator pieces
join-onto_first separator byte [] = refl
join-onto_first separator byte (piece ∷ []) = refl
join-onto_first separator byte (piece ∷ next ∷ pieces) = refl

-- there is a first piece
abbrev pub HasFirst : List (List ℕ) → Type 0
HasFirst [] = ⊥
HasFirst (piece ∷ pieces) = Unit {0}

HasFirst-onto : (byte : ℕ) (pieces : List (List ℕ)) → HasFirst (onto_first byte pieces)
HasFirst-onto byte [] = tt
HasFirst-onto byte (piece ∷ pieces) = tt

pub pieces_of-some : (separator : ℕ) (text : List ℕ) → HasFirst (pieces_of separator text)
pieces_of-some separator [] = tt
pieces_of-some separator (byte ∷ bytes) = elim (cases_Bool (byte == separator)) [ inl t ↦ rw t tt | inr f ↦ rw f (HasFirst-onto byte (pieces_of separator bytes)) ]

join-empty : (separator : ℕ) (pieces : List (List ℕ)) → HasFirst pieces → join_with_byte separator ([] ∷ pieces) ≡ separator ∷ join_with_byte separator pieces
join-empty separator [] h = absurd h
join-empty separator (piece ∷ pieces) h = refl

pub join-pieces_of : (separator : ℕ) (text : List ℕ) → join_with_byte separator (pieces_of separator text) ≡ text
join-pieces_of separator [] = refl
join-pieces_of separator (byte ∷ bytes) = elim (eqb_tells byte separator) [
  | inl h ↦ rw h.0 (join-empty separator (pieces_of separator bytes) (pieces_of-some separator bytes) ∙ ap (λ rest. separator ∷ rest) (join-pieces_of separator bytes) ∙ ap (λ b. b ∷ bytes) (sym h.1))
  | inr h ↦ rw h.0 (join-onto_first separator byte (pieces_of separator bytes) ∙ ap (λ rest. byte ∷ rest) (join-pieces_of separator bytes))
]

-- ---- the text before the first separator, and that after it

parted-here : (separator : ℕ) (rest : List ℕ) → parted separator (separator ∷ rest) ≡ Some ([], rest)
parted-here separator rest =
    let here : (separator == separator) ≡ true = eq-eqb separator separator refl in
    let within : nat_lt 0 (suc (length rest)) ≡ true = lt-ltb 0 (suc (length rest)) (omega arith) in
    rw (here, within) refl

parted-later : (separator byte : ℕ) (bytes : List ℕ) → byte ≢ separator
    → parted separator (byte ∷ bytes) ≡ option_map (λ p. (byte ∷ p.0, p.1)) (parted separator bytes)
parted-later separator byte bytes h =
    let other : (byte == separator) ≡ false = ne_eqb byte separator h in
    let place = position_or_len (λ b. b == separator) bytes in
    let one : 1 + place ≡ suc place = omega arith in
    let more : suc place + 1 ≡ suc (place + 1) = omega arith in
    elim (cases_Bool (nat_lt place (length bytes))) [
      | inl t ↦
          let less = ltb-true _ _ t in
          let within : nat_lt (suc place) (suc (length bytes)) ≡ true = lt-ltb _ _ (omega arith) in
          rw (other, one, within, t, more) refl
      | inr f ↦
          let past = ltb-false _ _ f in
          let beyond : nat_lt (suc place) (suc (length bytes)) ≡ false = le-ltb _ _ (omega arith) in
          rw (other, one, beyond, f) refl
    ]

-- a text without the separator, and then the separator, are parted there
pub parted-append : (separator : ℕ) (front rest : List ℕ) → HoldsNo separator front → parted separator (front ++ (separator ∷ rest)) ≡ Some (front, rest)
parted-append separator [] rest h = parted-here separator rest
parted-append separator (byte ∷ bytes) rest h =
    parted-later separator byte (bytes ++ (separator ∷ rest)) h.0 ∙ ap (option_map (λ p. (byte ∷ p.0, p.1))) (parted-append separator bytes rest h.1)

joined-later : (separator byte : ℕ) (bytes : List ℕ) (p : List ℕ × List ℕ) (parts : Option (List ℕ × List ℕ))
    → ((q : List ℕ × List ℕ) → parts ≡ Some q → bytes ≡ q.0 ++ (separator ∷ q.1))
    → option_map (λ q. (byte ∷ q.0, q.1)) parts ≡ Some p → byte ∷ bytes ≡ p.0 ++ (separator ∷ p.1)
joined-later separator byte bytes p None joined e = absurd (none_some e)
joined-later separator byte bytes p (Some q) joined e =
    let same : (byte ∷ q.0, q.1) ≡ p = some_same e in
    ap (λ rest. byte ∷ rest) (joined q refl) ∙ ap (λ (r : List ℕ × List ℕ). r.0 ++ (separator ∷ r.1)) same

-- the parts of a text and the separator make it up
pub parted-joined : (separator : ℕ) (text : List ℕ) (p : List ℕ × List ℕ) → parted separator text ≡ Some p → text ≡ p.0 ++ (separator ∷ p.1)
parted-joined separator [] p e = absurd (none_some e)
parted-joined separator (byte ∷ bytes) p e = elim (eqb_tells byte separator) [
  | inl h ↦
      let same : ([], bytes) ≡ p = some_same (sym (ap (λ b. parted separator (b ∷ bytes)) h.1 ∙ parted-here separator bytes) ∙ e) in
      ap (λ b. b ∷ bytes) h.1 ∙ ap (λ (q : List ℕ × List ℕ). q.0 ++ (separator ∷ q.1)) same
  | inr h ↦ joined-later separator byte bytes p (parted separator bytes) (λ q. parted-joined separator bytes q) (sym (parted-later separator byte bytes h.1) ∙ e)
]

-- ---- the text before the last separator, and that after it

pub last-none : (separator : ℕ) (text : List ℕ) → HoldsNo separator text → parted_last separator text ≡ None
last-none separator [] h = refl
last-none separator (byte ∷ bytes) h =
    let other : (byte == separator) ≡ false = ne_eqb byte separator h.0 in
    rw (last-none separator bytes h.1, other) refl

pub last-append : (separator : ℕ) (front rest : List ℕ) → HoldsNo separator rest → parted_last separator (front ++ (separator ∷ rest)) ≡ Some (front, rest)
last-append separator [] rest h =
    let here : (separator == separator) ≡ true = eq-eqb separator separator refl in
    rw (last-none separator rest h, here) refl
last-append separator (byte ∷ bytes) rest h = rw (last-append separator bytes rest h) refl

last-later : (separator byte : ℕ) (bytes : List ℕ) (p : List ℕ × List ℕ) (parts : Option (List ℕ × List ℕ))
    → ((q : List ℕ × List ℕ) → parts ≡ Some q → bytes ≡ q.0 ++ (separator ∷ q.1))
    → option_map_or (λ q. Some (byte ∷ q.0, q.1)) parts (if byte == separator then Some ([], bytes) else None) ≡ Some p → byte ∷ bytes ≡ p.0 ++ (separator ∷ p.1)
last-later separator byte bytes p (Some q) joined e =
    let same : (byte ∷ q.0, q.1) ≡ p = some_same e in
    ap (λ rest. byte ∷ rest) (joined q refl) ∙ ap (λ (r : List ℕ × List ℕ). r.0 ++ (separator ∷ r.1)) same
last-later separator byte bytes p None joined e = elim (eqb_tells byte separator) [
  | inl h ↦
      let same : ([], bytes) ≡ p = some_same (rw h.0 at e) in
      ap (λ b. b ∷ bytes) h.1 ∙ ap (λ (q : List ℕ × List ℕ). q.0 ++ (separator ∷ q.1)) same
  | inr h ↦ absurd (none_some (rw h.0 at e))
]

pub last-joined : (separator : ℕ) (text : List ℕ) (p : List ℕ × List ℕ) → parted_last separator text ≡ Some p → text ≡ p.0 ++ (separator ∷ p.1)
last-joined separator [] p e = absurd (none_some e)
last-joined separator (byte ∷ bytes) p e = last-later separator byte bytes p (parted_last separator bytes) (λ q. last-joined separator bytes q) e

-- read from the end on, the separator that is found is the last
pub last-found : (separator : ℕ) (text : List ℕ) (end : ℕ) → end < length text → slice_index text end ≡ separator → parted_last separator (drop (suc end) text) ≡ None
    → parted_last separator text ≡ Some (take end text, drop (suc end) text)
last-found separator [] end small is none = absurd (omega arith)
last-found separator (byte ∷ bytes) zero small is none =
    let here : (byte == separator) ≡ true = eq-eqb byte separator is in
    rw (none, here) refl
last-found separator (byte ∷ bytes) (suc end) small is none =
    rw (last-found separator bytes end (omega arith) is none) refl

pub last-before : (separator : ℕ) (text : List ℕ) (end : ℕ) → end < length text → (slice_index text end == separator) ≡ false → parted_last separator (drop (suc end) text) ≡ None
    → parted_last separator (drop end text) ≡ None
last-before separator [] end small is none = absurd (omega arith)
last-before separator (byte ∷ bytes) zero small is none = rw (none, is) refl
last-before separator (byte ∷ bytes) (suc end) small is none = last-before separator bytes end (omega arith) is none

-- the parts as the code slices them
pub last-sliced : (separator : ℕ) (text : List ℕ) (end : ℕ) → end ≤ length text → 0 < end → slice_index text (end - 1) ≡ separator → parted_last separator (drop end text) ≡ None
    → Some (take (end - 1) text, take (length text - (end - 1 + 1)) (drop (end - 1 + 1) text)) ≡ parted_last separator text
last-sliced separator text zero fits some is none = absurd (omega arith)
last-sliced separator text (suc end) fits some is none =
    let less : suc end - 1 ≡ end = omega arith in
    let one : end + 1 ≡ suc end = omega arith in
    let found = last-found separator text end (omega arith) (ap (slice_index text) (sym less) ∙ is) none in
    let whole : take (length text - suc end) (drop (suc end) text) ≡ drop (suc end) text = take_all (length text - suc end) (drop (suc end) text) (omega (arith, length-drop (suc end) text)) in
    rw (less, one, whole) (sym found)
