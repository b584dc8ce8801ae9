-- The first boundary that is free: it is one, and it is free.
use Rattle.std.proofs.Common.{◌≡◌, ◌≤◌, ◌<◌, ◌+◌, ◌-◌, ◌^◌, ◌==◌, ◌++◌, if◌then◌else◌, ℕ, zero, suc, Bool, true, false, List, [], ◌∷◌, refl, ap, sym, ◌∙◌, subst, inl, inr, codes, decimal, length, length-append, nat_le, take, arith}
use Rattle.std.proofs.lemmas.Bool.{cases_Bool}
use Rattle.std.proofs.lemmas.Fmt.{length-decimal-le}
use Rattle.std.specs.Char.{is_ascii_digit}
use Rattle.std.specs.List.{flat_map, list_all, position_or_len, range_with_len}
use Rattle.mk_line.specs.Ascii.{space}
use Rattle.mk_line.proofs.Cuts.{append_nil}
use Rattle.mk_head.specs.Boundaries.{ends_in_space, is_boundary, is_boundary_byte}
use Rattle.mk_splice.specs.Grammar.{AreDigits}
use Rattle.mk_splice.specs.Journals.{digest_of}
use Rattle.mk_splice.proofs.Decimals.{is_decimal}
use Rattle.mk_splice.proofs.Hexes.{digest_good}
use Rattle.mk_build.specs.Building.{Attached}
use Rattle.mk_build.specs.Forwards.{Forwarded}
use Rattle.mk_pack.specs.FreeBoundary.{all_packed_with, are_clear, first_boundary, free_boundary, last_number, number_mark}
use Rattle.mk_pack.specs.OwnBoundary.{digits_kept, measured, measured_part, own_boundary}
use Rattle.mk_pack.proofs.OwnBoundaries.{AreHex, few, no_space, stands, taken}

-- the first that is free from a number on, or where none of so many is, the one after them
abbrev pub free_from : List ℕ → List Forwarded → ℕ → ℕ → List ℕ
free_from first messages zero n = first ++ number_mark n
free_from first messages (suc more) n = if are_clear (first ++ number_mark n) messages then (first ++ number_mark n) else free_from first messages more (suc n)

-- how many after a number aren't free
abbrev passed : List ℕ → List Forwarded → ℕ → ℕ → ℕ
passed first messages more n = position_or_len (λ k. are_clear (first ++ number_mark k) messages) (range_with_len n more)

-- it is that of the least number
from_least : (first : List ℕ) (messages : List Forwarded) (more n : ℕ) → free_from first messages more n ≡ (first ++ number_mark (n + passed first messages more n))
from_least first messages zero n = ap (λ k. first ++ number_mark k) (omega arith)
from_least first messages (suc more) n = elim (cases_Bool (are_clear (first ++ number_mark n) messages)) [
  | inl y ↦ rw y (ap (λ k. first ++ number_mark k) (omega arith))
  | inr h ↦
      let next : suc n ≡ n + 1 = omega arith in
      let later = ap (λ k. free_from first messages more k) next ∙ from_least first messages more (n + 1) in
      rw h (later ∙ ap (λ k. first ++ number_mark k) (omega arith))
]

pub free_found : (fields : List (List ℕ)) (parts : List Attached) (messages : List Forwarded) → free_from (first_boundary fields parts messages) messages last_number 0 ≡ free_boundary fields parts messages
unfolding free_boundary
free_found fields parts messages =
    let first = first_boundary fields parts messages in
    from_least first messages last_number 0 ∙ ap (λ k. first ++ number_mark k) (omega arith)

pub last_is : last_number ≡ 18446744073709551615
unfolding last_number
last_is = refl

-- without messages it is the boundary of the fields and the parts
at_once : (first : List ℕ) (more n : ℕ) → 0 < more → free_from first [] more n ≡ (first ++ number_mark n)
at_once first zero n h = absurd (omega (arith, h))
at_once first (suc more) n h = refl

pub free_own : (fields : List (List ℕ)) (parts : List Attached) → free_boundary fields parts [] ≡ own_boundary fields parts
free_own fields parts =
    sym (free_found fields parts [])
    ∙ (at_once (first_boundary fields parts []) last_number 0 (omega (arith, last_is))
    ∙ (append_nil (first_boundary fields parts [])
    ∙ ap (λ t. codes "=_" ++ take digits_kept (digest_of (flat_map measured fields ++ t))) (append_nil (flat_map measured_part parts))))

-- one step of the search
pub search_on : (first : List ℕ) (messages : List Forwarded) (n : ℕ) (goal_text : List ℕ) → n < last_number → are_clear (first ++ number_mark n) messages ≡ false → free_from first messages (last_number - n) n ≡ goal_text → free_from first messages (last_number - (n + 1)) (n + 1) ≡ goal_text
search_on first messages n goal_text h f e =
    let less : last_number - n ≡ suc (last_number - (n + 1)) = omega (arith, h) in
    let next : n + 1 ≡ suc n = omega arith in
    ap (free_from first messages (last_number - (n + 1))) next
    ∙ (past (last_number - (n + 1)) (are_clear (first ++ number_mark n) messages) f ∙ (ap (λ m. free_from first messages m n) (sym less) ∙ e))
  where
    past : (m : ℕ) (t : Bool) → t ≡ false → free_from first messages m (suc n) ≡ (if t then (first ++ number_mark n) else free_from first messages m (suc n))
    past m t f = rw f refl

pub search_ends : (first : List ℕ) (messages : List Forwarded) (n : ℕ) (goal_text : List ℕ) → n < last_number → are_clear (first ++ number_mark n) messages ≡ true → free_from first messages (last_number - n) n ≡ goal_text → (first ++ number_mark n) ≡ goal_text
search_ends first messages n goal_text h t e =
    let less : last_number - n ≡ suc (last_number - (n + 1)) = omega (arith, h) in
    found (last_number - (n + 1)) (are_clear (first ++ number_mark n) messages) t ∙ (ap (λ m. free_from first messages m n) (sym less) ∙ e)
  where
    found : (m : ℕ) (u : Bool) → u ≡ true → (first ++ number_mark n) ≡ (if u then (first ++ number_mark n) else free_from first messages m (suc n))
    found m u t = rw t refl

pub search_last : (first : List ℕ) (messages : List Forwarded) (n : ℕ) (goal_text : List ℕ) → n ≡ last_number → free_from first messages (last_number - n) n ≡ goal_text → (first ++ number_mark last_number) ≡ goal_text
search_last first messages n goal_text is e =
    let none : last_number - n ≡ 0 = omega (arith, is) in
    ap (λ n. first ++ number_mark n) (sym is) ∙ (ap (λ m. free_from first messages m n) (sym none) ∙ e)

pub free_is : (fields : List (List ℕ)) (parts : List Attached) (messages : List Forwarded) (first : List ℕ) → first ≡ first_boundary fields parts messages → free_from first messages last_number 0 ≡ free_boundary fields parts messages
free_is fields parts messages first e = ap (λ f. free_from f messages last_number 0) e ∙ free_found fields parts messages

either : (P : List ℕ → Type 0) (t : Bool) (x y : List ℕ) → P x → P y → P (if t then x else y)
either P true x y p q = p
either P false x y p q = q

-- what holds of each that is tried holds of the one that is found
found_by : (P : List ℕ → Type 0) (first : List ℕ) (messages : List Forwarded) (more n : ℕ) → ((k : ℕ) → k ≤ n + more → P (first ++ number_mark k)) → P (free_from first messages more n)
found_by P first messages zero n h = h n (omega arith)
found_by P first messages (suc more) n h =
    either P (are_clear (first ++ number_mark n) messages) (first ++ number_mark n) (free_from first messages more (suc n)) (h n (omega arith)) (found_by P first messages more (suc n) (λ k l. h k (omega (arith, l))))

-- bytes of a boundary, none a space
abbrev ArePlain : List ℕ → Type 0
ArePlain [] = Unit {0}
ArePlain (c ∷ cs) = (is_boundary_byte c ≡ true) × ((c == space) ≡ false) × ArePlain cs

plain_join : (xs ys : List ℕ) → ArePlain xs → ArePlain ys → ArePlain (xs ++ ys)
plain_join [] ys h k = k
plain_join (x ∷ xs) ys h k = (h.0, h.1, plain_join xs ys h.2 k)

plain_stand : (cs : List ℕ) → ArePlain cs → list_all is_boundary_byte cs ≡ true
plain_stand [] h = refl
plain_stand (c ∷ cs) h = rw (h.0, plain_stand cs h.2) refl

plain_end : (c : ℕ) (cs : List ℕ) → (c == space) ≡ false → ArePlain cs → ends_in_space (c ∷ cs) ≡ false
plain_end c [] n h = n
plain_end c (d ∷ cs) n h = plain_end d cs h.1 h.2

plain_hex : (cs : List ℕ) → AreHex cs → ArePlain cs
plain_hex [] h = tt
plain_hex (c ∷ cs) h = (stands c h.0, no_space c h.0, plain_hex cs h.1)

digit_stands : (c : ℕ) → is_ascii_digit c ≡ true → is_boundary_byte c ≡ true
digit_stands c h = grind (arith, h)

digit_is_no_space : (c : ℕ) → is_ascii_digit c ≡ true → (c == space) ≡ false
digit_is_no_space c h = grind (arith, h)

plain_digits : (n : ℕ) (cs : List ℕ) → AreDigits n cs → ArePlain cs
plain_digits n [] h = tt
plain_digits zero (c ∷ cs) h = absurd h
plain_digits (suc n) (c ∷ cs) h = (digit_stands c h.0, digit_is_no_space c h.0, plain_digits n cs h.1)

-- a printed number has digits, at most 20
pub decimal_digits : (n : ℕ) → n < 2 ^ 64 → AreDigits (length (decimal n)) (decimal n)
decimal_digits n h =
    let p = is_decimal n h in
    subst (λ ds. AreDigits (length ds) ds) (sym p.same) (p.digit, p.digits)

decimal_few : (n : ℕ) → n < 2 ^ 64 → length (decimal n) ≤ 20
decimal_few n h = length-decimal-le 20 n (omega arith) (omega (arith, h)) h

pub mark_is : (n : ℕ) → (n == 0) ≡ false → number_mark n ≡ 95 ∷ (decimal n ++ 95 ∷ [])
mark_is n f = rw f refl

mark_good : (n : ℕ) → n < 2 ^ 64 → ArePlain (number_mark n) × (length (number_mark n) ≤ 22)
mark_good n h =
    elim (cases_Bool (n == 0)) [
      | inl t ↦ rw t (tt, omega arith)
      | inr f ↦ rw f ((refl, refl, plain_join (decimal n) (95 ∷ []) (plain_digits (length (decimal n)) (decimal n) (decimal_digits n h)) (refl, refl, tt)), omega (arith, length-append (decimal n) (95 ∷ []), decimal_few n h))
    ]

short : (n : ℕ) → n ≤ 68 → nat_le (suc (suc n)) 70 ≡ true
short n h = grind (arith, h)

good_plain : (cs : List ℕ) → ArePlain cs → length cs ≤ 68 → is_boundary (61 ∷ 95 ∷ cs) ≡ true
good_plain cs h less = rw (plain_stand cs h, plain_end 95 cs refl h, short (length cs) less) refl

pub free_is_boundary : (fields : List (List ℕ)) (parts : List Attached) (messages : List Forwarded) → is_boundary (free_boundary fields parts messages) ≡ true
free_is_boundary fields parts messages =
    let all = all_packed_with fields parts messages in
    let digits = take 24 (digest_of all) in
    subst (λ b. is_boundary b ≡ true) (free_found fields parts messages)
    (found_by (λ b. is_boundary b ≡ true) (first_boundary fields parts messages) messages last_number 0 (λ k l.
    let m = mark_good k (omega (arith, l, last_is)) in
    good_plain (digits ++ number_mark k) (plain_join digits (number_mark k) (plain_hex digits (taken 24 64 (digest_of all) (digest_good all))) m.0) (omega (arith, length-append digits (number_mark k), few 24 (digest_of all), m.1))))
