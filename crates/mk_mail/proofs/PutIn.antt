-- A text put into a field leaves the field's own bytes.
use Rattle.mk_line.specs.declared.cutting.Ending.{Ending}
use Rattle.std.proofs.Common.{◌≡◌, ◌==◌, ◌≤◌, ◌+◌, ◌-◌, if◌then◌else◌, ℕ, Bool, true, false, Option, None, Some, List, [], ◌∷◌, suc, refl, ap, sym, ◌∙◌, inl, inr, arith, drop, length, take, unwrap_or}
use Rattle.std.specs.List.{list_all, prefix_len}
use Rattle.std.proofs.lemmas.Bool.{cases_Bool}
use Rattle.std.proofs.lemmas.List.{take-append-drop, take_all}
use Rattle.mk_line.specs.Ascii.{colon, is_blank}
use Rattle.mk_line.specs.Parting.{following}
use Rattle.mk_mail.specs.Prepended.{is_white, said_at, text_before, text_place, value_of, prepended, IsPutIn}

-- what follows the first byte of a kind is no longer than the whole
after_short : (field v : List ℕ) → following colon field ≡ Some v → length v ≤ length field
after_short [] v h = cc
after_short (byte ∷ bytes) v h =
    elim (cases_Bool (byte == colon)) [
      | inl t ↦ let e : Some bytes ≡ Some v = rw t at h in omega (arith, ap (λ o. length (unwrap_or o [])) e)
      | inr n ↦ let e : following colon bytes ≡ Some v = rw n at h in omega (arith, after_short bytes v e)
    ]

-- what follows the colon in a front of a field that goes past it
front_value : (field v : List ℕ) (m : ℕ) → following colon field ≡ Some v → m ≤ length v → following colon (take (length field - length v + m) field) ≡ Some (take m v)
front_value [] v m h l = cc
front_value (byte ∷ bytes) v m h l =
    elim (cases_Bool (byte == colon)) [
      | inl t ↦
          let e : Some bytes ≡ Some v = rw t at h in
          let same : bytes ≡ v = ap (λ o. unwrap_or o []) e in
          let n : length (byte ∷ bytes) - length v + m ≡ suc m = omega (arith, ap length same) in
          ap (λ k. following colon (take k (byte ∷ bytes))) n ∙ (rw t (ap (λ xs. Some (take m xs)) same))
      | inr n ↦
          let e : following colon bytes ≡ Some v = rw n at h in
          let k : length (byte ∷ bytes) - length v + m ≡ suc (length bytes - length v + m) = omega (arith, after_short bytes v e) in
          ap (λ k. following colon (take k (byte ∷ bytes))) k ∙ (rw n (front_value bytes v m e l))
    ]

front_passes : (p q : ℕ → Bool) (xs : List ℕ) → ((x : ℕ) → p x ≡ true → q x ≡ true) → list_all q (take (prefix_len p xs) xs) ≡ true
front_passes p q [] f = refl
front_passes p q (x ∷ xs) f =
    elim (cases_Bool (p x)) [
      | inl t ↦
          let k : 1 + prefix_len p xs ≡ suc (prefix_len p xs) = omega arith in
          rw t (ap (λ n. list_all q (take n (x ∷ xs))) k ∙ (rw (f x t) (front_passes p q xs f)))
      | inr n ↦ rw n refl
    ]

front_short : (p : ℕ → Bool) (xs : List ℕ) → prefix_len p xs ≤ length xs
front_short p [] = omega arith
front_short p (x ∷ xs) =
    elim (cases_Bool (p x)) [
      | inl t ↦ rw t (omega (arith, front_short p xs))
      | inr n ↦ rw n (omega arith)
    ]

blank_white : (byte : ℕ) → is_blank byte ≡ true → is_white byte ≡ true
blank_white byte h = rw h refl

either_white : (t : Bool) (v : List ℕ) → list_all is_white (take (if t then prefix_len is_blank v else prefix_len is_white v) v) ≡ true
either_white true v = front_passes is_blank is_white v blank_white
either_white false v = front_passes is_white is_white v (λ x h. h)

either_short : (t : Bool) (v : List ℕ) → (if t then prefix_len is_blank v else prefix_len is_white v) ≤ length v
either_short true v = front_short is_blank v
either_short false v = front_short is_white v

white_front : (field : List ℕ) (o : Option (List ℕ)) → following colon field ≡ o → list_all is_white (unwrap_or (following colon (take (length field - length (unwrap_or o []) + said_at (unwrap_or o [])) field)) []) ≡ true
white_front field (Some v) h =
    ap (λ w. list_all is_white (unwrap_or w [])) (front_value field v (said_at v) h (either_short (prefix_len is_white v == length v) v)) ∙ either_white (prefix_len is_white v == length v) v
white_front field None h =
    let n : length field - 0 + 0 ≡ length field = omega arith in
    ap (λ k. list_all is_white (value_of (take k field))) n
    ∙ (ap (λ xs. list_all is_white (value_of xs)) (take_all (length field) field (omega arith)) ∙ ap (λ o. list_all is_white (unwrap_or o [])) h)

pub put_in : (eol : Ending) (text field : List ℕ) → IsPutIn field (prepended eol text field)
put_in eol text field = record {
  front = take (text_place field) field;
  put = text_before eol text (drop (text_place field) field);
  back = drop (text_place field) field;
  was = sym (take-append-drop (text_place field) field);
  is = refl;
  white = white_front field (following colon field) refl;
}
