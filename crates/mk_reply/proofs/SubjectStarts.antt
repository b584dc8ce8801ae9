-- Subjects without the `Re:`s at their starts.
use Rattle.std.proofs.Common.{◌≡◌, ◌==◌, ◌&&◌, ◌+◌, ℕ, suc, Bool, List, [], ◌∷◌, true, false, refl, inl, inr, drop, arith}
use Rattle.std.proofs.lemmas.Bool.{cases_Bool}
use Rattle.std.proofs.lemmas.Bool.Decides.{nat_tests}
use Rattle.std.specs.Char.{is_ascii_whitespace, to_ascii_lowercase}
use Rattle.std.specs.List.{prefix_len}
use Rattle.mk_reply.specs.Replies.{after_res, begins_with_re}
use Rattle.mk_reply.specs.SpaceAround.{without_space_before}

one_more : (n : ℕ) → 1 + n ≡ suc n
one_more n = omega arith

-- no `Re:` begins with white space
lowered_space : (byte : ℕ) → is_ascii_whitespace byte ≡ true → (to_ascii_lowercase byte == 114) ≡ false
lowered_space byte h = grind (arith, nat_tests)

spaced_re : (byte : ℕ) (bytes : List ℕ) → is_ascii_whitespace byte ≡ true → begins_with_re (byte ∷ bytes) ≡ false
spaced_re byte bytes h = rw (lowered_space byte h) refl

-- white space at the start is passed over
pub after_res-unspaced : (text : List ℕ) → after_res 0 (without_space_before text) ≡ after_res 0 text
after_res-unspaced [] = refl
after_res-unspaced (b ∷ bs) = elim (cases_Bool (is_ascii_whitespace b)) [
  | inl h ↦ rw (h, one_more (prefix_len is_ascii_whitespace bs)) (after_res-unspaced bs)
  | inr h ↦ rw h (rw h refl)
]

-- none is left after it
pub unspaced-once : (text : List ℕ) → prefix_len is_ascii_whitespace (without_space_before text) ≡ 0
unspaced-once [] = refl
unspaced-once (b ∷ bs) = elim (cases_Bool (is_ascii_whitespace b)) [
  | inl h ↦ rw (h, one_more (prefix_len is_ascii_whitespace bs)) (unspaced-once bs)
  | inr h ↦ rw h (rw h refl)
]

one_false : (x : Bool) → (x && false) ≡ true → ⊥
one_false true h = cc
one_false false h = cc

two_false : (x y : Bool) → (x && (y && false)) ≡ true → ⊥
two_false true y h = one_false y h
two_false false y h = cc

-- a `Re:` at the start is passed over
pub after_res-passed : (text : List ℕ) → begins_with_re text ≡ true → after_res 0 (drop 3 text) ≡ after_res 0 text
after_res-passed [] r = absurd cc
after_res-passed (a ∷ []) r = absurd (one_false _ r)
after_res-passed (a ∷ b ∷ []) r = absurd (two_false _ _ r)
after_res-passed (a ∷ b ∷ c ∷ rest) r = elim (cases_Bool (is_ascii_whitespace a)) [
  | inl h ↦ let none : begins_with_re (a ∷ b ∷ c ∷ rest) ≡ false = spaced_re a (b ∷ c ∷ rest) h in absurd cc
  | inr h ↦ rw (h, r) refl
]

-- anything else stays
pub after_res-stays : (text : List ℕ) → begins_with_re text ≡ false → prefix_len is_ascii_whitespace text ≡ 0 → after_res 0 text ≡ text
after_res-stays [] r t = refl
after_res-stays (b ∷ bs) r t = elim (cases_Bool (is_ascii_whitespace b)) [
  | inl h ↦ absurd (omega (arith, rw h at t))
  | inr h ↦ rw (h, r) refl
]
