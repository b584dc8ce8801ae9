-- Texts without the white space around them, as the library gives them.
use Rattle.std.proofs.Common.{◌≡◌, ◌∙◌, ◌<◌, ◌≤◌, ℕ, suc, zero, List, [], ◌∷◌, true, false, refl, sym, ap, inl, inr, drop, length, take, slice_index, arith}
use mathlib.Core.Bool.{true≢false}
use lib.ListN.{length-take}
use Rattle.std.proofs.lemmas.Bool.Decides.{leb_tells}
use Rattle.std.proofs.lemmas.List.{get_or_past}
use Rattle.std.proofs.lemmas.List.Sums.{prefix_len_is}
use Rattle.std.specs.Char.{is_ascii_whitespace}
use Rattle.std.specs.Str.{IsTrimAscii}
use Rattle.mk_reply.specs.SpaceAround.{before_space, without_space_after, without_space_around, without_space_before}

-- white space alone leaves nothing
all_space : (text : List ℕ) → ((i : ℕ) → i < length text → is_ascii_whitespace (slice_index text i) ≡ true) → without_space_after text ≡ []
all_space [] h = refl
all_space (b ∷ bs) h = rw (all_space bs (λ i o. h (suc i) (omega (arith, o)))) (rw (h 0 (omega arith)) refl)

-- bytes up to one that isn't white space stay
filled : (b : ℕ) (bs : List ℕ) (n : ℕ) → n ≤ length bs → (n ≡ 0 → is_ascii_whitespace b ≡ false) → before_space b (take n bs) ≡ b ∷ take n bs
filled b bs zero l h = rw (h refl) refl
filled b [] (suc n) l h = absurd (omega (arith, l))
filled b (c ∷ cs) (suc n) l h = refl

end_trimmed : (text : List ℕ) (n : ℕ) → n ≤ length text → ((i : ℕ) → n ≤ i → i < length text → is_ascii_whitespace (slice_index text i) ≡ true)
    → ((k : ℕ) → n ≡ suc k → is_ascii_whitespace (slice_index text k) ≡ false) → take n text ≡ without_space_after text
end_trimmed [] zero l space dark = refl
end_trimmed [] (suc n) l space dark = absurd (omega (arith, l))
end_trimmed (b ∷ bs) zero l space dark = sym (all_space (b ∷ bs) (λ i o. space i (omega arith) o))
end_trimmed (b ∷ bs) (suc n) l space dark =
    let rest : take n bs ≡ without_space_after bs = end_trimmed bs n (omega (arith, l)) (λ i o p. space (suc i) (omega (arith, o)) (omega (arith, p))) (λ k e. dark (suc k) (ap suc e)) in
    sym (filled b bs n (omega (arith, l)) (λ e. dark zero (ap suc e))) ∙ ap (before_space b) rest

-- what `trim_ascii` gives
pub space_trimmed : (text kept : List ℕ) → IsTrimAscii text kept → kept ≡ without_space_around text
space_trimmed text kept h =
    let front = h.0 in
    let within : front ≤ length text = elim (leb_tells front (length text)) [
      | inl le ↦ le.1
      | inr past ↦ absurd (true≢false (sym (h.2 (length text) past.1) ∙ ap is_ascii_whitespace (get_or_past text (length text) 0 (omega arith))))
    ] in
    let start : drop front text ≡ without_space_before text = ap (λ n. drop n text) (sym (prefix_len_is is_ascii_whitespace text front 0 within h.2 h.3)) in
    let fits : length kept ≤ length (drop front text) = omega (arith, ap length h.1, length-take (length kept) (drop front text)) in
    let dark : (k : ℕ) → length kept ≡ suc k → is_ascii_whitespace (slice_index (drop front text) k) ≡ false =
    λ k e. ap (λ i. is_ascii_whitespace (slice_index (drop front text) i)) (omega (arith, e)) ∙ h.5 (omega (arith, e)) in
    h.1 ∙ (end_trimmed (drop front text) (length kept) fits h.4 dark ∙ ap without_space_after start)
