-- Percent signs, read one byte after another, and read back.
use Rattle.std.proofs.Common.{◌≡◌, ◌==◌, ◌&&◌, ◌<◌, ◌/◌, ◌%◌, ℕ, Bool, true, false, List, [], ◌∷◌, ◌++◌, refl, ap, sym, ◌∙◌, inl, inr, append_assoc, None, Some, nat_lt}
use Rattle.std.specs.Prelude.{Option}
use Rattle.std.specs.List.{list_all}
use Rattle.std.specs.Option.{option_map}
use Rattle.std.proofs.lemmas.Bool.{agree_below_at, cases_Bool, and_parts, eqb-true, ltb-true}
use Rattle.mk_code.specs.EncodedWords.{put_before}
use Rattle.mk_code.specs.QuotedPrintable.{hex_digit, is_hex_digit, pair_value}
use Rattle.mk_code.proofs.OutputCuts.{differs}
use Rattle.mk_param.specs.Percents.{is_attribute_byte, percent_decoded, percent_encoded, percent_sign}

-- a step of the loop over a text with percent signs
after_out : (out new : List ℕ) (byte : ℕ) (rest : Option (List ℕ)) → new ≡ out ++ byte ∷ [] → option_map (λ bytes. new ++ bytes) rest ≡ option_map (λ bytes. out ++ bytes) (put_before byte rest)
after_out out new byte None p = refl
after_out out new byte (Some bytes) p = ap Some (ap (λ xs. xs ++ bytes) p ∙ append_assoc out (byte ∷ []) bytes)

pub percent_step : (rest following out new : List ℕ) (byte : ℕ) (all : Option (List ℕ)) → percent_decoded rest ≡ put_before byte (percent_decoded following) → new ≡ out ++ byte ∷ [] → option_map (λ bytes. out ++ bytes) (percent_decoded rest) ≡ all
    → option_map (λ bytes. new ++ bytes) (percent_decoded following) ≡ all
percent_step rest following out new byte all e p h = after_out out new byte (percent_decoded following) p ∙ (ap (option_map (λ bytes. out ++ bytes)) (sym e) ∙ h)

-- a byte other than a percent sign stands for itself
decoded_other : (byte : ℕ) (bytes : List ℕ) → (byte == percent_sign) ≡ false → percent_decoded (byte ∷ bytes) ≡ put_before byte (percent_decoded bytes)
decoded_other byte [] h = rw h refl
decoded_other byte (next ∷ []) h = rw h refl
decoded_other byte (high ∷ low ∷ bytes) h = rw h refl

-- the digits of a byte give it back
abbrev is_written : ℕ → Bool
is_written byte = (is_hex_digit (hex_digit (byte / 16)) && is_hex_digit (hex_digit (byte % 16))) && (pair_value (hex_digit (byte / 16)) (hex_digit (byte % 16)) == byte)

written : (byte : ℕ) → byte < 256 → is_written byte ≡ true
written byte l = agree_below_at is_written (λ _. true) 256 byte refl l

encoded_back : (byte : ℕ) (bytes : List ℕ) → byte < 256 → percent_decoded (percent_sign ∷ hex_digit (byte / 16) ∷ hex_digit (byte % 16) ∷ bytes) ≡ put_before byte (percent_decoded bytes)
encoded_back byte bytes l =
    let both = and_parts (is_hex_digit (hex_digit (byte / 16)) && is_hex_digit (hex_digit (byte % 16))) (pair_value (hex_digit (byte / 16)) (hex_digit (byte % 16)) == byte) (written byte l) in
    rw both.0 (ap (λ b. put_before b (percent_decoded bytes)) (eqb-true (pair_value (hex_digit (byte / 16)) (hex_digit (byte % 16))) byte both.1))

-- bytes come back
pub percent_back : (bytes : List ℕ) → list_all (λ byte. nat_lt byte 256) bytes ≡ true → percent_decoded (percent_encoded bytes) ≡ Some bytes
percent_back [] h = refl
percent_back (b ∷ bs) h =
    let both = and_parts (nat_lt b 256) (list_all (λ byte. nat_lt byte 256) bs) h in
    let rest = percent_back bs both.1 in
    elim (cases_Bool (is_attribute_byte b)) [
      | inl t ↦ rw t (decoded_other b (percent_encoded bs) (differs is_attribute_byte b 37 refl t) ∙ ap (put_before b) rest)
      | inr f ↦ rw f (encoded_back b (percent_encoded bs) (ltb-true b 256 both.0) ∙ ap (put_before b) rest)
    ]
