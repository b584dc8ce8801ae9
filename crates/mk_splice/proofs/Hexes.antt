-- A text's digest is 64 lower case hexadecimal digits.
use Rattle.std.proofs.Common.{◌≡◌, ◌/◌, ◌%◌, ◌<◌, ◌++◌, ℕ, zero, suc, true, List, [], ◌∷◌, refl, length, slice_index, arith}
use Rattle.std.specs.Int.{to_be_bytes}
use Rattle.std.specs.Int.{w32}
use Rattle.std.proofs.lemmas.Bool.{agree_below_at}
use Rattle.sha2.specs.Sha256.{sha256, digest_bytes, final_hash, initial_hash_256}
use Rattle.sha2.proofs.Facts256.{length-sha256}
use Rattle.hex.specs.Hex.{encode_lower, encode_with, lower_digits}
use Rattle.hex.proofs.HexLemmas.{length-encode_with}
use Rattle.mk_splice.specs.declared.reading.Version.TheVariants.{Two}
use Rattle.mk_splice.specs.Readers.{AllGood}
use Rattle.mk_splice.specs.Grammar.{is_hex, IsDigest}
use Rattle.mk_splice.specs.Journals.{digest_of}

-- each of a list
abbrev pub Each : {A : Type 0} → (A → Type 0) → List A → Type 0
Each G [] = Unit {0}
Each G (x ∷ xs) = G x × Each G xs

pub all_good : {A : Type 0} (G : A → Type 0) (n : ℕ) (xs : List A) → Each G xs → length xs ≡ n → AllGood G n xs
all_good G zero [] g h = tt
all_good G zero (x ∷ xs) g h = absurd (omega (arith, h))
all_good G (suc n) [] g h = absurd (omega (arith, h))
all_good G (suc n) (x ∷ xs) g h = (g.0, all_good G n xs g.1 (omega (arith, h)))

each_append : {A : Type 0} (G : A → Type 0) (xs ys : List A) → Each G xs → Each G ys → Each G (xs ++ ys)
each_append G [] ys g h = h
each_append G (x ∷ xs) ys g h = (g.0, each_append G xs ys g.1 h)

word_bytes : (n : ℕ) → Each (λ b. b < 256) (to_be_bytes w32 n)
word_bytes n = (omega arith, (omega arith, (omega arith, (omega arith, tt))))

digest_small : (h : List ℕ) (n : ℕ) → Each (λ b. b < 256) (digest_bytes h n)
unfolding digest_bytes
digest_small h zero = tt
digest_small h (suc n) = each_append (λ b. b < 256) (digest_bytes h n) (to_be_bytes w32 (slice_index h n)) (digest_small h n) (word_bytes (slice_index h n))

sha_small : (text : List ℕ) → Each (λ b. b < 256) (sha256 text)
unfolding sha256
sha_small text = digest_small (final_hash initial_hash_256 text) 8

hex_there : (d : ℕ) → d < 16 → is_hex (slice_index lower_digits d) ≡ true
hex_there d h = agree_below_at (λ k. is_hex (slice_index lower_digits k)) (λ k. true) 16 d refl h

hex_digits : (xs : List ℕ) → Each (λ b. b < 256) xs → Each (λ c. is_hex c ≡ true) (encode_lower xs)
unfolding encode_with
hex_digits [] g = tt
hex_digits (b ∷ rest) g = (hex_there (b / 16) (omega (arith, g.0)), (hex_there (b % 16) (omega arith), hex_digits rest g.1))

pub digest_good : (text : List ℕ) → IsDigest Two (digest_of text)
digest_good text = all_good (λ c. is_hex c ≡ true) 64 (digest_of text) (hex_digits (sha256 text) (sha_small text)) (omega (arith, length-encode_with lower_digits (sha256 text), length-sha256 text))
