-- Base64 that was cut off: the longest front of it that is whole (own).
use Rattle.std.specs.Prelude.{◌≡◌, ◌<◌, ◌≤◌, ℕ, List, length, take}
use Rattle.base64.specs.GeneralPurpose.{IsBytes, encode_of}
use Rattle.base64.specs.Engines.{standard_no_pad}
use Rattle.mk_code.specs.Base64Text.{letters}

-- the first so many letters of the text are the encoding of these bytes, without padding
abbrev pub IsFrontOf : ℕ → List ℕ → List ℕ → Type 0
IsFrontOf count text bytes = IsBytes bytes × (take count (letters text) ≡ encode_of standard_no_pad bytes)

-- the bytes are the content of the longest front of the text's letters that is whole base64: a letter that is left over, and
-- one with unused bits that aren't zero, shorten it
pub record IsLongestFront (text bytes : List ℕ) : Type 0 where
  pub count : ℕ
  pub within : count ≤ length (letters text)
  pub whole : IsFrontOf count text bytes
  pub longest : (n : ℕ) → count < n → n ≤ length (letters text) → (other : List ℕ) → ¬ IsFrontOf n text other
