-- Contents that are given piece by piece (own).
use Rattle.std.specs.Prelude.{◌≡◌, ◌++◌, ℕ, Bool, true, false, List, []}
use Rattle.mk_head.specs.declared.encodings.Encoding.{Encoding}
use Rattle.mk_head.specs.declared.encodings.Encoding.TheVariants.{Identity}
use Rattle.mk_code.specs.Contents.{IsContent}

-- a content of which some was given: the last piece, and the text that is left, with its transfer encoding
pub record Given : Type 0 where
  pub piece : List ℕ
  pub encoding : Encoding
  pub text : List ℕ

-- the bytes that are still to come (RFC 2045, 6)
abbrev pub IsLeft : Given → List ℕ → Type 0
IsLeft given bytes = IsContent given.encoding given.text bytes

-- a content that is these bytes, of which nothing was given
abbrev pub whole_content : List ℕ → Given
whole_content bytes = record { piece = []; encoding = Identity; text = bytes }

-- a piece more was given of these bytes, if there are any
abbrev pub GivesPiece : Bool → List ℕ → Given → Type 0
GivesPiece true bytes after = (more : List ℕ) × (bytes ≡ after.piece ++ more) × IsLeft after more
GivesPiece false bytes after = bytes ≡ []
