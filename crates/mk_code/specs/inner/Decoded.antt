-- Base64 that is decoded block by block, as private contracts speak of it.
use Rattle.std.specs.Prelude.{◌≡◌, ◌++◌, ◌%◌, ℕ, List, length}
use Rattle.base64.specs.GeneralPurpose.{IsBytes, encode_of}
use Rattle.base64.specs.Engines.{standard_no_pad}
use Rattle.mk_code.specs.declared.decoding.CodeError.{CodeError}
use Rattle.mk_code.specs.declared.decoding.CodeError.TheVariants.{BadBase64, UnknownEncoding, Memory}

-- bytes were put after others, and letters are their encoding and what is left
pub record HasDecoded (old found new left : List ℕ) : Type 0 where
  pub bytes : List ℕ
  pub are_bytes : IsBytes bytes
  pub text : new ≡ old ++ bytes
  pub letters : found ≡ encode_of standard_no_pad bytes ++ left

-- letters are the encoding of no bytes
abbrev pub EncodesNothing : List ℕ → Type 0
EncodesNothing found = (bytes : List ℕ) → IsBytes bytes → found ≡ encode_of standard_no_pad bytes → ⊥

-- why letters weren't decoded
abbrev pub EncodesNone : List ℕ → CodeError → Type 0
EncodesNone found BadBase64 = EncodesNothing found
EncodesNone found UnknownEncoding = ⊥
EncodesNone found Memory = Unit {0}

-- whole groups of four letters at the start are the encoding of no bytes
pub record HasBadGroups (found : List ℕ) : Type 0 where
  pub front : List ℕ
  pub following : List ℕ
  pub parts : found ≡ front ++ following
  pub grouped : length front % 4 ≡ 0
  pub none : EncodesNothing front

-- why the whole groups of letters weren't decoded
abbrev pub IsUngrouped : List ℕ → CodeError → Type 0
IsUngrouped found BadBase64 = HasBadGroups found
IsUngrouped found UnknownEncoding = ⊥
IsUngrouped found Memory = Unit {0}
