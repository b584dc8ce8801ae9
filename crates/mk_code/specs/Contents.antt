-- What a text under a transfer encoding stands for.
use Rattle.std.specs.Prelude.{◌≡◌, ℕ, List}
use Rattle.mk_head.specs.declared.encodings.Encoding.{Encoding}
use Rattle.mk_head.specs.declared.encodings.Encoding.TheVariants.{Identity, Qp, Base64, Other}
use Rattle.mk_code.specs.declared.decoding.CodeError.{CodeError}
use Rattle.mk_code.specs.declared.decoding.CodeError.TheVariants.{BadBase64, UnknownEncoding, Memory}
use Rattle.mk_code.specs.Base64Text.{IsBase64Of}
use Rattle.mk_code.specs.QuotedPrintable.{qp_decoded}

-- the bytes are the content of the text
abbrev pub IsContent : Encoding → List ℕ → List ℕ → Type 0
IsContent Identity text bytes = bytes ≡ text
IsContent Qp text bytes = bytes ≡ qp_decoded text
IsContent Base64 text bytes = IsBase64Of text bytes
IsContent Other text bytes = ⊥

-- a reason not to decode holds of the text
abbrev pub IsRefused : Encoding → List ℕ → CodeError → Type 0
IsRefused encoding text BadBase64 = (encoding ≡ Base64) × ((bytes : List ℕ) → ¬ IsBase64Of text bytes)
IsRefused encoding text UnknownEncoding = encoding ≡ Other
IsRefused encoding text Memory = Unit {0}
