-- Bytes that are a text, or none.
use Rattle.std.proofs.Common.{◌≡◌, ℕ, List, refl, inl, inr, None, Some}
use Rattle.std.specs.Str.{IsUtf8, is_utf8}
use Rattle.std.proofs.lemmas.Bool.{cases_Bool}
use Rattle.std.proofs.lemmas.Str.{IsUtf8-from_is_utf8, is_utf8-from_IsUtf8}
use Rattle.mk_code.specs.EncodedWords.{as_text}

pub is_text : (bytes : List ℕ) → IsUtf8 bytes → Some bytes ≡ as_text bytes
is_text bytes u = rw (is_utf8-from_IsUtf8 bytes u) refl

pub no_text : (bytes : List ℕ) → (IsUtf8 bytes → ⊥) → None ≡ as_text bytes
no_text bytes h = elim (cases_Bool (is_utf8 bytes)) [ inl t ↦ absurd (h (IsUtf8-from_is_utf8 bytes t)) | inr f ↦ rw f refl ]
