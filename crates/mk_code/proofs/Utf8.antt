-- Bytes that are no text.
use Rattle.std.proofs.Common.{◌≡◌, ℕ, false, List, refl, inl, inr}
use Rattle.std.specs.Str.{IsUtf8, is_utf8}
use Rattle.std.proofs.lemmas.Bool.{cases_Bool}
use Rattle.std.proofs.lemmas.Str.{IsUtf8-from_is_utf8}

pub no_text : (bytes : List ℕ) → (IsUtf8 bytes → ⊥) → false ≡ is_utf8 bytes
no_text bytes h = elim (cases_Bool (is_utf8 bytes)) [ inl t ↦ absurd (h (IsUtf8-from_is_utf8 bytes t)) | inr f ↦ rw f refl ]
