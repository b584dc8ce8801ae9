-- Which texts need encoded words.
use Rattle.std.proofs.Common.{◌≡◌, ℕ, true, false, List, refl, inl, inr}
use Rattle.std.specs.Str.{IsUtf8, is_utf8}
use Rattle.std.proofs.lemmas.Bool.{cases_Bool}
use Rattle.std.proofs.lemmas.Str.{IsUtf8-from_is_utf8, is_utf8-from_IsUtf8}
use Rattle.mk_mail.specs.Prepended.{is_plain, needs_words}

pub needed : (value : List ℕ) → IsUtf8 value → is_plain value ≡ false → needs_words value ≡ true
needed value u p = rw (is_utf8-from_IsUtf8 value u, p) refl

pub plain_stays : (value : List ℕ) → IsUtf8 value → is_plain value ≡ true → needs_words value ≡ false
plain_stays value u p = rw (is_utf8-from_IsUtf8 value u, p) refl

pub bytes_stay : (value : List ℕ) → ¬ (IsUtf8 value) → needs_words value ≡ false
bytes_stay value n = elim (cases_Bool (is_utf8 value)) [ inl t ↦ absurd (n (IsUtf8-from_is_utf8 value t)) | inr f ↦ rw f refl ]
