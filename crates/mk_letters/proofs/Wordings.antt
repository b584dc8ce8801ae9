-- Letters whose fields are in a form.
use Rattle.std.proofs.Common.{◌≡◌, if◌then◌else◌, Bool, true, false, Option, None, Some, ap}
use Rattle.mk_line.specs.declared.cutting.Ending.{Ending}
use Rattle.mk_mail.specs.Letters.{PlainLetters}
use Rattle.mk_letters.specs.Asked.{PlainWords, asked, have_colons, letters_asked}
use Rattle.mk_letters.specs.RoundsAsked.{letters_if, letters_in}
use Rattle.mk_letters.specs.declared.forms.FieldForm.{FieldForm}

-- letters that were asked for, with the fields that they add in a form
pub asked_in_form : (form : FieldForm) (eol : Ending) (w : PlainWords) (a b : PlainLetters) → Some a ≡ asked w → (a ≡ letters_asked w → b ≡ letters_in form eol w) → Some b ≡ letters_if form eol w
asked_in_form form eol w a b e f = go (have_colons w) e
  where
    inner : PlainLetters → Option PlainLetters → PlainLetters
    inner other None = other
    inner other (Some l) = l

    go : (have : Bool) → Some a ≡ (if have then Some (letters_asked w) else None) → Some b ≡ (if have then Some (letters_in form eol w) else None)
    go true h = ap (λ l. Some l) (f (ap (inner a) h))
    go false h = cc
