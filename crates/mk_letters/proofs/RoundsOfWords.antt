-- Words of the command line put into rounds, and what rounds of words ask for.
use Rattle.std.proofs.Common.{◌≡◌, ◌++◌, if◌then◌else◌, ℕ, Bool, true, false, Option, None, Some, List, [], ◌∷◌, zero, suc, ◌+◌, ◌<◌, length, take, drop, get_or, arith, refl, ap, sym, ◌∙◌, subst, append_assoc}
use Rattle.std.specs.List.{AllZip}
use Rattle.mk_line.specs.declared.cutting.Ending.{Ending}
use Rattle.mk_line.specs.declared.cutting.Ending.TheVariants.{Crlf, Lf}
use Rattle.mk_mail.specs.Letters.{PlainLetters}
use Rattle.mk_letters.specs.declared.forms.FieldForm.{FieldForm}
use Rattle.mk_letters.specs.declared.words.Letter.{Letter}
use Rattle.mk_letters.specs.declared.words.Letter.TheVariants.{Prepend, Drops, Keeps, KeepsOnly, Rename, AddIf, Add, Prefixed, Only, First, Last, Take, Whole, Sub}
use Rattle.mk_letters.specs.declared.words.RuleKind.{RuleKind}
use Rattle.mk_letters.specs.Asked.{PlainWords, asked, have_colons, letters_asked}
use Rattle.mk_letters.specs.RoundsAsked.{AreLettersAsked, PlainRoundWords, PlainWord, RuleRound, is_given, letters_if, letters_in, no_words, round_begun, rounds_from, rule_kind, with_word, words_begun}

-- the rest of a list from an index on
pub raw_next : {X : Type 0} (i : ℕ) (xs : List X) (x : X) → i < length xs → x ≡ get_or xs i x → drop i xs ≡ x ∷ drop (i + 1) xs
raw_next i [] x h e = absurd (omega (arith, h))
raw_next zero (y ∷ ys) x h e = ap (λ z. z ∷ ys) (sym e)
raw_next (suc i) (y ∷ ys) x h e = let n : suc (i + 1) ≡ suc i + 1 = omega arith in raw_next i ys x (omega (arith, h)) e ∙ ap (λ k. x ∷ drop k (y ∷ ys)) n

-- a word that is a rule
pub word_rule : (done all : List PlainRoundWords) (o : Option PlainWords) (x : PlainWord) (kind : RuleKind) (rest : List PlainWord) → done ++ rounds_from o (x ∷ rest) ≡ all → rule_kind x ≡ Some kind
    → ((done ++ round_begun o) ++ RuleRound kind x.word ∷ []) ++ rounds_from None rest ≡ all
word_rule done all o x kind rest h k =
    append_assoc (done ++ round_begun o) (RuleRound kind x.word ∷ []) (rounds_from None rest)
    ∙ (append_assoc done (round_begun o) (RuleRound kind x.word ∷ rounds_from None rest) ∙ (rw k at h))

-- a word more in the round of letters that has begun
pub word_on : (done all : List PlainRoundWords) (o : Option PlainWords) (x : PlainWord) (rest : List PlainWord) → done ++ rounds_from o (x ∷ rest) ≡ all → rule_kind x ≡ None → is_given x.letter (words_begun o) ≡ false
    → done ++ rounds_from (Some (with_word x (words_begun o))) rest ≡ all
word_on done all o x rest h k n = rw n at (rw k at h)

-- a word that begins another round
pub word_next : (done all : List PlainRoundWords) (o : Option PlainWords) (x : PlainWord) (rest : List PlainWord) → done ++ rounds_from o (x ∷ rest) ≡ all → rule_kind x ≡ None → is_given x.letter (words_begun o) ≡ true
    → (done ++ round_begun o) ++ rounds_from (Some (with_word x no_words)) rest ≡ all
word_next done all o x rest h k t = append_assoc done (round_begun o) (rounds_from (Some (with_word x no_words)) rest) ∙ (rw t at (rw k at h))

-- a round that hasn't begun has no letter
pub none_given : (letter : Letter) → is_given letter no_words ≡ false
none_given Prepend = refl
none_given Drops = refl
none_given Keeps = refl
none_given KeepsOnly = refl
none_given Rename = refl
none_given AddIf = refl
none_given Add = refl
none_given Prefixed = refl
none_given Only = refl
none_given First = refl
none_given Last = refl
none_given Take = refl
none_given Whole = refl
none_given Sub = refl

-- the letters for both endings are those of a round
pub letters_some : (form : FieldForm) (w : PlainWords) (lf crlf : PlainLetters) → Some lf ≡ letters_if form Lf w → Some crlf ≡ letters_if form Crlf w → AreLettersAsked form w lf crlf
letters_some form w lf crlf e f = go (have_colons w) refl e f
  where
    inner : PlainLetters → Option PlainLetters → PlainLetters
    inner other None = other
    inner other (Some x) = x

    go : (have : Bool) → have_colons w ≡ have → Some lf ≡ (if have then Some (letters_in form Lf w) else None) → Some crlf ≡ (if have then Some (letters_in form Crlf w) else None) → AreLettersAsked form w lf crlf
    go true t h k = record { colons = t; lf_is = ap (inner lf) h; crlf_is = ap (inner crlf) k }
    go false n h k = cc

pub letters_none : (form : FieldForm) (eol : Ending) (w : PlainWords) → None ≡ letters_if form eol w → have_colons w ≡ false
letters_none form eol w e = go (have_colons w) e
  where
    go : (have : Bool) → None ≡ (if have then Some (letters_in form eol w) else None) → have ≡ false
    go true h = cc
    go false h = refl

pub none_in_form : (form : FieldForm) (eol : Ending) (w : PlainWords) → None ≡ asked w → None ≡ letters_if form eol w
none_in_form form eol w e = go (have_colons w) e
  where
    go : (have : Bool) → None ≡ (if have then Some (letters_asked w) else None) → None ≡ (if have then Some (letters_in form eol w) else None)
    go true h = cc
    go false h = refl

-- one item more
take_on : {X : Type 0} (i : ℕ) (xs : List X) (x : X) → i < length xs → x ≡ get_or xs i x → take (i + 1) xs ≡ take i xs ++ x ∷ []
take_on i [] x h e = absurd (omega (arith, h))
take_on zero (y ∷ ys) x h e = ap (λ z. z ∷ []) (sym e)
take_on (suc i) (y ∷ ys) x h e = let n : suc i + 1 ≡ suc (i + 1) = omega arith in ap (λ k. take k (y ∷ ys)) n ∙ ap (λ zs. y ∷ zs) (take_on i ys x (omega (arith, h)) e)

zip_on : {A B : Type 0} (R : A → B → Type 0) (xs : List A) (ys : List B) (x : A) (y : B) → AllZip R xs ys → R x y → AllZip R (xs ++ x ∷ []) (ys ++ y ∷ [])
zip_on R [] [] x y h r = (r, tt)
zip_on R [] (b ∷ bs) x y h r = absurd h
zip_on R (a ∷ more) [] x y h r = absurd h
zip_on R (a ∷ more) (b ∷ bs) x y h r = (h.0, zip_on R more bs x y h.1 r)

pub asked_more : {A B : Type 0} (R : A → B → Type 0) (xs : List A) (old new : List B) (i : ℕ) (x : A) (y : B) → AllZip R (take i xs) old → new ≡ old ++ y ∷ [] → i < length xs → x ≡ get_or xs i x → R x y → AllZip R (take (i + 1) xs) new
asked_more R xs old new i x y h p lt is r = subst (λ ys. AllZip R (take (i + 1) xs) ys) (sym p) (subst (λ zs. AllZip R zs (old ++ y ∷ [])) (sym (take_on i xs x lt is)) (zip_on R (take i xs) old x y h r))
