-- The names that templates give are those of files.
use Rattle.std.proofs.Common.{◌≡◌, ◌==◌, ◌<◌, ◌/◌, ◌%◌, ◌&&◌, ◌||◌, ◌++◌, ◌-◌, ◌^◌, ℕ, zero, suc, Bool, true, false, not, nat_le, nat_lt, List, [], ◌∷◌, refl, ap, sym, ◌∙◌, decimal, length, replicate, get_or, inl, inr, arith}
use Rattle.std.specs.Fmt.{digit_glyph, digits, digits_onto}
use Rattle.std.specs.List.{list_all}
use Rattle.std.proofs.lemmas.Bool.{agree_below_at, cases_Bool, ltb-true}
use Rattle.std.proofs.lemmas.Bool.Decides.{nat_tests}
use Rattle.std.proofs.lemmas.Fmt.{decimal_nonempty}
use Rattle.std.proofs.lemmas.List.Folds.{list_all-append}
use Rattle.mk_line.specs.Lines.{is_nil}
use Rattle.mk_view.specs.GivenNames.{is_safe}
use Rattle.mk_view.proofs.CleanTexts.{and_made, and_parts, fit_safe, is_fit, may_lead}
use Rattle.mk_split.specs.Templates.{Naming, template_name, is_template_byte, is_naming, leads_well, padded, zero_digit}

abbrev is_digit : ℕ → Bool
is_digit byte = nat_le 48 byte && nat_le byte 57

-- what a test that holds of all bytes of ASCII says of one
said_of : (p q : ℕ → Bool) (byte : ℕ) → (not (p byte) || q byte) ≡ true → p byte ≡ true → q byte ≡ true
said_of p q byte h y = ap (λ (t : Bool). not t || q byte) (sym y) ∙ h

digit_below : (byte : ℕ) → is_digit byte ≡ true → byte < 128
digit_below byte h = grind (arith, nat_tests, h)

digit_leads : (byte : ℕ) → is_digit byte ≡ true → may_lead byte ≡ true
digit_leads byte h = said_of is_digit may_lead byte (agree_below_at (λ b. not (is_digit b) || may_lead b) (λ _. true) 128 byte refl (digit_below byte h)) h

digit_named : (byte : ℕ) → is_digit byte ≡ true → is_template_byte byte ≡ true
digit_named byte h = said_of is_digit is_template_byte byte (agree_below_at (λ b. not (is_digit b) || is_template_byte b) (λ _. true) 128 byte refl (digit_below byte h)) h

named_below : (byte : ℕ) → is_template_byte byte ≡ true → byte < 127
named_below byte h =
    let range = and_parts (nat_le 32 byte && nat_lt byte 127) _ h in
    ltb-true byte 127 (and_parts (nat_le 32 byte) (nat_lt byte 127) range.0).1

named_fit : (byte : ℕ) → is_template_byte byte ≡ true → is_fit byte ≡ true
named_fit byte h = said_of is_template_byte is_fit byte (agree_below_at (λ b. not (is_template_byte b) || is_fit b) (λ _. true) 127 byte refl (named_below byte h)) h

all_weaker : (p q : ℕ → Bool) → ((byte : ℕ) → p byte ≡ true → q byte ≡ true) → (xs : List ℕ) → list_all p xs ≡ true → list_all q xs ≡ true
all_weaker p q f [] h = refl
all_weaker p q f (x ∷ xs) h =
    let both = and_parts (p x) (list_all p xs) h in
    and_made (q x) (list_all q xs) (f x both.0) (all_weaker p q f xs both.1)

-- the digits of a number

glyph_digit : (d : ℕ) → d < 10 → is_digit (digit_glyph false d) ≡ true
glyph_digit d l = agree_below_at (λ n. is_digit (digit_glyph false n)) (λ _. true) 10 d refl l

digits_all : (k n : ℕ) (acc : List ℕ) → list_all is_digit acc ≡ true → list_all is_digit (digits_onto k 10 false n acc) ≡ true
digits_all zero n acc h = h
digits_all (suc k) n acc h =
    let low : n % 10 < 10 = omega arith in
    let more = and_made (is_digit (digit_glyph false (n % 10))) (list_all is_digit acc) (glyph_digit (n % 10) low) h in
    elim (cases_Bool (n / 10 == 0)) [
      | inl y ↦ rw y more
      | inr u ↦ rw u (digits_all k (n / 10) (digit_glyph false (n % 10) ∷ acc) more)
    ]

decimal_all : (n : ℕ) → list_all is_digit (decimal n) ≡ true
unfolding digits
decimal_all n = digits_all 64 n [] refl

zeros_all : (k : ℕ) → list_all is_digit (replicate k zero_digit) ≡ true
zeros_all zero = refl
zeros_all (suc k) = zeros_all k

both_all : (p : ℕ → Bool) (xs ys : List ℕ) → list_all p xs ≡ true → list_all p ys ≡ true → list_all p (xs ++ ys) ≡ true
both_all p xs ys h k = list_all-append p xs ys ∙ and_made (list_all p xs) (list_all p ys) h k

-- they begin a name well

some_after : (k : ℕ) (xs : List ℕ) → 0 < length xs → 0 < length (replicate k zero_digit ++ xs)
some_after zero xs h = h
some_after (suc k) xs h = omega arith

begun : (xs ys : List ℕ) → 0 < length xs → list_all is_digit xs ≡ true → (is_nil (xs ++ ys) ≡ false) × (may_lead (get_or (xs ++ ys) 0 0) ≡ true)
begun [] ys n h = absurd (omega (arith, n))
begun (x ∷ xs) ys n h = (refl, digit_leads x (and_parts (is_digit x) (list_all is_digit xs) h).0)

begun_after : (front xs ys : List ℕ) → leads_well front ≡ true → 0 < length xs → list_all is_digit xs ≡ true → (is_nil (front ++ (xs ++ ys)) ≡ false) × (may_lead (get_or (front ++ (xs ++ ys)) 0 0) ≡ true)
begun_after [] xs ys l n h = begun xs ys n h
begun_after (b ∷ bs) xs ys l n h = (refl, l)

pub name_safe : (t : Naming) (number : ℕ) → is_naming t ≡ true → number < 2 ^ 64 → is_safe (template_name t number) ≡ true
name_safe t number h l =
    let parts = and_parts (leads_well t.front) (list_all is_template_byte t.front && list_all is_template_byte t.back) h in
    let around = and_parts (list_all is_template_byte t.front) (list_all is_template_byte t.back) parts.1 in
    let count = t.width - length (decimal number) in
    let digits_only = both_all is_digit (replicate count zero_digit) (decimal number) (zeros_all count) (decimal_all number) in
    let all = both_all is_template_byte t.front (padded t.width number ++ t.back) around.0
    (both_all is_template_byte (padded t.width number) t.back (all_weaker is_digit is_template_byte digit_named (padded t.width number) digits_only) around.1) in
    let first = begun_after t.front (padded t.width number) t.back parts.0 (some_after count (decimal number) (decimal_nonempty number l)) digits_only in
    fit_safe (template_name t number) first.0 first.1 (all_weaker is_template_byte is_fit named_fit (template_name t number) all)
