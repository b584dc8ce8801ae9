-- Texts of clean characters, in ASCII and beyond.
use Rattle.std.proofs.Common.{◌≡◌, ◌==◌, ◌<◌, ◌≤◌, ◌-◌, ◌&&◌, ◌||◌, ◌++◌, if◌then◌else◌, ℕ, zero, suc, Bool, true, false, not, List, [], ◌∷◌, refl, ap, sym, ◌∙◌, map, take, drop, length, get_or, inl, inr, arith}
use Rattle.std.specs.Prelude.{nat_le, nat_lt}
use Rattle.std.specs.Char.{len_utf8, is_control}
use Rattle.std.specs.Char.Unicode.Alphabetic.{is_alphabetic, alphabetic_ranges}
use Rattle.std.specs.Char.Unicode.Numeric.{is_numeric, numeric_ranges}
use Rattle.std.specs.Char.Unicode.Rows.{in_ranges}
use Rattle.std.specs.List.{after_last, list_all, list_any}
use Rattle.std.specs.Str.{chars, is_utf8, IsAscii, IsUtf8, NonePass}
use Rattle.std.proofs.lemmas.Bool.{agree_below_at, cases_Bool, eq-eqb, ltb-false, ltb-true, ne_eqb}
use Rattle.std.proofs.lemmas.Bool.Decides.{nat_tests}
use Rattle.std.proofs.lemmas.List.Folds.{list_all-append}
use Rattle.std.proofs.lemmas.Str.{IsUtf8-append, IsUtf8-from_ascii, IsUtf8-from_is_utf8, NoCharPasses-byte, char_from_byte, chars-IsAscii, chars-append, chars-encodes, is_utf8-from_IsUtf8, length-le-encodes, scalars-chars}
use lib.Utf8.{scalar, scalars, encodes}
use Rattle.mk_line.specs.Ascii.{backslash, full_stop, hyphen, slash, underscore}
use Rattle.mk_line.specs.Lines.{is_nil}
use Rattle.mk_view.specs.FileNames.{is_divider, leading, led}
use Rattle.mk_view.specs.TextNames.{cleaned_text, fitting, is_plain_character, kept_characters, plain_character}
use Rattle.mk_view.specs.GivenNames.{has_no_slash, is_clean, is_clean_text, is_safe, turns}

pub and_parts : (a b : Bool) → (a && b) ≡ true → (a ≡ true) × (b ≡ true)
and_parts true b h = (refl, h)
and_parts false b h = absurd (cc)

pub and_made : (a b : Bool) → a ≡ true → b ≡ true → (a && b) ≡ true
and_made true b h k = k
and_made false b h k = h

-- a test that all items pass, through what is done to lists
all_weaker : (p q : ℕ → Bool) → ((x : ℕ) → p x ≡ true → q x ≡ true) → (xs : List ℕ) → list_all p xs ≡ true → list_all q xs ≡ true
all_weaker p q f [] h = refl
all_weaker p q f (x ∷ xs) h =
    let both = and_parts (p x) (list_all p xs) h in
    and_made (q x) (list_all q xs) (f x both.0) (all_weaker p q f xs both.1)

pub taken_all : (p : ℕ → Bool) (n : ℕ) (xs : List ℕ) → list_all p xs ≡ true → list_all p (take n xs) ≡ true
taken_all p zero xs h = refl
taken_all p (suc n) [] h = refl
taken_all p (suc n) (x ∷ xs) h =
    let both = and_parts (p x) (list_all p xs) h in
    and_made (p x) (list_all p (take n xs)) both.0 (taken_all p n xs both.1)

pub mapped_all : (p : ℕ → Bool) (f : ℕ → ℕ) → ((x : ℕ) → p (f x) ≡ true) → (xs : List ℕ) → list_all p (map f xs) ≡ true
mapped_all p f h [] = refl
mapped_all p f h (x ∷ xs) = and_made (p (f x)) (list_all p (map f xs)) (h x) (mapped_all p f h xs)

chosen : (p : ℕ → Bool) (b : Bool) (x y : ℕ) → p x ≡ true → p y ≡ true → p (if b then x else y) ≡ true
chosen p true x y h k = h
chosen p false x y h k = k

pub led_all : (p : ℕ → Bool) (xs : List ℕ) → p underscore ≡ true → list_all p xs ≡ true → list_all p (led xs) ≡ true
led_all p [] u h = refl
led_all p (x ∷ xs) u h =
    let both = and_parts (p x) (list_all p xs) h in
    and_made (p (leading x)) (list_all p xs) (chosen p (x == full_stop || x == hyphen) underscore x u both.0) both.1

not_true : (b : Bool) → not b ≡ true → b ≡ false
not_true true h = absurd (cc)
not_true false h = refl

not_first : (a b : Bool) → not (a || b) ≡ true → not a ≡ true
not_first true b h = h
not_first false b h = refl

neither : (a b : Bool) → (a || b) ≡ false → (not a && not b) ≡ true
neither true b h = absurd (cc)
neither false true h = absurd (cc)
neither false false h = refl

-- what a name may begin with
abbrev pub may_lead : ℕ → Bool
may_lead byte = not (byte == full_stop) && not (byte == hyphen)

pub leading_allowed : (byte : ℕ) → may_lead (leading byte) ≡ true
leading_allowed byte = elim (cases_Bool (byte == full_stop || byte == hyphen)) [ inl y ↦ rw y refl | inr n ↦ rw n (neither (byte == full_stop) (byte == hyphen) n) ]

-- bytes of ASCII that are clean
abbrev pub is_fit : ℕ → Bool
is_fit byte = nat_lt byte 128 && is_clean byte

abbrev pub are_fit : List ℕ → Bool
are_fit bytes = list_all is_fit bytes

pub fit_both : (xs ys : List ℕ) → are_fit xs ≡ true → are_fit ys ≡ true → are_fit (xs ++ ys) ≡ true
fit_both xs ys h k = list_all-append is_fit xs ys ∙ and_made (are_fit xs) (are_fit ys) h k

pub slashless_both : (xs ys : List ℕ) → has_no_slash xs ≡ true → has_no_slash ys ≡ true → has_no_slash (xs ++ ys) ≡ true
slashless_both xs ys h k = list_all-append (λ byte. not (byte == slash)) xs ys ∙ and_made (has_no_slash xs) (has_no_slash ys) h k

clean_slashless : (byte : ℕ) → is_clean byte ≡ true → not (byte == slash) ≡ true
clean_slashless byte h =
    let first = and_parts (not (byte == slash || byte == backslash)) (not (is_control byte) && not (list_any (λ turn. turn == byte) turns)) h in
    not_first (byte == slash) (byte == backslash) first.0

ascii_at : (bytes : List ℕ) → are_fit bytes ≡ true → (i : ℕ) → get_or bytes i 0 < 128
ascii_at [] h i = omega arith
ascii_at (b ∷ bs) h zero = ltb-true b 128 (and_parts (nat_lt b 128) (is_clean b) (and_parts (is_fit b) (are_fit bs) h).0).0
ascii_at (b ∷ bs) h (suc i) = ascii_at bs (and_parts (is_fit b) (are_fit bs) h).1 i

clean_made : (bytes : List ℕ) → IsUtf8 bytes → list_all is_clean (chars bytes) ≡ true → is_clean_text bytes ≡ true
clean_made bytes u h = and_made (is_utf8 bytes) (list_all is_clean (chars bytes)) (is_utf8-from_IsUtf8 bytes u) h

pub fit_well : (bytes : List ℕ) → are_fit bytes ≡ true → (has_no_slash bytes ≡ true) × (is_clean_text bytes ≡ true)
fit_well bytes h =
    let ascii : IsAscii bytes = ascii_at bytes h in
    let clean = all_weaker is_fit is_clean (λ b f. (and_parts (nat_lt b 128) (is_clean b) f).1) bytes h in
    (all_weaker is_clean (λ byte. not (byte == slash)) clean_slashless bytes clean, clean_made bytes (IsUtf8-from_ascii bytes ascii) (rw (chars-IsAscii bytes ascii) clean))

safe_made : (bytes : List ℕ) → is_nil bytes ≡ false → may_lead (get_or bytes 0 0) ≡ true → has_no_slash bytes ≡ true → is_clean_text bytes ≡ true → is_safe bytes ≡ true
safe_made [] n l s c = absurd (cc)
safe_made (b ∷ bs) n l s c = and_made (may_lead b) (has_no_slash (b ∷ bs) && is_clean_text (b ∷ bs)) l (and_made (has_no_slash (b ∷ bs)) (is_clean_text (b ∷ bs)) s c)

pub fit_safe : (bytes : List ℕ) → is_nil bytes ≡ false → may_lead (get_or bytes 0 0) ≡ true → are_fit bytes ≡ true → is_safe bytes ≡ true
fit_safe bytes n l h = let well = fit_well bytes h in safe_made bytes n l well.0 well.1

-- a clean text after another
pub clean_both : (xs ys : List ℕ) → is_clean_text xs ≡ true → is_clean_text ys ≡ true → is_clean_text (xs ++ ys) ≡ true
clean_both xs ys h k =
    let first = and_parts (is_utf8 xs) (list_all is_clean (chars xs)) h in
    let second = and_parts (is_utf8 ys) (list_all is_clean (chars ys)) k in
    let one : IsUtf8 xs = IsUtf8-from_is_utf8 xs first.0 in
    clean_made (xs ++ ys) (IsUtf8-append xs ys one (IsUtf8-from_is_utf8 ys second.0))
    (ap (list_all is_clean) (chars-append xs ys one) ∙ (list_all-append is_clean (chars xs) (chars ys) ∙ and_made (list_all is_clean (chars xs)) (list_all is_clean (chars ys)) first.1 second.1))

-- no letter and no digit is a control or turns the direction
low_clean : (c : ℕ) → c < 160 → is_clean (plain_character c) ≡ true
unfolding is_alphabetic alphabetic_ranges is_numeric numeric_ranges in_ranges
low_clean c l = agree_below_at (λ n. is_clean (plain_character n)) (λ _. true) 160 c refl l

unlike : (c turn : ℕ) → is_plain_character c ≡ true → is_plain_character turn ≡ false → (turn == c) ≡ false
unlike c turn h n = ne_eqb turn c (λ e. let bad : true ≡ false = sym h ∙ (ap is_plain_character (sym e) ∙ n) in cc)

turn_unlike : (c : ℕ) → is_plain_character c ≡ true → list_any (λ turn. turn == c) turns ≡ false
unfolding is_alphabetic alphabetic_ranges is_numeric numeric_ranges in_ranges
turn_unlike c h =
    rw (unlike c 0x061C h refl, unlike c 0x200E h refl, unlike c 0x200F h refl, unlike c 0x202A h refl, unlike c 0x202B h refl, unlike c 0x202C h refl, unlike c 0x202D h refl, unlike c 0x202E h refl, unlike c 0x2066 h refl, unlike c 0x2067 h refl, unlike c 0x2068 h refl, unlike c 0x2069 h refl) refl

high_clean : (c : ℕ) → 160 ≤ c → is_plain_character c ≡ true → is_clean c ≡ true
high_clean c high h =
    let no_divider : (c == slash || c == backslash) ≡ false = grind (arith, nat_tests) in
    let no_control : is_control c ≡ false = grind (arith, nat_tests) in
    rw (no_divider, no_control, turn_unlike c h) refl

high_plain : (c : ℕ) (b : Bool) → is_plain_character c ≡ b → 160 ≤ c → is_clean (plain_character c) ≡ true
high_plain c true e high = rw e (high_clean c high e)
high_plain c false e high = rw e refl

plain_clean : (c : ℕ) → is_clean (plain_character c) ≡ true
plain_clean c = elim (cases_Bool (nat_lt c 160)) [
  | inl low ↦ low_clean c (ltb-true c 160 low)
  | inr high ↦ high_plain c (is_plain_character c) refl (ltb-false c 160 high)
]

-- characters that a name may have
abbrev is_good : ℕ → Bool
is_good c = scalar c && is_clean c

scalars_all : (cs : List ℕ) → scalars cs ≡ true → list_all scalar cs ≡ true
scalars_all [] h = refl
scalars_all (c ∷ cs) h = let both = and_parts (scalar c) (scalars cs) h in and_made (scalar c) (list_all scalar cs) both.0 (scalars_all cs both.1)

all_scalar : (cs : List ℕ) → list_all scalar cs ≡ true → scalars cs ≡ true
all_scalar [] h = refl
all_scalar (c ∷ cs) h = let both = and_parts (scalar c) (list_all scalar cs) h in and_made (scalar c) (scalars cs) both.0 (all_scalar cs both.1)

later_all : (p : ℕ → Bool) (n : ℕ) (cs : List ℕ) → list_all p cs ≡ true → list_all p (drop n cs) ≡ true
later_all p zero cs h = h
later_all p (suc n) [] h = refl
later_all p (suc n) (c ∷ cs) h = later_all p n cs (and_parts (p c) (list_all p cs) h).1

plain_good : (c : ℕ) → scalar c ≡ true → is_good (plain_character c) ≡ true
plain_good c h = and_made (scalar (plain_character c)) (is_clean (plain_character c)) (chosen scalar (is_plain_character c) c underscore h refl) (plain_clean c)

plain_all : (cs : List ℕ) → list_all scalar cs ≡ true → list_all is_good (map plain_character cs) ≡ true
plain_all [] h = refl
plain_all (c ∷ cs) h =
    let both = and_parts (scalar c) (list_all scalar cs) h in
    and_made (is_good (plain_character c)) (list_all is_good (map plain_character cs)) (plain_good c both.0) (plain_all cs both.1)

fitting_all : (p : ℕ → Bool) (room : ℕ) (cs : List ℕ) → list_all p cs ≡ true → list_all p (fitting room cs) ≡ true
fitting_all p room [] h = refl
fitting_all p room (c ∷ cs) h =
    let both = and_parts (p c) (list_all p cs) h in
    elim (cases_Bool (nat_le (len_utf8 c) room)) [
      | inl y ↦ rw y (and_made (p c) (list_all p (fitting (room - len_utf8 c) cs)) both.0 (fitting_all p (room - len_utf8 c) cs both.1))
      | inr n ↦ rw n refl
    ]

kept_good : (said : List ℕ) → scalars said ≡ true → list_all is_good (kept_characters said) ≡ true
kept_good said h =
    let all = scalars_all said h in
    fitting_all is_good 100 (led (map plain_character (after_last is_divider said))) (led_all is_good (map plain_character (after_last is_divider said)) refl (plain_all (after_last is_divider said) (later_all scalar _ said all)))

-- the first of them may begin a name
abbrev is_led : List ℕ → Bool
is_led [] = true
is_led (c ∷ cs) = may_lead c

fitting_led : (room : ℕ) (cs : List ℕ) → is_led cs ≡ true → is_led (fitting room cs) ≡ true
fitting_led room [] h = refl
fitting_led room (c ∷ cs) h = elim (cases_Bool (nat_le (len_utf8 c) room)) [ inl y ↦ rw y h | inr n ↦ rw n refl ]

led_led : (cs : List ℕ) → is_led (led cs) ≡ true
led_led [] = refl
led_led (c ∷ cs) = leading_allowed c

-- the bytes of clean characters are such a name
none_slash : (cs : List ℕ) → list_all is_good cs ≡ true → NonePass (λ c. c == slash) cs
none_slash [] h = tt
none_slash (c ∷ cs) h =
    let both = and_parts (is_good c) (list_all is_good cs) h in
    (not_true (c == slash) (clean_slashless c (and_parts (scalar c) (is_clean c) both.0).1), none_slash cs both.1)

by_index : (bytes : List ℕ) → ((i : ℕ) → i < length bytes → (get_or bytes i 0 == slash) ≡ false) → has_no_slash bytes ≡ true
by_index [] h = refl
by_index (b ∷ bs) h = and_made (not (b == slash)) (has_no_slash bs) (rw (h 0 (omega arith)) refl) (by_index bs (λ i l. h (suc i) (omega (arith, l))))

slash_at : (cs : List ℕ) → list_all is_good cs ≡ true → (i : ℕ) → i < length (encodes cs) → (get_or (encodes cs) i 0 == slash) ≡ false
slash_at cs h i l = elim (cases_Bool (nat_lt (get_or (encodes cs) i 0) 128)) [
  | inl low ↦ NoCharPasses-byte (λ c. c == slash) (encodes cs) i (cs, refl, none_slash cs h) l (ltb-true (get_or (encodes cs) i 0) 128 low)
  | inr high ↦ let far : 128 ≤ get_or (encodes cs) i 0 = ltb-false (get_or (encodes cs) i 0) 128 high in ne_eqb (get_or (encodes cs) i 0) slash (λ e. absurd (omega (arith, e, far)))
]

-- a first byte that may not begin a name is a first character that may not
first_unlike : (c : ℕ) (cs : List ℕ) (n : ℕ) → n < 128 → (c == n) ≡ false → (get_or (encodes (c ∷ cs)) 0 0 == n) ≡ false
first_unlike c cs n l h =
    let some : 0 < length (encodes (c ∷ cs)) = omega (arith, length-le-encodes (c ∷ cs)) in
    ne_eqb (get_or (encodes (c ∷ cs)) 0 0) n
    (λ e. let low : get_or (encodes (c ∷ cs)) 0 0 < 128 = omega (arith, e, l) in
    let same : c ≡ n = char_from_byte (encodes (c ∷ cs)) (encodes cs) c refl low some ∙ e in
    let bad : true ≡ false = sym (eq-eqb c n same) ∙ h in cc)

first_led : (c : ℕ) (cs : List ℕ) → may_lead c ≡ true → may_lead (get_or (encodes (c ∷ cs)) 0 0) ≡ true
first_led c cs h =
    let both = and_parts (not (c == full_stop)) (not (c == hyphen)) h in
    rw (first_unlike c cs full_stop (omega arith) (not_true (c == full_stop) both.0), first_unlike c cs hyphen (omega arith) (not_true (c == hyphen) both.1)) refl

not_nil : (bytes : List ℕ) → 0 < length bytes → is_nil bytes ≡ false
not_nil [] h = absurd (omega (arith, h))
not_nil (b ∷ bs) h = refl

characters_safe : (cs : List ℕ) → list_all is_good cs ≡ true → is_led cs ≡ true → is_nil (encodes cs) ≡ false → is_safe (encodes cs) ≡ true
characters_safe [] h l n = absurd (cc)
characters_safe (c ∷ cs) h l n =
    let all = all_scalar (c ∷ cs) (all_weaker is_good scalar (λ x g. (and_parts (scalar x) (is_clean x) g).0) (c ∷ cs) h) in
    let clean = all_weaker is_good is_clean (λ x g. (and_parts (scalar x) (is_clean x) g).1) (c ∷ cs) h in
    safe_made (encodes (c ∷ cs)) n (first_led c cs l) (by_index (encodes (c ∷ cs)) (slash_at (c ∷ cs) h))
    (clean_made (encodes (c ∷ cs)) (c ∷ cs, (all, refl)) (rw (chars-encodes (c ∷ cs) all) clean))

pub kept_safe : (text : List ℕ) → IsUtf8 text → is_nil (cleaned_text text) ≡ false → is_safe (cleaned_text text) ≡ true
kept_safe text u n =
    characters_safe (kept_characters (chars text)) (kept_good (chars text) (scalars-chars text u))
    (fitting_led 100 (led (map plain_character (after_last is_divider (chars text)))) (led_led (map plain_character (after_last is_divider (chars text))))) n
