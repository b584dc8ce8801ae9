-- Names told apart: one that an earlier section has gets a number after it (own).
use Rattle.std.specs.Prelude.{◌≡◌, ◌==◌, ◌<◌, ◌≤◌, ◌&&◌, ◌||◌, ◌++◌, ℕ, Bool, true, false, not, List, [], ◌∷◌, decimal}
use Rattle.std.specs.List.{list_all, list_any}
use Rattle.std.specs.Char.{is_control}
use Rattle.std.specs.Str.{bytes_eq, chars, is_utf8}
use Rattle.mk_line.specs.Ascii.{backslash, full_stop, hyphen, slash}
use Rattle.mk_view.specs.FileNames.{Named}

-- a name with a number after it
abbrev pub numbered : List ℕ → ℕ → List ℕ
numbered name number = name ++ full_stop ∷ decimal number

-- whether one of the names is this
abbrev pub is_taken : List (List ℕ) → List ℕ → Bool
is_taken names name = list_any (bytes_eq name) names

-- the least number from 1 on that makes of a name none of the names
pub record IsLeastFree (names : List (List ℕ)) (name : List ℕ) (number : ℕ) : Type 0 where
  pub from_one : 1 ≤ number
  pub free : is_taken names (numbered name number) ≡ false
  pub least : (n : ℕ) → 1 ≤ n → n < number → is_taken names (numbered name n) ≡ true

-- what is given for a name that is taken, or isn't
abbrev pub IsGivenBy : Bool → List (List ℕ) → List ℕ → List ℕ → Type 0
IsGivenBy false names own given = given ≡ own
IsGivenBy true names own given = (number : ℕ) × IsLeastFree names own number × (given ≡ numbered own number)

-- the name that a section gets: its own, unless that is one of the names that earlier sections have
abbrev pub IsGiven : List (List ℕ) → List ℕ → List ℕ → Type 0
IsGiven names own given = IsGivenBy (is_taken names own) names own given

-- sections with their own names get these names in turn, where earlier ones have some
abbrev pub AreGiven : List (List ℕ) → List Named → List Named → Type 0
AreGiven names [] [] = Unit {0}
AreGiven names [] (g ∷ gs) = ⊥
AreGiven names (o ∷ os) [] = ⊥
AreGiven names (o ∷ os) (g ∷ gs) = (g.0 ≡ o.0) × IsGiven names o.1 g.1 × AreGiven (g.1 ∷ names) os gs

-- the names that are given once these are given too, the last at the start
abbrev pub given_after : List (List ℕ) → List Named → List (List ℕ)
given_after names [] = names
given_after names (g ∷ gs) = given_after (g.1 ∷ names) gs

-- none of the names is one of those before it, or of some more
abbrev pub AreDistinct : List (List ℕ) → List Named → Type 0
AreDistinct names [] = Unit {0}
AreDistinct names (g ∷ gs) = (is_taken names g.1 ≡ false) × AreDistinct (g.1 ∷ names) gs

-- no byte is a slash
abbrev pub has_no_slash : List ℕ → Bool
has_no_slash bytes = list_all (λ byte. not (byte == slash)) bytes

-- the characters that turn the direction of the text around them (Unicode Standard Annex 9, 2)
abbrev pub turns : List ℕ
turns = 0x061C ∷ 0x200E ∷ 0x200F ∷ 0x202A ∷ 0x202B ∷ 0x202C ∷ 0x202D ∷ 0x202E ∷ 0x2066 ∷ 0x2067 ∷ 0x2068 ∷ 0x2069 ∷ []

-- a character that is no slash, no backslash, no control (U+0000 to U+001F, U+007F to U+009F), and turns no direction
abbrev pub is_clean : ℕ → Bool
is_clean c = not (c == slash || c == backslash) && (not (is_control c) && not (list_any (λ turn. turn == c) turns))

-- the bytes are UTF-8, of such characters alone
abbrev pub is_clean_text : List ℕ → Bool
is_clean_text bytes = is_utf8 bytes && list_all is_clean (chars bytes)

-- a name of a file in a folder that isn't hidden and is no option: it is not empty, has no slash, begins with no full stop and
-- no hyphen, and is a clean text
abbrev pub is_safe : List ℕ → Bool
is_safe [] = false
is_safe (byte ∷ bytes) = (not (byte == full_stop) && not (byte == hyphen)) && (has_no_slash (byte ∷ bytes) && is_clean_text (byte ∷ bytes))

-- all of the names are such names
abbrev pub AreSafe : List Named → Type 0
AreSafe [] = Unit {0}
AreSafe (g ∷ gs) = (is_safe g.1 ≡ true) × AreSafe gs
