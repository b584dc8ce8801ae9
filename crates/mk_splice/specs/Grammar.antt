-- The parts of a journal, version 1 or 2: numbers, entries, steps (own).
use Rattle.std.specs.Prelude.{◌≡◌, ◌+◌, ◌*◌, ◌-◌, ◌==◌, ◌&&◌, ◌||◌, ◌++◌, nat_le, if◌then◌else◌, ℕ, zero, suc, Bool, true, Result, Ok, Err, List, [], ◌∷◌, length}
use Rattle.std.specs.List.{flat_map}
use Rattle.std.specs.Char.{is_ascii_digit}
use Rattle.mk_splice.specs.declared.reading.Version.{Version}
use Rattle.mk_splice.specs.declared.reading.Version.TheVariants.{One, Two}
use Rattle.mk_splice.specs.Readers.{named, and_then, read_times, read_byte, read_run, AllGood}

-- at most n digits, and the byte e after them
abbrev pub read_digits : ℕ → ℕ → List ℕ → Result (List ℕ × List ℕ) (List ℕ)
read_digits n e [] = Err []
read_digits zero e (c ∷ cs) = if c == e then Ok ([], cs) else Err (c ∷ cs)
read_digits (suc n) e (c ∷ cs) = if c == e then Ok ([], cs) else (if is_ascii_digit c then named (λ ds. c ∷ ds) (read_digits n e cs) else Err (c ∷ cs))

-- at most n digits
abbrev pub AreDigits : ℕ → List ℕ → Type 0
AreDigits n [] = Unit {0}
AreDigits zero (c ∷ cs) = ⊥
AreDigits (suc n) (c ∷ cs) = (is_ascii_digit c ≡ true) × AreDigits n cs

-- how many digits may follow a first one
abbrev pub more_digits : ℕ → ℕ
more_digits c = if c == 48 then 0 else 19

-- `0`, or a digit 1 to 9 and at most 19 digits
abbrev pub IsNumber : List ℕ → Type 0
IsNumber [] = ⊥
IsNumber (c ∷ cs) = (is_ascii_digit c ≡ true) × AreDigits (more_digits c) cs

-- a number and the byte e after it
abbrev pub read_number : ℕ → List ℕ → Result (List ℕ × List ℕ) (List ℕ)
read_number e b = named (λ p. p.0 ∷ p.1) (and_then (read_byte is_ascii_digit b) (λ c. read_digits (more_digits c) e))

-- the number that digits stand for, after those of v
abbrev pub value_from : ℕ → List ℕ → ℕ
value_from v [] = v
value_from v (c ∷ cs) = value_from (10 * v + (c - 48)) cs

-- the number that digits stand for
abbrev pub number_of : List ℕ → ℕ
number_of ds = value_from 0 ds

-- an entry: its numbers by their digits, and the old and new bytes
pub record Entry : Type 0 where
  pub place : List ℕ
  pub old_size : List ℕ
  pub new_size : List ℕ
  pub old : List ℕ
  pub new : List ℕ

-- an entry's sizes are those of its bytes
pub record IsEntry (e : Entry) : Type 0 where
  pub place : IsNumber e.place
  pub old_size : IsNumber e.old_size
  pub new_size : IsNumber e.new_size
  pub old : length e.old ≡ number_of e.old_size
  pub new : length e.new ≡ number_of e.new_size

-- `PLACE OLDLEN NEWLEN`, a line feed, the old bytes, the new ones, a line feed
abbrev pub spell_entry : Entry → List ℕ
spell_entry e = ((((e.place ++ 32 ∷ []) ++ (e.old_size ++ 32 ∷ [])) ++ (e.new_size ++ 10 ∷ [])) ++ e.old) ++ (e.new ++ 10 ∷ [])

-- the numbers of an entry
abbrev pub read_sizes : List ℕ → Result (((List ℕ × List ℕ) × List ℕ) × List ℕ) (List ℕ)
read_sizes b = and_then (and_then (read_number 32 b) (λ p. read_number 32)) (λ p. read_number 10)

-- an entry: its numbers, the old bytes, the new ones, and a line feed
abbrev pub read_entry : List ℕ → Result (Entry × List ℕ) (List ℕ)
read_entry b =
    named (λ p. record { place = p.0.0.0.0; old_size = p.0.0.0.1; new_size = p.0.0.1; old = p.0.1; new = p.1.0 })
    (and_then (and_then (read_sizes b) (λ p. read_run (number_of p.0.1))) (λ p rest. and_then (read_run (number_of p.0.1) rest) (λ new. read_byte (λ c. c == 10))))

-- the byte that names a version
abbrev pub spell_version : Version → List ℕ
spell_version One = 49 ∷ []
spell_version Two = 50 ∷ []

-- the version that a byte names
abbrev pub read_version : List ℕ → Result (Version × List ℕ) (List ℕ)
read_version b = named (λ c. if c == 49 then One else Two) (read_byte (λ c. c == 49 || c == 50) b)

-- whether a byte is a hexadecimal digit in lower case
abbrev pub is_hex : ℕ → Bool
is_hex c = is_ascii_digit c || (nat_le 97 c && nat_le c 102)

-- the digest's digits: 64 in version 2, none in version 1
abbrev pub IsDigest : Version → List ℕ → Type 0
IsDigest One ds = ds ≡ []
IsDigest Two ds = AllGood (λ c. is_hex c ≡ true) 64 ds

-- a line of digits that version 1 hasn't: that of the digest, and that of a step's count
abbrev pub spell_line : Version → List ℕ → List ℕ
spell_line One ds = []
spell_line Two ds = ds ++ 10 ∷ []

-- the digest's line
abbrev pub read_digest : Version → List ℕ → Result (List ℕ × List ℕ) (List ℕ)
read_digest One b = Ok ([], b)
read_digest Two b = named (λ p. p.0) (and_then (read_times 64 (read_byte is_hex) b) (λ ds. read_byte (λ c. c == 10)))

-- a step: the digits of its count of entries, none in version 1, and its entries
pub record StepText : Type 0 where
  pub count : List ℕ
  pub entries : List Entry

-- a step's count: a number in version 2, none in version 1
abbrev pub IsCount : Version → List ℕ → Type 0
IsCount One ds = ds ≡ []
IsCount Two ds = IsNumber ds

-- how many entries a step has: one in version 1
abbrev pub count_of : Version → List ℕ → ℕ
count_of One ds = 1
count_of Two ds = number_of ds

-- the line of a step's count
abbrev pub read_count : Version → List ℕ → Result (List ℕ × List ℕ) (List ℕ)
read_count One b = Ok ([], b)
read_count Two b = read_number 10 b

-- a step has as many entries as its count says
pub record IsStep (v : Version) (s : StepText) : Type 0 where
  pub count : IsCount v s.count
  pub entries : AllGood IsEntry (count_of v s.count) s.entries

-- a step's line and its entries
abbrev pub spell_step : Version → StepText → List ℕ
spell_step v s = spell_line v s.count ++ flat_map spell_entry s.entries

-- a step
abbrev pub read_step : Version → List ℕ → Result (StepText × List ℕ) (List ℕ)
read_step v b = named (λ p. record { count = p.0; entries = p.1 }) (and_then (read_count v b) (λ ds. read_times (count_of v ds) read_entry))
