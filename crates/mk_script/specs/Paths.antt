-- How the path of a section is written (own): numbers from 1, without leading zeros, joined by dots.
use Rattle.mk_line.specs.Ascii.{full_stop}
use Rattle.std.specs.Prelude.{◌==◌, ◌&&◌, ◌+◌, ◌^◌, if◌then◌else◌, ℕ, nat_lt, nat_le, List, [], ◌∷◌, length, take, drop, Option, None, Some}
use Rattle.std.specs.List.{list_all, position, slice_split}
use Rattle.std.specs.Option.{option_map, option_and_then}
use Rattle.std.specs.Char.{is_digit}
use Rattle.std.specs.Str.Parse.{digits_value_after}

-- b'0'
abbrev pub zero_digit : ℕ
zero_digit = 48

-- the most components of a path: no section lies deeper
abbrev pub max_components : ℕ
max_components = 101

-- what stands before the first separator and what follows it, where there is one
abbrev pub parted : ℕ → List ℕ → Option (List ℕ × List ℕ)
parted separator text = option_map (λ n. (take n text, drop (n + 1) text)) (position (λ byte. byte == separator) text)

-- the number that a text writes in digits, from 1 on and without leading zeros, where it fits 32 bits
abbrev pub number_of : List ℕ → Option ℕ
number_of [] = None
number_of (byte ∷ bytes) =
    let number = digits_value_after 10 0 (byte ∷ bytes) in
    if byte == zero_digit then None
    else (if list_all (λ digit. is_digit digit 10) (byte ∷ bytes) && nat_lt number (2 ^ 32) then Some number else None)

-- what each of some texts is read as, where each is read
abbrev pub read_each : {A : Type 0} → (List ℕ → Option A) → List (List ℕ) → Option (List A)
read_each read [] = Some []
read_each read (text ∷ texts) = option_and_then (λ first. option_map (λ others. first ∷ others) (read_each read texts)) (read text)

-- the path that a text writes: the numbers between its dots, where they are not too many
abbrev pub path_of : List ℕ → Option (List ℕ)
path_of text =
    option_and_then (λ numbers. if nat_le (length numbers) max_components then Some numbers else None) (read_each number_of (slice_split (λ byte. byte == full_stop) text))
