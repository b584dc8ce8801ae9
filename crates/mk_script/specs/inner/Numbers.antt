-- Paths and numbers that are read from the front on.
use Rattle.std.specs.Prelude.{◌==◌, ◌&&◌, ◌^◌, if◌then◌else◌, ℕ, nat_lt, List, Option, None, Some}
use Rattle.std.specs.List.{list_all, slice_split}
use Rattle.std.specs.Char.{is_digit}
use Rattle.std.specs.Str.Parse.{digits_value_after}

-- the pieces of a text between its separators, one more than there are of these
abbrev pub pieces_of : ℕ → List ℕ → List (List ℕ)
pieces_of separator text = slice_split (λ byte. byte == separator) text

-- the number that digits write after those of a number, where it fits 32 bits
abbrev pub number_after : ℕ → List ℕ → Option ℕ
number_after before digits =
    let number = digits_value_after 10 before digits in
    if list_all (λ digit. is_digit digit 10) digits && nat_lt number (2 ^ 32) then Some number else None
