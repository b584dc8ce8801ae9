-- How a script picks a field (own): by a path, a name, and its number among the fields of that name, parted by one space.
use Rattle.std.specs.Prelude.{◌==◌, ◌-◌, ◌&&◌, if◌then◌else◌, ℕ, Bool, not, List, [], ◌∷◌, Option, None, Some, codes, length, slice_index}
use Rattle.std.specs.List.{list_any}
use Rattle.std.specs.Option.{option_map, option_map_or, option_and_then}
use Rattle.std.specs.Str.{bytes_eq}
use Rattle.mk_line.specs.Ascii.{colon, space}
use Rattle.mk_line.specs.Kinds as field
use Rattle.mk_line.specs.Lines.{is_nil}
use Rattle.mk_script.specs.Paths.{parted, number_of, path_of}

-- a field of the section at a path: the k-th of a name
pub record Target : Type 0 where
  pub path : List ℕ
  pub name : List ℕ
  pub k : ℕ

-- a name is not empty and holds no space
abbrev pub is_name : List ℕ → Bool
is_name text = not (is_nil text) && not (list_any (λ byte. byte == space) text)

-- the name of a file may hold spaces, but not at its ends, and isn't empty
abbrev pub is_file_name : List ℕ → Bool
is_file_name text = not (is_nil text) && not (slice_index text 0 == space) && not (slice_index text (length text - 1) == space)

-- what stands before the last separator and what follows it, where there is one
abbrev pub parted_last : ℕ → List ℕ → Option (List ℕ × List ℕ)
parted_last separator [] = None
parted_last separator (byte ∷ bytes) = option_map_or (λ p. Some (byte ∷ p.0, p.1)) (parted_last separator bytes) (if byte == separator then Some ([], bytes) else None)

-- the name of fields that a text writes: what stands before a colon at its end, or the whole text where there is none
abbrev pub field_name_in : List ℕ → List ℕ
field_name_in text = option_map_or (λ p. if is_nil p.1 then p.0 else text) (parted colon text) text

-- a text that writes the name of a field (RFC 5322, 2.2)
abbrev pub is_field_name : List ℕ → Bool
is_field_name text = field.is_name (field_name_in text)

-- the number that a text writes: 0, or one from 1 on without leading zeros
abbrev pub count_of : List ℕ → Option ℕ
count_of text = if bytes_eq text (codes "0") then Some 0 else number_of text

-- what stands before the first space is read, and then what follows it
abbrev pub read_first : {A B : Type 0} → (List ℕ → Option A) → (A → List ℕ → Option B) → List ℕ → Option B
read_first read next text = option_and_then (λ p. option_and_then (λ first. next first p.1) (read p.0)) (parted space text)

-- a text, where it is a name
abbrev pub as_name : List ℕ → Option (List ℕ)
as_name text = if is_name text then Some text else None

-- what stands before the last space, where it is the name of a file, and then what follows it
abbrev pub read_file : {B : Type 0} → (List ℕ → List ℕ → Option B) → List ℕ → Option B
read_file next text = option_and_then (λ p. if is_file_name p.0 then next p.0 p.1 else None) (parted_last space text)

-- the field that a whole text picks: a path, a name, and the number among the fields of the name
abbrev pub whole_target : List ℕ → Option Target
whole_target text = read_first path_of (λ path. read_first as_name (λ name number. option_map (λ k. record { path = path; name = name; k = k }) (count_of number))) text

-- the field that the front of a text picks, and what follows the space after it
abbrev pub target_front : List ℕ → Option (Target × List ℕ)
target_front text = read_first path_of (λ path. read_first as_name (λ name. read_first count_of (λ k rest. Some (record { path = path; name = name; k = k }, rest)))) text
