-- The boundary that is made of what is packed where messages are forwarded: it begins no line of theirs (own).
use Rattle.std.specs.Prelude.{◌++◌, ◌==◌, ◌+◌, if◌then◌else◌, ℕ, Bool, List, [], ◌∷◌, codes, decimal, length, take}
use Rattle.std.specs.List.{flat_map, list_all, position_or_len, range_with_len}
use Rattle.mk_line.specs.Ascii.{underscore}
use Rattle.mk_line.specs.Lines.{cut}
use Rattle.mk_splice.specs.Journals.{digest_of}
use Rattle.mk_build.specs.Building.{Attached}
use Rattle.mk_build.specs.Forwards.{Forwarded, is_clear}
use Rattle.mk_pack.specs.OwnBoundary.{digits_kept, measured, measured_part}

-- a forwarded message: its media type, which no part can have, and its bytes
abbrev pub measured_message : Forwarded → List ℕ
measured_message f = measured (codes "message/rfc822") ++ measured f.text

-- all that is packed: the fields as they are given, then the parts, then the messages
abbrev pub all_packed_with : List (List ℕ) → List Attached → List Forwarded → List ℕ
all_packed_with fields parts messages = flat_map measured fields ++ (flat_map measured_part parts ++ flat_map measured_message messages)

-- the first boundary that is tried: `=_`, and the first digits of the SHA-256
abbrev pub first_boundary : List (List ℕ) → List Attached → List Forwarded → List ℕ
first_boundary fields parts messages = codes "=_" ++ take digits_kept (digest_of (all_packed_with fields parts messages))

-- the mark of a later one: its number between underscores, so that no line begins with two of them
abbrev pub number_mark : ℕ → List ℕ
number_mark n = if n == 0 then [] else underscore ∷ (decimal n ++ underscore ∷ [])

-- no line of a message begins with two hyphens and the boundary
abbrev pub are_clear : List ℕ → List Forwarded → Bool
are_clear boundary messages = list_all (λ f. is_clear boundary f.text) messages

-- the greatest number that is tried
unfoldable pub last_number : ℕ
last_number = 18446744073709551615

-- the one of the least number that is free, or of the greatest number
unfoldable pub free_boundary : List (List ℕ) → List Attached → List Forwarded → List ℕ
free_boundary fields parts messages =
    let first = first_boundary fields parts messages in
    first ++ number_mark (position_or_len (λ n. are_clear (first ++ number_mark n) messages) (range_with_len 0 last_number))

-- how many lines messages have
abbrev pub line_count : List Forwarded → ℕ
line_count [] = 0
line_count (f ∷ messages) = length (cut f.text) + line_count messages
