-- The segments of a value that several parameters hold together (RFC 2231, 3 and 4.1).
use Rattle.std.specs.Prelude.{◌++◌, ℕ, zero, suc, List, [], ◌∷◌, Option, Some, None, decimal}
use Rattle.std.specs.Option.{option_map, option_map_or, option_or}
use Rattle.mk_line.specs.Ascii.{asterisk}

-- a segment: its value stands as it is, or with percent signs
pub data Segment : Type 0 where
  Plain : (value : List ℕ) → Segment
  Encoded : (value : List ℕ) → Segment

-- the name of a parameter with an asterisk after it says that its value is encoded (RFC 2231, 4)
abbrev pub encoded_name : List ℕ → List ℕ
encoded_name name = name ++ asterisk ∷ []

-- the name of the segment of a number, without leading zeros (RFC 2231, 3)
abbrev pub segment_name : List ℕ → ℕ → List ℕ
segment_name name number = name ++ asterisk ∷ decimal number

-- the segment of a number, where `look` gives the value of a parameter: if both forms are there, the encoded one counts (own)
abbrev pub segment_at : (List ℕ → Option (List ℕ)) → List ℕ → ℕ → Option Segment
segment_at look name number =
    option_or (option_map Encoded (look (encoded_name (segment_name name number)))) (option_map Plain (look (segment_name name number)))

-- the segments from a number on in the order of their numbers, up to the first that is missing, and at most so many
abbrev pub segments_from : (List ℕ → Option (List ℕ)) → List ℕ → ℕ → ℕ → List Segment
segments_from look name number zero = []
segments_from look name number (suc most) =
    option_map_or (λ segment. segment ∷ segments_from look name (suc number) most) (segment_at look name number) []
