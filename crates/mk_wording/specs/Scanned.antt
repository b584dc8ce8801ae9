-- Parts of structured values between marks (RFC 5322, 3.2.2 and 3.2.4).
use Rattle.std.specs.Prelude.{◌==◌, ◌&&◌, if◌then◌else◌, ℕ, Bool, List, [], ◌∷◌}
use Rattle.std.specs.List.{list_any}
use Rattle.mk_head.specs.Values.{Scan, Plain, is_plain, scan}

-- one of some bytes
abbrev pub is_one_of : List ℕ → ℕ → Bool
is_one_of marks byte = list_any (λ mark. mark == byte) marks

-- what stands before the first of some bytes outside quoted strings and comments
abbrev pub before_mark : List ℕ → Scan → List ℕ → List ℕ
before_mark marks s [] = []
before_mark marks s (byte ∷ bytes) = if is_plain s && is_one_of marks byte then [] else byte ∷ before_mark marks (scan s byte) bytes

-- what stands from it on
abbrev pub from_mark : List ℕ → Scan → List ℕ → List ℕ
from_mark marks s [] = []
from_mark marks s (byte ∷ bytes) = if is_plain s && is_one_of marks byte then byte ∷ bytes else from_mark marks (scan s byte) bytes

-- a part of a list, and the byte that ends it, if there is one
pub record ListEntry : Type 0 where
  pub text : List ℕ
  pub end : List ℕ

-- a byte put before the first entry
abbrev pub push_entry : ℕ → List ListEntry → List ListEntry
push_entry byte [] = record { text = byte ∷ []; end = [] } ∷ []
push_entry byte (e ∷ es) = record { text = byte ∷ e.text; end = e.end } ∷ es

-- the entries of a list, of which some bytes outside quoted strings and comments are the ends
abbrev pub entries : List ℕ → Scan → List ℕ → List ListEntry
entries ends s [] = record { text = []; end = [] } ∷ []
entries ends s (byte ∷ bytes) =
    if is_plain s && is_one_of ends byte then record { text = []; end = byte ∷ [] } ∷ entries ends Plain bytes
    else push_entry byte (entries ends (scan s byte) bytes)
