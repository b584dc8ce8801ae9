-- The names that fields have, remembered by marks in a table: the filter of B. H. Bloom (1970), with one hash of a name.
use Rattle.std.specs.Prelude.{◌≡◌, ◌+◌, ◌*◌, ◌%◌, ◌^◌, ◌<◌, ◌++◌, ℕ, false, Bool, Option, None, Some, List, [], ◌∷◌, filter, length, slice_index_or}
use Rattle.std.specs.Str.{str_to_ascii_lowercase}
use Rattle.std.specs.Global.{Vec}
use Rattle.mk_line.specs.Lines.{TextLine}
use Rattle.mk_head.specs.Fields.{FieldText, is_named}
use Rattle.mk_head.specs.Splits.{IsRun}
use Rattle.mk_tree.specs.Spans.{size}
use Rattle.mk_decide.specs.FieldEdits.{starts_named}

-- bytes hashed one after another
abbrev pub hashed : ℕ → List ℕ → ℕ
hashed hash [] = hash
hashed hash (byte ∷ bytes) = hashed ((hash * 31 % 2 ^ 64 + byte) % 2 ^ 64) bytes

-- which of so many marks is that of a name, without regard to ASCII case
abbrev pub mark_of : ℕ → List ℕ → ℕ
mark_of count name = hashed 0 (str_to_ascii_lowercase name) % count

-- the mark of a name is set
abbrev pub is_marked : List Bool → List ℕ → Bool
is_marked marks name = slice_index_or marks (mark_of (length marks) name) false

-- the name of each field that was read is marked, and what was marked before: a name without a mark is that of none of them
abbrev pub AreRead : List Bool → List FieldText → List FieldText → List Bool → Type 0
AreRead those fields left these =
    (name : List ℕ) → is_marked these name ≡ false → (is_marked those name ≡ false) × (length (filter (is_named name) fields) ≡ length (filter (is_named name) left))

-- the names of all fields among lines are marked; with no table there is no line
abbrev pub KnowsNames : List TextLine → Option (Vec Bool) → Type 0
KnowsNames ls None = ls ≡ []
KnowsNames ls (Some marks) = (0 < length marks.items) × ((name : List ℕ) → is_marked marks.items name ≡ false → length (filter (starts_named name) ls) ≡ 0)

-- a table has a mark at least
abbrev pub HasMarks : Option (Vec Bool) → Type 0
HasMarks None = Unit {0}
HasMarks (Some marks) = 0 < length marks.items

-- some lines at the start take so many bytes, and a run of fields follows them
pub record BeginsField (ls : List TextLine) (bytes : ℕ) : Type 0 where
  pub before : List TextLine
  pub after : List TextLine
  pub whole : before ++ after ≡ ls
  pub takes : size before ≡ bytes
  pub run : IsRun false after

-- the names of the fields in so many bytes at the start are marked
pub record IsKnown (ls : List TextLine) (bytes : ℕ) (marks : Option (Vec Bool)) : Type 0 where
  pub place : BeginsField ls bytes
  pub known : KnowsNames place.before marks

-- the mark of a name is set, where there is a table
abbrev pub may_have : Option (Vec Bool) → List ℕ → Bool
may_have None name = false
may_have (Some marks) name = is_marked marks.items name
