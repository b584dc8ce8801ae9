-- Tables of charsets in memory.
use Rattle.std.specs.Prelude.{ℕ, Bool, List, Option, find, map}
use Rattle.std.specs.List.{list_any}
use Rattle.std.specs.Option.{option_map}
use Rattle.std.specs.Str.{bytes_eq, str_to_ascii_lowercase}
use Rattle.mk_code.specs.declared.charsets.SingleByte.{SingleByte as InMemory}
use Rattle.mk_code.specs.Charsets.{SingleByte}

-- a charset in memory
abbrev pub single_of : InMemory → SingleByte
single_of c = record { labels = map (λ l. l.now) c.labels.now; upper = c.upper }

-- one of the labels is this one in lower case
abbrev pub has_label : List (List ℕ) → List ℕ → Bool
has_label labels label = list_any (λ other. bytes_eq label (str_to_ascii_lowercase other)) labels

-- the characters of the first of some charsets that has a label
abbrev pub table_of : List SingleByte → List ℕ → Option (List ℕ)
table_of tables label = option_map (λ c. c.upper) (find (λ c. has_label c.labels label) tables)
