use Rattle.std.specs.Prelude.{◌≡◌, ℕ, ◌+◌, ◌-◌, ◌^◌, ◌<◌, ◌≤◌, ◌⊎◌, List, ◌++◌, Option}
use Rattle.std.specs.Io.KnownBytes.{Appends}

-- a count stands at the greatest u64, from where it says no more
abbrev pub IsFull : ℕ → Type 0
IsFull n = 2 ^ 64 - 1 ≤ n

-- a count rose, or says no more
abbrev pub Rose : ℕ → ℕ → Type 0
Rose old new = (old < new) ⊎ IsFull new

-- a count went on by at least 2,147,483,647, or says no more
abbrev pub IsLong : ℕ → ℕ → Type 0
IsLong old new = (old + 2147483647 ≤ new) ⊎ IsFull new

-- a device that holds known bytes took a front of these bytes, and nothing else
abbrev pub AppendsFront : Option (List ℕ) → Option (List ℕ) → List ℕ → Type 0
AppendsFront old new bytes = (front : List ℕ) × (rest : List ℕ) × (bytes ≡ front ++ rest) × Appends old new front
