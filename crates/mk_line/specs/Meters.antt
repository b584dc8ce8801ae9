-- Counts of 64 bits that stay at the greatest value.
use Rattle.std.specs.Prelude.{◌+◌, ◌-◌, ◌^◌, if◌then◌else◌, ℕ, nat_lt}

-- one more, short of the greatest value
abbrev pub ticked : ℕ → ℕ
ticked n = if nat_lt n (2 ^ 64 - 1) then n + 1 else n
