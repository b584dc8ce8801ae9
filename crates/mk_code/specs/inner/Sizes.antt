-- The size of a content that isn't decoded, as private contracts speak of it.
use Rattle.std.specs.Prelude.{◌==◌, ◌%◌, ℕ, zero, suc, Bool, true, false, slice_index}
use Rattle.base64.specs.Engines.{standard}

-- the six bits that a letter of base64 stands for
abbrev pub letter_value : ℕ → ℕ
letter_value letter = slice_index standard.decode_table letter

-- letters of which so many are in no whole group may end with this one: its bits that stand for nothing are zero
abbrev pub is_well_ended : ℕ → ℕ → Bool
is_well_ended zero last = true
is_well_ended (suc zero) last = false
is_well_ended (suc (suc zero)) last = letter_value last % 16 == 0
is_well_ended (suc (suc (suc more))) last = letter_value last % 4 == 0
