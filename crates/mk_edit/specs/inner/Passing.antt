-- How far fields are passed over on the way to one of them.
use Rattle.std.specs.Prelude.{◌==◌, ◌&&◌, ◌+◌, ◌-◌, if◌then◌else◌, ℕ, List, [], ◌∷◌, length}
use Rattle.mk_head.specs.Fields.{FieldText, is_named}

-- how many bytes stand before the k-th field of a name, or how many all fields take, and the number that it has after these
abbrev pub passed_over : List ℕ → ℕ → ℕ → List FieldText → ℕ × ℕ
passed_over name k place [] = (place, k)
passed_over name k place (f ∷ fs) =
    if is_named name f && k == 1 then (place, k)
    else passed_over name (if is_named name f then k - 1 else k) (place + length f.raw) fs
