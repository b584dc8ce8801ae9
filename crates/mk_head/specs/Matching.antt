-- Names that are matched byte by byte.
use Rattle.std.specs.Prelude.{◌≡◌, ℕ, true, not, List}
use Rattle.std.specs.List.{list_all}
use Rattle.mk_line.specs.Ascii.{is_blank}

-- no byte of a name is a blank
abbrev pub IsPlainName : List ℕ → Type 0
IsPlainName name = list_all (λ byte. not (is_blank byte)) name ≡ true
