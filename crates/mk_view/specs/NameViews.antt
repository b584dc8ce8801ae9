-- Paths with names in memory as what they say.
use Rattle.std.specs.Prelude.{ℕ}
use Rattle.std.specs.Global.{Vec}
use Rattle.mk_view.specs.FileNames.{Named}

-- a path and a name in memory as their bytes
abbrev pub named_view : Vec ℕ × Vec ℕ → Named
named_view p = (p.0.items, p.1.items)
