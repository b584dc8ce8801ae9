use Rattle.std.proofs.Common.{◌≡◌, drop, map}
use Rattle.std.specs.Str.{str_to_ascii_lowercase}
use Rattle.mk_types.specs.FileTypes.{type_in}
use Rattle.mk_types.specs.inner.Rows.{row_of}
use Rattle.mk_types.proofs.types.by_ending.Given as goal

abbrev pub invariant-loop-known : goal.invariant-loop-known
invariant-loop-known l = type_in (map row_of l.types) (str_to_ascii_lowercase l.ending) ≡ type_in (map row_of (drop l.known-index l.types)) (str_to_ascii_lowercase l.ending)
