use Rattle.std.proofs.Common.{◌≡◌, drop}
use Rattle.std.specs.Str.{str_to_ascii_lowercase}
use Rattle.mk_edit.specs.inner.FieldNames.{hashed}
use Rattle.mk_edit.proofs.names.hash.Given as goal

abbrev pub invariant-loop-byte : goal.invariant-loop-byte
invariant-loop-byte l = hashed l.hash (str_to_ascii_lowercase (drop l.byte-index l.name)) ≡ hashed 0 (str_to_ascii_lowercase l.name)
