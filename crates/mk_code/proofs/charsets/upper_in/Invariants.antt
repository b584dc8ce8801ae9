use Rattle.std.proofs.Common.{◌≡◌, None, map, take}
use Rattle.std.specs.Str.{str_to_ascii_lowercase}
use Rattle.mk_code.specs.inner.Tables.{single_of, table_of}
use Rattle.mk_code.proofs.charsets.upper_in.Given as goal

abbrev pub invariant-loop-table : goal.invariant-loop-table
invariant-loop-table l = table_of (map single_of (take l.table-index l.tables)) (str_to_ascii_lowercase l.charset) ≡ None
