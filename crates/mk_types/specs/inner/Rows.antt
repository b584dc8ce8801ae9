-- The table in memory as plain data; for private contracts.
use Rattle.mk_types.specs.FileTypes.{FileRow}
use Rattle.mk_types.specs.declared.table.FileType.{FileType}

-- a row as it is
abbrev pub row_of : FileType → FileRow
row_of t = record { ending = t.ending.now; media = t.media.now }
