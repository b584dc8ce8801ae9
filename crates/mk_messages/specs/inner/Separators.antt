-- The empty line that ends a message in a mailbox, as private contracts name it.
use Rattle.std.specs.Prelude.{if◌then◌else◌, ℕ, List, None, length}
use Rattle.std.specs.List.{last_or}
use Rattle.std.specs.Option.{option_map_or}
use Rattle.mk_line.specs.Lines.{TextLine, ending_bytes, is_nil}

-- how many bytes a line has, where it is empty
abbrev pub empty_length : TextLine → ℕ
empty_length l = if is_nil l.content then length (ending_bytes l.ending) else 0

-- how many bytes the last of some lines has, where it is empty
abbrev pub separator_length : List TextLine → ℕ
separator_length ls = option_map_or empty_length (last_or None ls) 0
