-- A line and the continuations directly after it, and the byte at which they end, as private contracts speak of them.
use Rattle.std.specs.Prelude.{◌==◌, ◌&&◌, ◌+◌, if◌then◌else◌, ℕ, Bool, not, List, [], ◌∷◌}
use Rattle.mk_line.specs.Ascii.{line_feed, is_blank}
use Rattle.mk_line.specs.Kinds.{is_continuation}
use Rattle.mk_line.specs.Lines.{TextLine}
use Rattle.mk_head.specs.Fields.{continuations}

-- the first line, and the continuations directly after it
abbrev pub folded : List TextLine → List TextLine
folded [] = []
folded (l ∷ ls) = l ∷ continuations ls

-- how many bytes stand at the start up to the first line feed that no blank follows
abbrev pub fold_size : List ℕ → ℕ
fold_size [] = 0
fold_size (byte ∷ bytes) = if byte == line_feed && not (is_continuation bytes) then 1 else 1 + fold_size bytes

-- a byte is a line feed, and the next is no blank
abbrev pub is_end : ℕ → ℕ → Bool
is_end byte next = byte == line_feed && not (is_blank next)
