-- Comments around a byte, and the pieces of a text one by one.
use Rattle.std.specs.Prelude.{◌==◌, ◌&&◌, ◌+◌, if◌then◌else◌, ℕ, List, [], ◌∷◌}
use Rattle.mk_line.specs.Ascii.{semicolon}
use Rattle.mk_head.specs.Values.{Scan, Plain, Quoted, QuotedEscaped, Comment, CommentEscaped, scan, is_plain, pieces}

-- how many comments a byte stands in
abbrev pub depth_of : Scan → ℕ
depth_of Plain = 0
depth_of Quoted = 0
depth_of QuotedEscaped = 0
depth_of (Comment depth) = depth + 1
depth_of (CommentEscaped depth) = depth + 1

-- the first piece
abbrev pub first_piece : Scan → List ℕ → List ℕ
first_piece s [] = []
first_piece s (byte ∷ bytes) = if is_plain s && byte == semicolon then [] else byte ∷ first_piece (scan s byte) bytes

-- the pieces after it
abbrev pub other_pieces : Scan → List ℕ → List (List ℕ)
other_pieces s [] = []
other_pieces s (byte ∷ bytes) = if is_plain s && byte == semicolon then pieces s bytes else other_pieces (scan s byte) bytes

-- the pieces after a semicolon, where a text begins with it
abbrev pub pieces_after : List ℕ → List (List ℕ)
pieces_after [] = []
pieces_after (byte ∷ bytes) = pieces Plain bytes
