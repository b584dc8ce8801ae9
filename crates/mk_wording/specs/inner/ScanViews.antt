-- Scans in memory as what they say, for private contracts.
use Rattle.std.specs.Prelude.{if◌then◌else◌, ℕ, List, [], ◌∷◌}
use Rattle.mk_head.specs.Values.{Scan, Plain, Quoted, QuotedEscaped, Comment, CommentEscaped, is_plain, scan}
use Rattle.mk_wording.specs.declared.scanning.Scan.{Scan as ScanIn}
use Rattle.mk_wording.specs.declared.scanning.Scan.TheVariants.{Plain as PlainIn, Quoted as QuotedIn, QuotedEscaped as QuotedEscapedIn, Comment as CommentIn, CommentEscaped as CommentEscapedIn}

-- where a byte stands
abbrev pub scan_of : ScanIn → Scan
scan_of PlainIn = Plain
scan_of QuotedIn = Quoted
scan_of QuotedEscapedIn = QuotedEscaped
scan_of (CommentIn depth) = Comment depth
scan_of (CommentEscapedIn depth) = CommentEscaped depth

-- what a comment holds, up to its closing parenthesis
abbrev pub inside_of : Scan → List ℕ → List ℕ
inside_of s [] = []
inside_of s (byte ∷ bytes) = if is_plain (scan s byte) then [] else byte ∷ inside_of (scan s byte) bytes

-- what stands from its closing parenthesis on
abbrev pub closing_of : Scan → List ℕ → List ℕ
closing_of s [] = []
closing_of s (byte ∷ bytes) = if is_plain (scan s byte) then byte ∷ bytes else closing_of (scan s byte) bytes
