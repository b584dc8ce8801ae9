-- Scans in memory as what they say.
use Rattle.std.specs.Prelude.{◌+◌, ℕ}
use Rattle.mk_head.specs.Values.{Scan, Plain, Quoted, QuotedEscaped, Comment, CommentEscaped}
use Rattle.mk_check.specs.declared.words.Scan.{Scan as ScanIn}
use Rattle.mk_check.specs.declared.words.Scan.TheVariants.{Plain as PlainIn, Quoted as QuotedIn, QuotedEscaped as QuotedEscapedIn, Comment as CommentIn, CommentEscaped as CommentEscapedIn}

-- a scan in memory
abbrev pub scan_of : ScanIn → Scan
scan_of PlainIn = Plain
scan_of QuotedIn = Quoted
scan_of QuotedEscapedIn = QuotedEscaped
scan_of (CommentIn depth) = Comment depth
scan_of (CommentEscapedIn depth) = CommentEscaped depth

-- how many comments are open
abbrev pub depth_in : ScanIn → ℕ
depth_in PlainIn = 0
depth_in QuotedIn = 0
depth_in QuotedEscapedIn = 0
depth_in (CommentIn depth) = depth + 1
depth_in (CommentEscapedIn depth) = depth + 1
