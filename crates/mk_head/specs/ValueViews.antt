-- Content types and scans in memory as what they say.
use Rattle.std.specs.Prelude.{ℕ, List, map}
use Rattle.std.specs.Global.{Vec}
use Rattle.mk_head.specs.declared.content.ContentType.{ContentType}
use Rattle.mk_head.specs.declared.scanning.Scan.{Scan as ScanIn}
use Rattle.mk_head.specs.declared.scanning.Scan.TheVariants.{Plain as PlainIn, Quoted as QuotedIn, QuotedEscaped as QuotedEscapedIn, Comment as CommentIn, CommentEscaped as CommentEscapedIn}
use Rattle.mk_head.specs.Values.{Scan, Plain, Quoted, QuotedEscaped, Comment, CommentEscaped, MediaType}

-- a name and a value in memory as their bytes
abbrev pub parameter_of : Vec ℕ × Vec ℕ → List ℕ × List ℕ
parameter_of p = (p.0.items, p.1.items)

-- a content type in memory as plain data
abbrev pub media_type_of : ContentType → MediaType
media_type_of t = record { main = t.main.items; sub = t.sub.items; params = map parameter_of t.params.items }

-- what a scan in memory is inside of
abbrev pub scan_of : ScanIn → Scan
scan_of PlainIn = Plain
scan_of QuotedIn = Quoted
scan_of QuotedEscapedIn = QuotedEscaped
scan_of (CommentIn depth) = Comment depth
scan_of (CommentEscapedIn depth) = CommentEscaped depth
