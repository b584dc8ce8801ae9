-- Where a byte before an id stands, as it is kept in memory.
use Rattle.mk_head.specs.Values.{Scan, Plain, Comment, CommentEscaped}
use Rattle.mk_view.specs.declared.content_ids.Standing.{Standing}
use Rattle.mk_view.specs.declared.content_ids.Standing.TheVariants as standing

-- the same as a place of a value
abbrev pub standing_of : Standing → Scan
standing_of standing.Outside = Plain
standing_of (standing.Comment depth) = Comment depth
standing_of (standing.Escaped depth) = CommentEscaped depth
