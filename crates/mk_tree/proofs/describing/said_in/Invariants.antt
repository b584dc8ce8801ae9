use Rattle.std.proofs.Common.{◌≡◌, codes, false}
use Rattle.mk_line.specs.Lines.{cut as lines_of}
use Rattle.mk_head.specs.Split.{fields_from}
use Rattle.mk_head.specs.Types.{field_value}
use Rattle.mk_tree.specs.inner.Said.{said_first}
use Rattle.mk_tree.proofs.describing.said_in.Given as goal

abbrev pub invariant-loop-field : goal.invariant-loop-field
invariant-loop-field l = record {
  media : said_first (codes "Content-Type") l.media l.field-iterator ≡ field_value (codes "Content-Type") (fields_from false (lines_of l.head));
  encoding : said_first (codes "Content-Transfer-Encoding") l.encoding l.field-iterator ≡ field_value (codes "Content-Transfer-Encoding") (fields_from false (lines_of l.head));
}
