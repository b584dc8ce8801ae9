use Rattle.std.proofs.Common.{◌≡◌, ◌+◌, ◌≤◌, ◌++◌, false, length, map}
use Rattle.mk_line.specs.Lines.{cut as lines_of, text_of}
use Rattle.mk_head.specs.Split.{fields_from, rest_from}
use Rattle.mk_head.specs.Fields.{fields_of}
use Rattle.mk_head.specs.Views.{field_view}
use Rattle.mk_head.proofs.reading.header.Given as goal

abbrev pub invariant-each : goal.invariant-each
invariant-each l = record {
  fields : map field_view l.fields.items ++ fields_of (fields_from false (lines_of l.rest)) ≡ fields_of (fields_from false (lines_of l.text));
  size : length (text_of (fields_from false (lines_of l.text))) + length l.rest ≡ length l.text + length (text_of (fields_from false (lines_of l.rest)));
  rest : rest_from false (lines_of l.text) ≡ rest_from false (lines_of l.rest);
  within : length l.rest ≤ length l.text;
}

abbrev pub decreases-each : goal.decreases-each
decreases-each l = length l.rest
