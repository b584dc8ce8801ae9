use Rattle.std.proofs.Common.{sym, ◌∙◌}
use Rattle.std.specs.Str.{str_to_ascii_lowercase}
use Rattle.mk_code.proofs.CharsetNames.{no_table_yet, table_found}
use Rattle.mk_code.proofs.charsets.upper_in.Goals as goal

pub returns-then-has_label : goal.returns-then-has_label
returns-then-has_label c =
    table_found c.args.tables.now (str_to_ascii_lowercase c.args.charset.now) c.loop-table.table-index _ c.loop-table-test.true c.loop-table.invariant (sym c.has_label.ensures ∙ c.if-has_label.true)

pub loop-table-preserved : goal.loop-table-preserved
loop-table-preserved c =
    no_table_yet c.args.tables.now (str_to_ascii_lowercase c.args.charset.now) c.loop-table.table-index _ c.loop-table-test.true c.loop-table.invariant (sym c.has_label.ensures ∙ c.if-has_label.false)
