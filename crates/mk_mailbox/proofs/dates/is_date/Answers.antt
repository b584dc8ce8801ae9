use Rattle.std.proofs.Common.{◌∙◌, sym}
use Rattle.mk_mailbox.proofs.DateParts.{date_by_year}
use Rattle.mk_mailbox.proofs.dates.is_date.Goals as goal

pub returns-then-begins_with_moment : goal.returns-then-begins_with_moment
returns-then-begins_with_moment c =
    date_by_year c.args.text.now c.is_year.result c.if-text-lt-SHORTEST_DATE.false (sym c.begins_with_moment.ensures ∙ c.if-begins_with_moment.true) c.is_year.ensures
