use Rattle.mk_line.proofs.Counted.{counted_open, counted_closed}
use Rattle.mk_line.proofs.counting.line_count.Goals as goal

pub returns-then-ends_open : goal.returns-then-ends_open
returns-then-ends_open c = counted_open c.args.text.now c.count_of-feeds.result c.ends_open.result c.count_of-feeds.ensures.count c.ends_open.ensures c.if-ends_open.true

pub returns-else-ends_open : goal.returns-else-ends_open
returns-else-ends_open c = counted_closed c.args.text.now c.count_of-feeds.result c.ends_open.result c.count_of-feeds.ensures.count c.ends_open.ensures c.if-ends_open.false
