use Rattle.mk_tree.proofs.DashedLines.{none_opened, whole_upto, none_left}
use Rattle.mk_tree.proofs.marking.skip_unmarked.Goals as goal

pub returns-then-is_empty-clause-front : goal.returns-then-is_empty-clause-front
returns-then-is_empty-clause-front c =
    whole_upto c.args.opened.now c.args.text.now _ c.is_empty.result c.is_empty.ensures c.if-is_empty.true (none_left c.args.text.now)

pub returns-then-is_empty-clause-rest : goal.returns-then-is_empty-clause-rest
returns-then-is_empty-clause-rest c =
    none_opened c.args.opened.now c.args.text.now _ c.is_empty.result c.is_empty.ensures c.if-is_empty.true (none_left c.args.text.now)
