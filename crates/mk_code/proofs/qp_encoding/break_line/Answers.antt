use Rattle.mk_code.proofs.Packing.{broken}
use Rattle.mk_code.proofs.qp_encoding.break_line.Goals as goal

pub returns-clause-told : goal.returns-clause-told
returns-clause-told c =
    broken c.args.eol.now c.args.column c.args.byte c.args.more.now c.args.out.now.items _ _ c.width.result c.limit.result c.width.ensures.value c.limit.ensures c.if-column-width.false c.in_ok-push.ensures.items c.in_ok-extend_from_slice.ensures.items
