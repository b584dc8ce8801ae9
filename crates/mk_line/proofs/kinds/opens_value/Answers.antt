use Rattle.std.proofs.Common.{◌==◌, ◌∙◌, ap, sym, slice_index, length, le-ltb}
use Rattle.mk_line.proofs.Starts.{past_at, past_beyond}
use Rattle.mk_line.proofs.kinds.opens_value.Goals as goal

pub returns-then-blanks-content : goal.returns-then-blanks-content
returns-then-blanks-content c = ap (λ n. slice_index c.args.content.now n == 58) c.leading_blanks-blanks.ensures.front ∙ sym (past_at c.args.content.now)

pub returns-else-blanks-content : goal.returns-else-blanks-content
returns-else-blanks-content c =
    le-ltb c.leading_blanks-blanks.result (length c.args.content.now) c.if-blanks-content.false
    ∙ past_beyond c.args.content.now c.leading_blanks-blanks.result c.leading_blanks-blanks.ensures.front c.if-blanks-content.false
