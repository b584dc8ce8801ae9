use Rattle.std.proofs.Common.{length, sym, ◌∙◌, arith}
use Rattle.std.proofs.lemmas.Bool.{eqb-true}
use Rattle.mk_code.proofs.WholeLines.{stands_whole}
use Rattle.mk_code.proofs.qp_encoding.stands_whole.Goals as goal

pub returns : goal.returns
returns c = λ same.
    stands_whole c.args.line.now c.in-len2-up.len_at_least (omega arith)
    (sym c.run_of.ensures.front ∙ eqb-true c.run_of.result (length c.args.line.now) same)
    (sym c.is_guarded.ensures ∙ c.if-is_guarded.false)
    (sym c.is_blank.ensures ∙ c.if-is_blank.false)
