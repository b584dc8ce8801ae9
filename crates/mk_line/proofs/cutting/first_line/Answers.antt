use Rattle.std.proofs.Common.{sym, ◌∙◌, arith}
use Rattle.mk_line.proofs.Cuts.{cut_found, cut_unfound, front_apart, some_length, shorter}
use Rattle.mk_line.proofs.cutting.first_line.Goals as goal

pub returns-in-Some : goal.returns-in-Some
returns-in-Some c =
    let first = cut_found c.args.text.now c.in-Some.end _ c.in-Some.ensures c.ended_line.ensures in
    record { none = tt; some = first; rest = front_apart c.args.text.now _ _ first; less = shorter c.args.text.now _ (omega arith) (some_length _ (sym c.is_empty.ensures ∙ c.if-is_empty.false)) }

pub returns-in-None : goal.returns-in-None
returns-in-None c =
    let some = some_length _ (sym c.is_empty.ensures ∙ c.if-is_empty.false) in
    let first = cut_unfound c.args.text.now _ c.in-None.ensures some c.open_line.ensures in
    record { none = tt; some = first; rest = front_apart c.args.text.now _ _ first; less = shorter c.args.text.now _ some some }
