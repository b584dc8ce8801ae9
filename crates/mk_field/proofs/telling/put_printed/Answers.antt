use Rattle.std.proofs.Common.{sym}
use Rattle.std.proofs.lemmas.Result.{err_from_is_err_and}
use Rattle.mk_field.proofs.GatheredLemmas.{front_more, two_all, two_fault, two_some, two_well}
use Rattle.mk_field.proofs.telling.put_printed.Goals as goal

pub returns-in_err-put-clause-some : goal.returns-in_err-put-clause-some
returns-in_err-put-clause-some g c =
    let stopped = err_from_is_err_and c.from_residual.result c.from_residual.ensures.1 in
    rw stopped.1 (front_more c.parts.result.0.now c.parts.result.1.now _ _ _ _ _ (sym c.parts.ensures) c.in_err-put.ensures.some)

pub returns-clause-all : goal.returns-clause-all
returns-clause-all g c = two_all c.put-2.result c.parts.result.0.now c.parts.result.1.now _ _ _ _ _ _ _ c.parts.ensures c.in_ok-put.ensures.all c.put-2.ensures.all

pub returns-clause-some : goal.returns-clause-some
returns-clause-some g c = two_some c.put-2.result c.parts.result.0.now c.parts.result.1.now _ _ _ _ _ _ _ c.parts.ensures c.in_ok-put.ensures.all c.put-2.ensures.some

pub returns-clause-fault : goal.returns-clause-fault
returns-clause-fault g c = two_fault c.put-2.result _ _ _ c.in_ok-put.ensures.well c.put-2.ensures.fault

pub returns-clause-well : goal.returns-clause-well
returns-clause-well g c = two_well c.put-2.result _ _ _ c.in_ok-put.ensures.well c.put-2.ensures.well
