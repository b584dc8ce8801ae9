use Rattle.std.proofs.Common.{◌∙◌, sym, subst}
use Rattle.std.proofs.lemmas.Result.{err_from_is_err_and}
use Rattle.mk_show.specs.GivenPieces.{IsLeft}
use Rattle.mk_show.proofs.Targets.{front_numbered}
use Rattle.mk_show.proofs.placing.put_numbered.Goals as goal

pub returns-in_err-put-clause-stopped : goal.returns-in_err-put-clause-stopped
returns-in_err-put-clause-stopped g c =
    let from = err_from_is_err_and c.from_residual-in_err-put.result c.from_residual-in_err-put.ensures.1 in
    let before = c.loop-number.invariant in
    rw from.1 (λ text left.
    let here : IsLeft c.loop-number.content text = subst (λ given. IsLeft given text) (sym before.untaken) left in
    let put = c.in_err-put.ensures.files text here in
    front_numbered c.args.clash _ _ _ c.args.name.now text _ c.loop-number.number (rw c.tries-number-end.ensures at c.loop-number-test.true) c.requires.kept before.same before.there
    (c.deref.ensures.value ∙ c.in_ok-target.ensures.written) put)
