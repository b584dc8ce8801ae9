use Rattle.std.proofs.Common.{◌≡◌, arith}
use Rattle.mk_show.specs.inner.SaidAnswers.{said_of_answer}
use Rattle.mk_show.proofs.TakenInTurn.{taken_more, taken_whole}
use Rattle.mk_show.proofs.portions.given_all.Goals as goal

pub loop-path-preserved : goal.loop-path-preserved
loop-path-preserved c =
    let first = said_of_answer c.in_ok-answer.answer in
    let taken = rw c.deref.ensures.value at c.in_ok-answer.ensures in
    let sofar = said_of_answer c.loop-path.all in
    let output = rw c.deref-in-loop-path.ensures.value at c.in_ok-extend_from_slice.ensures.items in
    let errors = rw c.deref-in-loop-path-2.ensures.value at c.in_ok-extend_from_slice-2.ensures.items in
    taken_more c.args.wanted c.args.paths.now c.loop-path.path-index c.path-item.result c.args.doc.now sofar first _ c.loop-path-test.true c.path-item.is taken (λ i. record { output = output i; errors = errors i }) c.loop-path.invariant

pub returns : goal.returns
returns c = taken_whole c.args.wanted c.args.paths.now c.loop-path.path-index c.args.doc.now (said_of_answer c.loop-path.all) (omega (arith, c.loop-path-test.false)) c.loop-path.invariant
