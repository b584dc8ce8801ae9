use Rattle.std.proofs.Common.{◌≡◌, ◌+◌, ◌∷◌, ap, subst, drop, map, arith}
use Rattle.mk_edit.specs.Histories.{text_now}
use Rattle.mk_field.specs.FilterViews.{round_of}
use Rattle.mk_letters.proofs.RoundsOfWords.{raw_next}
use Rattle.mk_field.proofs.RoundLemmas.{SoFar, round_at, round_on, round_refused}
use Rattle.mk_field.proofs.fields.edit_in_rounds.Goals as goal

pub edit-requires : goal.edit-requires
edit-requires c =
    let rounds = c.args.rounds.now in
    let i = c.loop-round.round-index in
    let x = c.round-item.result in
    let step : drop i rounds ≡ x ∷ drop (i + 1) rounds = raw_next i rounds x (omega (arith, c.loop-round-test.true)) c.round-item.is in
    round_at rounds i x (drop (i + 1) rounds) step c.requires

pub returns-in-Some-clause-edited : goal.returns-in-Some-clause-edited
returns-in-Some-clause-edited c = λ text begun.
    let rounds = c.args.rounds.now in
    let i = c.loop-round.round-index in
    let x = c.round-item.result in
    let step : drop i rounds ≡ x ∷ drop (i + 1) rounds = raw_next i rounds x (omega (arith, c.loop-round-test.true)) c.round-item.is in
    let made = rw c.in-Some.is at c.in_ok-refusal.ensures.made in
    round_refused c.args.path.now (map round_of rounds) (map round_of (drop (i + 1) rounds)) (round_of x) c.args.place text (text_now c.take_back.new.session) c.loop-round.session c.edit.new.session c.in-Some.reason
    (subst (λ rs. SoFar c.args.path.now (map round_of rounds) rs text c.loop-round.session) (ap (map round_of) step) (c.loop-round.invariant text begun)) made c.in_ok-take_back-in-Some.ensures

pub loop-round-preserved : goal.loop-round-preserved
loop-round-preserved c = λ text begun.
    let rounds = c.args.rounds.now in
    let i = c.loop-round.round-index in
    let x = c.round-item.result in
    let step : drop i rounds ≡ x ∷ drop (i + 1) rounds = raw_next i rounds x (omega (arith, c.loop-round-test.true)) c.round-item.is in
    let made = rw c.in-None.is at c.in_ok-refusal.ensures.made in
    round_on c.args.path.now (map round_of rounds) (map round_of (drop (i + 1) rounds)) (round_of x) text c.loop-round.session c.edit.new.session
    (subst (λ rs. SoFar c.args.path.now (map round_of rounds) rs text c.loop-round.session) (ap (map round_of) step) (c.loop-round.invariant text begun)) made
