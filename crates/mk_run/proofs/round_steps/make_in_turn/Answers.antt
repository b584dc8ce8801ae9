use Rattle.std.proofs.Common.{◌≡◌, ◌+◌, ◌∷◌, [], ap, refl, drop, map, arith}
use Rattle.std.proofs.Math.ListN.{drop_of_length-le}
use Rattle.std.proofs.lemmas.Result.{err_from_is_err_and}
use Rattle.mk_decide.specs.Answers.{refusal_of}
use Rattle.mk_field.specs.FilterViews.{round_of}
use Rattle.mk_letters.proofs.RoundsOfWords.{raw_next}
use Rattle.mk_field.proofs.RoundLemmas.{round_at}
use Rattle.mk_run.proofs.InRounds.{in_rounds_begun, in_rounds_done, in_rounds_next, in_rounds_refused}
use Rattle.mk_run.proofs.round_steps.make_in_turn.Goals as goal

pub loop-round-init : goal.loop-round-init
loop-round-init c = in_rounds_begun c.args.path.now (map round_of c.args.rounds.now) c.args.session.now c.in_ok-group.group c.in_ok-group.ensures

pub make_round-requires : goal.make_round-requires
make_round-requires c =
    let rounds = c.args.rounds.now in
    let i = c.loop-round.round-index in
    let x = c.round-item.result in
    let step_is : drop i rounds ≡ x ∷ drop (i + 1) rounds = raw_next i rounds x (omega (arith, c.loop-round-test.true)) c.round-item.is in
    round_at rounds i x (drop (i + 1) rounds) step_is c.requires.allowed

pub returns-in_err-make_round : goal.returns-in_err-make_round
returns-in_err-make_round c =
    let rounds = c.args.rounds.now in
    let i = c.loop-round.round-index in
    let x = c.round-item.result in
    let step_is : drop i rounds ≡ x ∷ drop (i + 1) rounds = raw_next i rounds x (omega (arith, c.loop-round-test.true)) c.round-item.is in
    let stopped = err_from_is_err_and c.from_residual-in_err-make_round.result c.from_residual-in_err-make_round.ensures.1 in
    rw (stopped.1, stopped.2) (
      refl,
      in_rounds_refused c.args.path.now (map round_of rounds) (map round_of (drop i rounds)) (map round_of (drop (i + 1) rounds)) (round_of x) c.args.session.now c.loop-round.group (refusal_of c.in_err-make_round.field-0.0)
          c.loop-round.invariant (ap (map round_of) step_is) c.requires.section c.in_err-make_round.ensures.1,
    )

pub loop-round-preserved : goal.loop-round-preserved
loop-round-preserved c =
    let rounds = c.args.rounds.now in
    let i = c.loop-round.round-index in
    let x = c.round-item.result in
    let step_is : drop i rounds ≡ x ∷ drop (i + 1) rounds = raw_next i rounds x (omega (arith, c.loop-round-test.true)) c.round-item.is in
    let made = c.in_ok-make_round.ensures in
    in_rounds_next c.args.path.now (map round_of rounds) (map round_of (drop i rounds)) (map round_of (drop (i + 1) rounds)) (round_of x) made.0
    c.args.session.now c.loop-round.group c.make_round.new.session c.loop-round.invariant (ap (map round_of) step_is) made.1

pub commit-requires : goal.commit-requires
commit-requires c = c.loop-round.invariant.first

pub returns : goal.returns
returns c =
    let rounds = c.args.rounds.now in
    let i = c.loop-round.round-index in
    let none : drop i rounds ≡ [] = drop_of_length-le rounds (omega (arith, c.loop-round-test.false)) in
    in_rounds_done c.args.path.now (map round_of rounds) (map round_of (drop i rounds)) c.args.session.now c.loop-round.group c.commit.new.self
    c.loop-round.invariant (ap (map round_of) none) c.requires.section c.in_ok-commit.ensures.ok
