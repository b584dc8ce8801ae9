use Rattle.std.proofs.Common.{◌≡◌, ◌∙◌, ◌∷◌, [], true, ap, sym, is_some, map, not, arith}
use Rattle.mk_field.specs.FilterViews.{round_of}
use Rattle.mk_field.proofs.RoundLemmas.{round_at}
use Rattle.mk_mail.specs.Apart.{has_section}
use Rattle.mk_run.proofs.InRounds.{only_item, round_does}
use Rattle.mk_run.proofs.round_steps.make_rounds.Goals as goal

pub make_round-requires : goal.make_round-requires
make_round-requires c =
    let rounds = c.args.rounds.now in
    let x = c.round-item.result in
    let one : rounds ≡ x ∷ [] = only_item rounds x (omega arith) (omega arith) c.round-item.is in
    round_at rounds 0 x [] one c.requires

pub returns-in-len1 : goal.returns-in-len1
returns-in-len1 c =
    let rounds = c.args.rounds.now in
    let x = c.round-item.result in
    let one : rounds ≡ x ∷ [] = only_item rounds x (omega arith) (omega arith) c.round-item.is in
    let there : has_section c.args.path.now c.doc.result.now ≡ true = ap is_some (sym c.section.ensures) ∙ (c.is_none.ensures ∙ ap not c.if-is_none.false) in
    let section = ap (has_section c.args.path.now) (sym c.doc.ensures) ∙ there in
    round_does c.make_round.result c.args.path.now (map round_of rounds) (round_of x) c.args.session.now c.make_round.new.session (ap (map round_of) one) section c.make_round.ensures
