use Rattle.std.proofs.Common.{◌≡◌, ◌∙◌, ◌+◌, ◌∷◌, [], true, ap, subst, sym, drop, map, arith}
use Rattle.std.proofs.Math.ListN.{drop_of_length-le}
use Rattle.std.specs.List.{list_all}
use Rattle.mk_decide.specs.Views.{edit_of}
use Rattle.mk_edit.specs.HeaderEdits.{edits_header}
use Rattle.mk_edit.specs.Histories.{text_now}
use Rattle.mk_mail.specs.Letters.{root_path}
use Rattle.mk_mail.specs.Rounds.{round_edits}
use Rattle.mk_field.specs.FilterViews.{round_of}
use Rattle.mk_field.proofs.HeaderRounds.{SoFarBy, refused_round, round_by}
use Rattle.mk_letters.proofs.RoundsOfWords.{raw_next}
use Rattle.mk_field.proofs.RoundLemmas.{round_at}
use Rattle.mk_field.proofs.headers.edit_header.Goals as goal

pub edits_at-requires : goal.edits_at-requires
edits_at-requires c =
    let rounds = c.args.rounds.now in
    let i = c.loop-round.round-index in
    let x = c.round-item.result in
    let step : drop i rounds ≡ x ∷ drop (i + 1) rounds = raw_next i rounds x (omega (arith, c.loop-round-test.true)) c.round-item.is in
    round_at rounds i x (drop (i + 1) rounds) step c.requires

pub returns-in-Some : goal.returns-in-Some
returns-in-Some c = record {
  told = λ body.
      (let rounds = c.args.rounds.now in
      let i = c.loop-round.round-index in
      let x = c.round-item.result in
      let h = c.loop-round.session in
      let es = map edit_of c.deref-in-loop-round.result.now in
      let step : drop i rounds ≡ x ∷ drop (i + 1) rounds = raw_next i rounds x (omega (arith, c.loop-round-test.true)) c.round-item.is in
      let asked : es ≡ round_edits root_path (text_now h) (round_of x) = ap (map edit_of) c.deref-in-loop-round.ensures.value ∙ (c.in_ok-edits.ensures ∙ ap (λ t. round_edits root_path t (round_of x)) c.doc-in-loop-round.ensures) in
      let silent : list_all edits_header es ≡ true = ap (λ v. list_all edits_header (map edit_of v)) (c.deref-in-loop-round.ensures.value ∙ sym c.deref.ensures.value) ∙ (sym c.edit_headers.ensures ∙ c.if-not-edit_headers.false) in
      let made = rw c.in-Some.is at c.in_ok-reason.ensures.made in
      let named = rw c.in-Some.is at c.in_ok-reason.ensures.named in
      refused_round (map round_of rounds) (map round_of (drop (i + 1) rounds)) (round_of x) es c.args.header.now h c.make_edits.new.session c.in-Some.reason body
      asked silent
      (subst (λ rs. SoFarBy (map round_of rounds) rs c.args.header.now h) (ap (map round_of) step) c.loop-round.invariant) made named);
}

pub loop-round-preserved : goal.loop-round-preserved
loop-round-preserved c =
    let rounds = c.args.rounds.now in
    let i = c.loop-round.round-index in
    let x = c.round-item.result in
    let h = c.loop-round.session in
    let es = map edit_of c.deref-in-loop-round.result.now in
    let step : drop i rounds ≡ x ∷ drop (i + 1) rounds = raw_next i rounds x (omega (arith, c.loop-round-test.true)) c.round-item.is in
    let asked : es ≡ round_edits root_path (text_now h) (round_of x) = ap (map edit_of) c.deref-in-loop-round.ensures.value ∙ (c.in_ok-edits.ensures ∙ ap (λ t. round_edits root_path t (round_of x)) c.doc-in-loop-round.ensures) in
    let silent : list_all edits_header es ≡ true = ap (λ v. list_all edits_header (map edit_of v)) (c.deref-in-loop-round.ensures.value ∙ sym c.deref.ensures.value) ∙ (sym c.edit_headers.ensures ∙ c.if-not-edit_headers.false) in
    let made = rw c.in-None.is at c.in_ok-reason.ensures.made in
    round_by (map round_of rounds) (map round_of (drop (i + 1) rounds)) (round_of x) es c.args.header.now h c.make_edits.new.session
    asked silent
    (subst (λ rs. SoFarBy (map round_of rounds) rs c.args.header.now h) (ap (map round_of) step) c.loop-round.invariant) made

pub returns : goal.returns
returns c =
    let rounds = c.args.rounds.now in
    let i = c.loop-round.round-index in
    let none : drop i rounds ≡ [] = drop_of_length-le rounds (omega (arith, c.loop-round-test.false)) in
    let done = subst (λ rs. SoFarBy (map round_of rounds) rs c.args.header.now c.loop-round.session) (ap (map round_of) none) c.loop-round.invariant in
    record { told = λ body. done.made body }
