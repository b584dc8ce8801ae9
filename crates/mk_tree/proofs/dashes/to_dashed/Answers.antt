use Rattle.std.proofs.Common.{ℕ, List, None, Some, sym, ◌∙◌, ap, subst}
use Rattle.memchr.specs.Find.{FindsNeedle}
use Rattle.mk_line.specs.Lines.{cut}
use Rattle.mk_tree.specs.Upto.{beyond}
use Rattle.mk_tree.proofs.DashedLines.{found, unfound, fronts, none_left}
use Rattle.mk_tree.proofs.dashes.to_dashed.Goals as goal

pub returns-in-Some-clause-rest : goal.returns-in-Some-clause-rest
returns-in-Some-clause-rest c = λ bs.
    let P : List ℕ → Type 0 = λ needle. FindsNeedle c.args.text.now needle 0 (Some c.in-Some.feed) in
    found bs c.args.text.now c.in-Some.feed (sym c.starts_with.ensures.value ∙ c.if-starts_with.false) (subst P c.requires c.in-Some.ensures)

pub returns-in-Some-clause-front : goal.returns-in-Some-clause-front
returns-in-Some-clause-front c = λ bs. fronts bs c.args.text.now _ (returns-in-Some-clause-rest c bs)

pub returns-in-None-clause-rest : goal.returns-in-None-clause-rest
returns-in-None-clause-rest c = λ bs.
    let P : List ℕ → Type 0 = λ needle. FindsNeedle c.args.text.now needle 0 None in
    unfound bs c.args.text.now (sym c.starts_with.ensures.value ∙ c.if-starts_with.false) (subst P c.requires c.in-None.ensures)
    ∙ sym (ap (λ xs. beyond bs (cut xs)) (none_left c.args.text.now))

pub returns-in-None-clause-front : goal.returns-in-None-clause-front
returns-in-None-clause-front c = λ bs. fronts bs c.args.text.now _ (returns-in-None-clause-rest c bs)
