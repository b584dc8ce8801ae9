use Rattle.std.proofs.Common.{List, ℕ, None, Some, subst, sym, ◌∙◌}
use Rattle.memchr.specs.Find.{FindsNeedle}
use Rattle.mk_mailbox.proofs.FoundLines.{found, unfound}
use Rattle.mk_mailbox.proofs.stretches.Stretches.size.Goals as goal

pub returns-in-Some-clause-quiet : goal.returns-in-Some-clause-quiet
returns-in-Some-clause-quiet c =
    let P : List ℕ → Type 0 = λ needle. FindsNeedle c.args.bytes.now needle 0 (Some c.in-Some.feed) in
    found c.args.bytes.now c.in-Some.feed (sym c.starts_with.ensures.value ∙ c.if-starts_with.false) (subst P c.args.self.now.finds c.in-Some.ensures)

pub returns-in-None-clause-quiet : goal.returns-in-None-clause-quiet
returns-in-None-clause-quiet c =
    let P : List ℕ → Type 0 = λ needle. FindsNeedle c.args.bytes.now needle 0 None in
    unfound c.args.bytes.now c.end_of_lines.result (sym c.starts_with.ensures.value ∙ c.if-starts_with.false) (subst P c.args.self.now.finds c.in-None.ensures) c.end_of_lines.ensures.within c.end_of_lines.ensures.whole
