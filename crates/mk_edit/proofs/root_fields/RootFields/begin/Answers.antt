use Rattle.std.proofs.Common.{List, ℕ, ◌-◌, ◌∙◌, subst, sym}
use Rattle.std.specs.Cmp.Lexicographic.{same_text}
use Rattle.mk_edit.specs.RootFields.{lines_in, IsBehind}
use Rattle.mk_edit.specs.inner.Gaps.{without_gap}
use Rattle.mk_edit.proofs.GapFields.{after_known, after_nothing, after_passed}
use Rattle.mk_edit.proofs.root_fields.RootFields.begin.Goals as goal

pub returns-then-eq-clause-place : goal.returns-then-eq-clause-place
returns-then-eq-clause-place c =
    let passed = c.self.inside.passed in
    subst (λ (x : List ℕ). IsBehind (lines_in x) passed.bytes c.args.edit.now (c.args.edit.now.k - passed.fields)) c.self.view_is
    (after_passed (lines_in (without_gap c.self.inside.text)) c.args.edit.now passed.name.items passed.bytes passed.fields c.self.invariant.passed c.if-self-edit.true (sym c.as_slice.ensures.value ∙ same_text c.as_slice.result.now c.args.edit.now.name.now c.if-eq.ensures))

pub returns-then-may_have-clause-place : goal.returns-then-may_have-clause-place
returns-then-may_have-clause-place c = after_nothing c.args.self.now c.args.edit.now c.requires

pub returns-clause-place : goal.returns-clause-place
returns-clause-place c =
    let known = c.self-2.inside.known in
    subst (λ (x : List ℕ). IsBehind (lines_in x) known.bytes c.args.edit.now c.args.edit.now.k) (c.self-2.view_is ∙ c.learn.ensures)
    (after_known (lines_in (without_gap c.self-2.inside.text)) c.args.edit.now known.bytes known.marks c.self-2.invariant.names (sym c.may_have.ensures ∙ c.if-may_have.false) c.requires)
