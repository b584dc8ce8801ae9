use Rattle.std.proofs.Common.{List, ℕ, ◌∙◌, ap, arith, drop, length}
use Rattle.mk_tree.specs.Sections.{head_text}
use Rattle.mk_edit.specs.RootFields.{lines_in, root_in}
use Rattle.mk_edit.specs.SilentEdits.{numbered}
use Rattle.mk_edit.specs.inner.Gaps.{without_gap}
use Rattle.mk_edit.proofs.GapFields.{after_inside, gap_back_at, run_left}
use Rattle.mk_edit.proofs.RootEdits.{refused_by, root_within}
use Rattle.mk_edit.proofs.root_fields.put_in.Goals as goal

pub overflow_add-start : goal.overflow_add-start
overflow_add-start c =
    let text = without_gap c.args.text.now in
    omega (arith, after_inside text c.args.start c.args.size c.pass_front-bytes.result.0 c.pass_front-bytes.result.1 c.args.edit.now c.requires.fields c.pass_front-bytes.ensures.place, root_within text c.args.start c.args.size c.requires.fields, c.pass_front-bytes.ensures.fits)

pub fields_after-requires-clause-within : goal.fields_after-requires-clause-within
fields_after-requires-clause-within c =
    after_inside (without_gap c.args.text.now) c.args.start c.args.size c.pass_front-bytes.result.0 c.pass_front-bytes.result.1 c.args.edit.now c.requires.fields c.pass_front-bytes.ensures.place

pub put_at-requires-clause-run : goal.put_at-requires-clause-run
put_at-requires-clause-run c =
    run_left (head_text (root_in (without_gap c.args.text.now))) c.fields_after.result.now c.pass_front-bytes.result.0 c.pass_front-bytes.result.1 c.args.edit.now
    (c.fields_after.ensures ∙ ap (λ (x : List ℕ). drop c.pass_front-bytes.result.0 (head_text (root_in x))) c.put_back.ensures.same) c.pass_front-bytes.ensures.place

pub returns-clause-gap : goal.returns-clause-gap
returns-clause-gap c =
    gap_back_at (lines_in (without_gap c.args.text.now)) c.args.edit.now (length c.args.text.now.front) c.args.start c.pass_front-bytes.result.0 c.pass_front-bytes.result.1 (length c.put_back.new.self.front) c.requires.gap c.pass_front-bytes.ensures.place c.put_back.ensures.front

pub returns-clause-err : goal.returns-clause-err
returns-clause-err c =
    refused_by (without_gap c.args.text.now) (numbered c.args.edit.now c.args.edit.now.k) c.put_at.result
    (c.put_at.ensures.err (head_text (root_in (without_gap c.args.text.now))) (c.fields_after.ensures ∙ ap (λ (x : List ℕ). drop c.pass_front-bytes.result.0 (head_text (root_in x))) c.put_back.ensures.same) c.pass_front-bytes.ensures.place)
