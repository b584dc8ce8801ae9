use Rattle.std.proofs.Common.{◌+◌, ◌-◌, ◌<◌, ◌∙◌, ℕ, ap, arith, drop, length, subst, sym, take}
use Rattle.mk_tree.specs.Sections.{head_text}
use Rattle.mk_edit.specs.RootFields.{lines_in, root_in, IsBehind}
use Rattle.mk_edit.specs.inner.Gaps.{without_gap}
use Rattle.mk_edit.proofs.GapFields.{after_inside, front_fields, place_inside, sliced}
use Rattle.mk_edit.proofs.PassedOver.{further_on}
use Rattle.mk_edit.proofs.RootEdits.{root_within}
use Rattle.mk_edit.proofs.root_fields.pass_front.Goals as goal

pub overflow_add-start : goal.overflow_add-start
overflow_add-start c =
    let text = without_gap c.args.text.now in
    omega (arith, after_inside text c.args.start c.args.size c.args.bytes c.args.k c.args.edit.now c.requires.fields c.requires.place, root_within text c.args.start c.args.size c.requires.fields, c.front_len.ensures.fits)

-- the field, or the gap
there : (c : goal.After-pass_over-passed) → IsBehind (lines_in (without_gap c.args.text.now)) (c.args.bytes + c.pass_over-passed.result.0) c.args.edit.now c.pass_over-passed.result.1
there c =
    let t = c.args.text.now in
    let text = without_gap t in
    let inside = place_inside text c.args.start c.args.size (length t.front - c.args.start) c.requires.fields c.requires.gap in
    let further : c.args.start + c.args.bytes < length t.front = omega (arith, c.if-front_len-start.false, c.front_len.ensures.front) in
    let from = c.args.start + c.args.bytes in
    let here = take (length c.front.result.now - from) (drop from c.front.result.now) in
    let part = sliced from c.front.result.now ∙ (ap (drop from) c.front.ensures ∙ front_fields t c.args.start c.args.size c.args.bytes c.requires.fields (omega (arith, further)) (omega (arith, further, inside))) in
    subst (λ (r : ℕ × ℕ). IsBehind (lines_in text) (c.args.bytes + r.0) c.args.edit.now r.1) (sym c.pass_over-passed.ensures.passed)
    (further_on (head_text (root_in text)) here c.args.edit.now c.args.bytes c.args.k (length t.front - c.args.start) c.requires.place c.requires.gap (omega (arith, further)) part)

pub overflow_add-result : goal.overflow_add-result
overflow_add-result c =
    let text = without_gap c.args.text.now in
    omega (arith, after_inside text c.args.start c.args.size (c.args.bytes + c.pass_over-passed.result.0) c.pass_over-passed.result.1 c.args.edit.now c.requires.fields (there c), root_within text c.args.start c.args.size c.requires.fields, c.front_len.ensures.fits)

pub returns-clause-place : goal.returns-clause-place
returns-clause-place c = there c
