use Rattle.std.proofs.Common.{◌<◌, ◌+◌, ◌-◌, ◌∙◌, ap, arith, drop, length, sym, take}
use Rattle.std.proofs.lemmas.List.{length-drop, length-take-le}
use Rattle.mk_tree.specs.Sections.{head_text}
use Rattle.mk_edit.specs.RootFields.{lines_in, root_in}
use Rattle.mk_edit.specs.inner.Gaps.{without_gap}
use Rattle.mk_edit.proofs.GapFields.{next_place, part_before_gap, place_inside, sliced}
use Rattle.mk_edit.proofs.RootEdits.{root_within}
use Rattle.mk_edit.proofs.root_fields.next_fields.Goals as goal

pub overflow_add-start : goal.overflow_add-start
overflow_add-start c =
    let text = without_gap c.args.text.now in
    omega (arith, place_inside text c.args.start c.args.size c.args.known c.requires.fields c.requires.known, root_within text c.args.start c.args.size c.requires.fields, c.front_len.ensures.fits)

pub returns-then-front_len-start-clause-part : goal.returns-then-front_len-start-clause-part
returns-then-front_len-start-clause-part c =
    let t = c.args.text.now in
    let from = c.args.start + c.args.known in
    let head = head_text (root_in (without_gap t)) in
    let whole = sliced from c.front.result.now in
    let less : c.args.known < length t.front - c.args.start = omega (arith, c.if-front_len-start.true, c.front_len.ensures.front) in
    let part = part_before_gap t c.args.start c.args.size c.args.known c.front.result.now c.requires.fields less (place_inside (without_gap t) c.args.start c.args.size (length t.front - c.args.start) c.requires.fields c.requires.gap) c.front.ensures in
    whole ∙ (part.0 ∙ ap (λ xs. take (length xs) (drop c.args.known head)) (sym whole))

pub fields_after-requires-clause-within : goal.fields_after-requires-clause-within
fields_after-requires-clause-within c = place_inside (without_gap c.args.text.now) c.args.start c.args.size c.args.known c.requires.fields c.requires.known

pub split_at-requires : goal.split_at-requires
split_at-requires c =
    let text = without_gap c.args.text.now in
    omega (arith, c.saturating_sub.ensures, place_inside text c.args.start c.args.size c.args.passed c.requires.fields c.requires.passed, c.requires.fields.takes, ap length c.fields_after.ensures, length-drop c.args.known (head_text (root_in text)))

pub returns-clause-place : goal.returns-clause-place
returns-clause-place c =
    next_place (lines_in (without_gap c.args.text.now)) c.args.known c.args.passed (length c.split_at.result.0.now) c.requires.known c.requires.passed (c.split_at.ensures.front_len ∙ c.saturating_sub.ensures)
