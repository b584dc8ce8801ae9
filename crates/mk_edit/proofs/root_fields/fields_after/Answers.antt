use Rattle.std.proofs.Common.{◌∙◌, ◌+◌, ◌-◌, ap, arith, drop, length, take}
use Rattle.std.proofs.lemmas.List.{length-drop}
use Rattle.mk_edit.specs.inner.Gaps.{without_gap}
use Rattle.mk_edit.proofs.GapFields.{gap_fields, parts_size}
use Rattle.mk_edit.proofs.RootEdits.{root_within}
use Rattle.mk_edit.proofs.root_fields.fields_after.Goals as goal

pub overflow_add-start : goal.overflow_add-start
overflow_add-start c = omega (arith, root_within (without_gap c.args.text.now) c.args.start c.args.size c.requires.fields)

pub split_at-requires : goal.split_at-requires
split_at-requires c = omega (arith, root_within (without_gap c.args.text.now) c.args.start c.args.size c.requires.fields, parts_size c.args.text.now, ap length c.rest.ensures)

pub split_at-requires-2 : goal.split_at-requires-2
split_at-requires-2 c =
    omega (arith, root_within (without_gap c.args.text.now) c.args.start c.args.size c.requires.fields, parts_size c.args.text.now, ap length c.rest.ensures, ap length c.split_at.ensures.back, length-drop (c.args.start + c.args.bytes - c.front_len-front.result) c.rest.result.now)

pub returns : goal.returns
returns c =
    c.split_at-2.ensures.front
    ∙ (ap (take (c.args.size - c.args.bytes)) (c.split_at.ensures.back ∙ (ap (drop (c.args.start + c.args.bytes - c.front_len-front.result)) c.rest.ensures ∙ ap (λ n. drop (c.args.start + c.args.bytes - n) c.args.text.now.rest) c.front_len-front.ensures.front))
    ∙ gap_fields c.args.text.now c.args.start c.args.size c.args.bytes c.requires.fields c.requires.within c.requires.front)
