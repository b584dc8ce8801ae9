use Rattle.std.proofs.Common.{◌≡◌, ◌∙◌, ◌++◌, ap, length}
use Rattle.mk_tree.specs.Sections.{head_text, body_text}
use Rattle.mk_decide.specs.WrapAnswers.{separator_text}
use Rattle.mk_decide.proofs.WrapPieces.{raw_apart, front_apart, rest_apart, front_size, rest_within, front_within}
use Rattle.mk_decide.proofs.wrapped_text.take_apart.Goals as goal

pub split_at-requires : goal.split_at-requires
split_at-requires c =
    let p = c.args.section.now in
    front_within c.args.raw.now (head_text p) (separator_text p ++ body_text p) (length c.head.result.now) (c.requires ∙ raw_apart p) (ap length c.head.ensures)

pub overflow_sub-rest : goal.overflow_sub-rest
overflow_sub-rest c =
    let p = c.args.section.now in
    rest_within c.split_at.result.1.now (separator_text p) (body_text p) (length c.body.result.now)
    (c.split_at.ensures.back ∙ rest_apart c.args.raw.now (head_text p) (separator_text p ++ body_text p) (length c.head.result.now) (c.requires ∙ raw_apart p) (ap length c.head.ensures))
    (ap length c.body.ensures)

pub returns-clause-head : goal.returns-clause-head
returns-clause-head c =
    let p = c.args.section.now in
    c.split_at.ensures.front ∙ front_apart c.args.raw.now (head_text p) (separator_text p ++ body_text p) (length c.head.result.now) (c.requires ∙ raw_apart p) (ap length c.head.ensures)

pub returns-clause-separator : goal.returns-clause-separator
returns-clause-separator c =
    let p = c.args.section.now in
    let rest : c.split_at.result.1.now ≡ separator_text c.args.section.now ++ body_text c.args.section.now =
    c.split_at.ensures.back ∙ rest_apart c.args.raw.now (head_text p) (separator_text p ++ body_text p) (length c.head.result.now) (c.requires ∙ raw_apart p) (ap length c.head.ensures) in
    c.split_at-2.ensures.front ∙ front_apart c.split_at.result.1.now (separator_text p) (body_text p) _ rest (front_size c.split_at.result.1.now (separator_text p) (body_text p) (length c.body.result.now) rest (ap length c.body.ensures))

pub returns-clause-body : goal.returns-clause-body
returns-clause-body c =
    let p = c.args.section.now in
    let rest : c.split_at.result.1.now ≡ separator_text c.args.section.now ++ body_text c.args.section.now =
    c.split_at.ensures.back ∙ rest_apart c.args.raw.now (head_text p) (separator_text p ++ body_text p) (length c.head.result.now) (c.requires ∙ raw_apart p) (ap length c.head.ensures) in
    c.split_at-2.ensures.back ∙ rest_apart c.split_at.result.1.now (separator_text p) (body_text p) _ rest (front_size c.split_at.result.1.now (separator_text p) (body_text p) (length c.body.result.now) rest (ap length c.body.ensures))
