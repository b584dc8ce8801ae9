use Rattle.std.proofs.Common.{◌∙◌, sym}
use Rattle.mk_wording.proofs.StretchLemmas.{first_found}
use Rattle.mk_wording.proofs.stretches.first_stretch.Goals as goal

pub returns-clause-is : goal.returns-clause-is
returns-clause-is c =
    first_found c.args.text.now c.split_at.result.0.now c.split_at.result.1.now c.split_at-2.result.0.now c.split_at-2.result.1.now c.split_at-3.result.0.now c.split_at-3.result.1.now c.split_at-4.result.0.now c.split_at-4.result.1.now
    c.first_len.result c.first_len-2.result
    (c.split_at.ensures.front ∙ sym c.mark_place.ensures.front) (c.split_at.ensures.back ∙ sym c.mark_place.ensures.rest)
    c.first_len.ensures.is c.split_at-2.ensures.front c.split_at-2.ensures.back
    (c.split_at-3.ensures.front ∙ sym c.comment_end.ensures.front) (c.split_at-3.ensures.back ∙ sym c.comment_end.ensures.rest)
    c.first_len-2.ensures.is c.split_at-4.ensures.front c.split_at-4.ensures.back
