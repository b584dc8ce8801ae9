use Rattle.std.proofs.Common.{◌∙◌, ap}
use Rattle.std.proofs.lemmas.Result.{IfOk-weaker}
use Rattle.mk_line.specs.Ascii.{slash}
use Rattle.mk_line.specs.Parting.{before, following}
use Rattle.mk_head.specs.Values.{Plain, pieces, stripped, typed_as, type_of_pieces}
use Rattle.mk_head.proofs.Parts.{typed_parts}
use Rattle.mk_head.proofs.content.content_type.Goals as goal

pub returns : goal.returns
returns c =
    IfOk-weaker c.typed.result _ _
    (λ t p. p
    ∙ (ap (typed_as (before slash (stripped c.split_at.result.0.now)) (following slash (stripped c.split_at.result.0.now))) c.in_ok-params.ensures
    ∙ (typed_parts c.as_slice-text.result.now c.split_at.result.0.now c.split_at.result.1.now c.piece_end.result c.piece_end.ensures.front c.piece_end.ensures.rest
    c.split_at.ensures.front c.split_at.ensures.back
    ∙ ap (λ x. type_of_pieces (pieces Plain x)) (c.as_slice-text.ensures.value ∙ c.in_ok-kept.ensures))))
    c.typed.ensures
