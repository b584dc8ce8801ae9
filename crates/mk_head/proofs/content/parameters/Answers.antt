use Rattle.std.proofs.Common.{◌∷◌, ◌-◌, ◌∙◌, map, ap, sym, arith, get_or, take, drop, length}
use Rattle.std.proofs.lemmas.List.{drop_more, take_rest}
use Rattle.mk_head.specs.ValueViews.{parameter_of}
use Rattle.mk_head.proofs.Parts.{parameters_next}
use Rattle.mk_head.proofs.content.parameters.Goals as goal

pub each-preserved : goal.each-preserved
each-preserved c =
    parameters_next (map parameter_of c.each.params.items) (map parameter_of c.push_parameter.new.params.items) _ c.each.rest.now (take (length c.each.rest.now - 1) (drop 1 c.each.rest.now)) c.split_at.result.1.now c.split_at.result.0.now c.piece_end.result (get_or c.each.rest.now 0 0)
    (drop_more c.each.rest.now 0 0 (omega (arith, c.in-len1-up.len_at_least)) ∙ ap (λ xs. get_or c.each.rest.now 0 0 ∷ xs) (sym (take_rest c.each.rest.now 1)))
    c.piece_end.ensures.rest c.split_at.ensures.back c.piece_end.ensures.front c.split_at.ensures.front c.in_ok-push_parameter.ensures c.each.invariant
