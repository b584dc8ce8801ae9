use Rattle.std.proofs.Common.{◌≡◌, ap, sym, ◌∙◌, length, map}
use Rattle.std.proofs.lemmas.List.{length-map}
use Rattle.mk_head.specs.Values.{param_of}
use Rattle.mk_head.specs.ValueViews.{parameter_of}
use Rattle.mk_param.specs.Said.{text_by_lookup, said_text}
use Rattle.mk_param.specs.SegmentViews.{value_at}
use Rattle.mk_param.proofs.Joined.{said_same}
use Rattle.mk_param.proofs.said.text_of.Goals as goal

pub returns : goal.returns
unfolding said_text
returns c =
    let params = map parameter_of c.args.media.now.params.items in
    let count : length c.as_slice-params.result.now ≡ length params = ap length c.as_slice-params.ensures.value ∙ sym (length-map c.args.media.now.params.items parameter_of) in
    let values : text_by_lookup (value_at c.in_ok-values.values) (length c.as_slice-params.result.now) c.args.name.now ≡ text_by_lookup (λ asked. param_of asked params) (length params) c.args.name.now =
    said_same (value_at c.in_ok-values.values) (λ asked. param_of asked params) (rw c.as_slice-params.ensures.value at c.in_ok-values.ensures) (length c.as_slice-params.result.now) c.args.name.now
    ∙ ap (λ most. text_by_lookup (λ asked. param_of asked params) most c.args.name.now) count in
    rw (← values) c.said.ensures
