use Rattle.std.proofs.Common.{◌∙◌, [], ap}
use Rattle.std.proofs.lemmas.Result.{IfOk-weaker}
use Rattle.mk_line.specs.Ascii.{slash}
use Rattle.mk_line.specs.Parting.{before, following}
use Rattle.mk_head.specs.Values.{typed_as}
use Rattle.mk_head.proofs.Parts.{type_appended}
use Rattle.mk_head.proofs.content.push_first_type.Goals as goal

pub returns-else-is_err-clause-appended : goal.returns-else-is_err-clause-appended
returns-else-is_err-clause-appended c =
    IfOk-weaker c.push_names-pushed.result _ _
    (λ _ last. type_appended c.args.value.now c.split_at.result.0.now c.names.result.0.now c.names.result.1.now c.args.text.now.items c.push_names-pushed.new.text.items c.piece_end.result
    c.split_at.ensures.front c.piece_end.ensures.front (c.names.ensures ∙ ap (λ x. typed_as (before slash x) (following slash x) []) c.strip.ensures) last)
    c.push_names-pushed.ensures.appended
