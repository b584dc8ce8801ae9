use Rattle.std.proofs.Common.{◌≡◌, ◌∙◌, true, ap, is_some, not}
use Rattle.std.specs.Str.{str_to_ascii_lowercase}
use Rattle.mk_line.specs.Parting.{before, following}
use Rattle.mk_types.specs.FileTypes.{full_stop, type_in}
use Rattle.mk_types.proofs.RowsLookedUp.{separator_found, type_of_named}
use Rattle.mk_types.proofs.types.media_type.Goals as goal

pub returns : goal.returns
returns c =
    let found : is_some (following full_stop c.after_last-name.result.now) ≡ true = separator_found (λ p. p.0.now ≡ before full_stop c.after_last-name.result.now) c.split_at_first.result (following full_stop c.after_last-name.result.now) (λ p. p.1.now) c.split_at_first.ensures.none c.split_at_first.ensures.some ∙ (c.is_none.ensures ∙ ap not c.if-is_none.false) in
    type_of_named c.args.path.now c.after_last-name.result.now c.after_last.result.now c.by_ending.result.now c.after_last-name.ensures found c.after_last.ensures (c.by_ending.ensures ∙ ap (λ rs. type_in rs (str_to_ascii_lowercase c.after_last.result.now)) c.types.ensures)
