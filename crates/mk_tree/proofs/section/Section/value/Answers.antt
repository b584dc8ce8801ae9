use Rattle.std.proofs.Common.{◌≡◌, subst}
use Rattle.std.specs.Prelude.{IfOk}
use Rattle.std.specs.Option.{option_map}
use Rattle.mk_head.specs.Types.{field_value}
use Rattle.mk_tree.proofs.section.Section.value.Goals as goal

pub returns : goal.returns
returns c = subst (λ ls. IfOk c.value_in.result (λ value. option_map (λ bytes. bytes.items) value ≡ field_value c.args.name.now ls)) c.field_bytes.ensures c.value_in.ensures
