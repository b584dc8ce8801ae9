use Rattle.std.proofs.Common.{◌≡◌, subst}
use Rattle.std.specs.Prelude.{IfOk}
use Rattle.mk_head.specs.Types.{header_encoding}
use Rattle.mk_tree.proofs.section.Section.encoding.Goals as goal

pub returns : goal.returns
returns c = subst (λ ls. IfOk c.encoding_in.result (λ encoding. encoding ≡ header_encoding ls)) c.field_bytes.ensures c.encoding_in.ensures
