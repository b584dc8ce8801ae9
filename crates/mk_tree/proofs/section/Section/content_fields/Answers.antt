use Rattle.std.proofs.Common.{◌≡◌, codes, subst}
use Rattle.std.specs.Prelude.{IfOk}
use Rattle.std.specs.Option.{option_map}
use Rattle.mk_head.specs.Types.{field_value, header_encoding}
use Rattle.mk_tree.proofs.section.Section.content_fields.Goals as goal

pub returns : goal.returns
returns c = record {
  media = subst (λ ls. IfOk c.content_fields_in.result (λ r. option_map (λ bytes. bytes.items) r.0 ≡ field_value (codes "Content-Type") ls)) c.field_bytes.ensures c.content_fields_in.ensures.media;
  encoding = subst (λ ls. IfOk c.content_fields_in.result (λ r. r.1 ≡ header_encoding ls)) c.field_bytes.ensures c.content_fields_in.ensures.encoding;
}
