use Rattle.std.proofs.Common.{Some, ap, sym, ◌∙◌, false, refl}
use Rattle.mk_line.specs.Lines.{cut as lines_of}
use Rattle.mk_head.specs.Split.{fields_from}
use Rattle.mk_head.specs.Types.{header_encoding}
use Rattle.std.specs.Option.{option_map_or}
use Rattle.mk_head.specs.Values.{content_type_of, unled}
use Rattle.mk_head.specs.ValueViews.{media_type_of}
use Rattle.mk_tree.specs.Steps.{kind_described}
use Rattle.mk_tree.specs.inner.Said.{begins_leaf, value_said}
use Rattle.mk_tree.proofs.KindsSaid.{kind_by, kind_some}
use Rattle.mk_tree.proofs.LeafTypes.{leaf_type}
use Rattle.mk_head.specs.Encodings.{encoding_of}
use Rattle.mk_head.specs.declared.encodings.Encoding.TheVariants.{Identity}
use Rattle.mk_tree.proofs.describing.describe.Goals as goal

pub returns-then-is_surely_leaf : goal.returns-then-is_surely_leaf
returns-then-is_surely_leaf c =
    let fields = fields_from false (lines_of c.args.head.now) in
    sym (kind_by fields c.args.digest (header_encoding fields) (Some c.in_ok-value-in-Some.value.items) refl (ap (λ v. Some v) c.in_ok-value-in-Some.ensures ∙ (sym (ap value_said c.in-Some.is) ∙ c.said_in.ensures.media))
    ∙ leaf_type c.in_ok-value-in-Some.value.items (header_encoding fields) (ap (λ v. begins_leaf (unled v)) (sym c.deref.ensures.value) ∙ (sym c.is_surely_leaf.ensures ∙ c.if-is_surely_leaf.true)))

pub returns-in_ok-content_type-in-Some : goal.returns-in_ok-content_type-in-Some
returns-in_ok-content_type-in-Some c =
    kind_some (fields_from false (lines_of c.args.head.now)) c.args.digest c.in_ok-encoding-in-Some.encoding c.in_ok-value-in-Some.value.items (media_type_of c.in_ok-content_type-in-Some.field-0) kind_described c.describe_type.result
    (c.in_ok-encoding-in-Some.ensures ∙ ap (λ o. option_map_or encoding_of o Identity) c.said_in.ensures.encoding)
    (ap (λ v. Some v) c.in_ok-value-in-Some.ensures ∙ (sym (ap value_said c.in-Some.is) ∙ c.said_in.ensures.media))
    (c.in_ok-content_type-in-Some.ensures ∙ ap content_type_of c.deref-in-Some.ensures.value)
    c.describe_type.ensures
