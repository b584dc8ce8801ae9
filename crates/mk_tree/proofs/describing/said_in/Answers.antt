use Rattle.std.proofs.Common.{codes, ap, sym, ◌∙◌}
use Rattle.mk_tree.specs.inner.Said.{first_value, said_first}
use Rattle.mk_tree.proofs.FieldValues.{said_by_found, value_among}
use Rattle.mk_tree.proofs.describing.said_in.Goals as goal

pub loop-field-init : goal.loop-field-init
loop-field-init c = record {
  media = ap (first_value (codes "Content-Type")) (c.into_iter-field-iterator.ensures.into_iter_gives ∙ c.each_field-field-items.ensures.fields) ∙ sym (value_among (codes "Content-Type") c.args.head.now);
  encoding = ap (first_value (codes "Content-Transfer-Encoding")) (c.into_iter-field-iterator.ensures.into_iter_gives ∙ c.each_field-field-items.ensures.fields) ∙ sym (value_among (codes "Content-Transfer-Encoding") c.args.head.now);
}

pub returns-then-is_some-2-clause-media : goal.returns-then-is_some-2-clause-media
returns-then-is_some-2-clause-media c =
    said_by_found (codes "Content-Type") c.first_named-media.result c.next.new.self (sym c.is_some.ensures ∙ c.if-is_some.true)
    ∙ (c.first_named-media.ensures c.next.new.self ∙ (ap (said_first (codes "Content-Type") c.loop-field.media) (sym c.in-Some.ensures.steps) ∙ c.loop-field.invariant.media))

pub returns-then-is_some-2-clause-encoding : goal.returns-then-is_some-2-clause-encoding
returns-then-is_some-2-clause-encoding c =
    said_by_found (codes "Content-Transfer-Encoding") c.first_named-encoding.result c.next.new.self (sym c.is_some-then-is_some.ensures ∙ c.if-is_some-2.true)
    ∙ (c.first_named-encoding.ensures c.next.new.self ∙ (ap (said_first (codes "Content-Transfer-Encoding") c.loop-field.encoding) (sym c.in-Some.ensures.steps) ∙ c.loop-field.invariant.encoding))

pub loop-field-preserved : goal.loop-field-preserved
loop-field-preserved c = record {
  media = c.first_named-media.ensures c.next.new.self ∙ (ap (said_first (codes "Content-Type") c.loop-field.media) (sym c.in-Some.ensures.steps) ∙ c.loop-field.invariant.media);
  encoding = c.first_named-encoding.ensures c.next.new.self ∙ (ap (said_first (codes "Content-Transfer-Encoding") c.loop-field.encoding) (sym c.in-Some.ensures.steps) ∙ c.loop-field.invariant.encoding);
}
