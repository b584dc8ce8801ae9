use Rattle.std.proofs.Common.{map}
use Rattle.mk_head.specs.Views.{field_view}
use Rattle.mk_head.proofs.Headers.{header_some}
use Rattle.mk_head.proofs.reading.header.Goals as goal

pub returns-in-Some-separator_size : goal.returns-in-Some-separator_size
returns-in-Some-separator_size c =
    header_some c.args.text.now c.each.rest.now (map field_view c.each.fields.items) c.in-Some-separator_size.size c.each.invariant.fields c.each.invariant.size c.each.invariant.rest c.in_default.ensures.none c.in-Some-separator_size.ensures
