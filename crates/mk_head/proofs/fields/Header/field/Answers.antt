use Rattle.std.proofs.Common.{ap, arith}
use Rattle.mk_head.specs.Fields.{HeaderView}
use Rattle.mk_head.specs.Views.{field_view}
use Rattle.mk_head.proofs.Headers.{field_zero, field_past, field_found}
use Rattle.mk_head.proofs.fields.Header.field.Goals as goal

pub returns-then-k-eq0 : goal.returns-then-k-eq0
returns-then-k-eq0 c = field_zero field_view c.self.inside.fields.items c.args.self.now.fields c.args.k (ap (λ (h : HeaderView). h.fields) c.self.view_is) c.if-k-eq0.true

pub returns-then-k-count : goal.returns-then-k-count
returns-then-k-count c = field_past field_view c.self.inside.fields.items c.args.self.now.fields c.args.k (ap (λ (h : HeaderView). h.fields) c.self.view_is) (omega (arith, c.len-count.ensures, c.if-k-count.true))

pub returns : goal.returns
returns c = field_found field_view c.self.inside.fields.items c.args.self.now.fields c.args.k c.index.result.now (ap (λ (h : HeaderView). h.fields) c.self.view_is) (omega arith) (omega (arith, c.len-count.ensures, c.if-k-count.false)) c.index.ensures
