use Rattle.std.proofs.Common.{◌≡◌, ◌+◌, ◌∷◌, ap, sym, ◌∙◌, drop, map}
use Rattle.std.specs.Prelude.{is_some}
use Rattle.mk_head.specs.ValueViews.{parameter_of}
use Rattle.mk_param.specs.SegmentViews.{value_at}
use Rattle.mk_param.proofs.Kept.{items_at, some_mapped, values_more, values_stay}
use Rattle.mk_param.proofs.segments.first_values.Goals.{then-is_none+in_ok-name+in_ok-put, else-is_none}
use Rattle.mk_param.proofs.segments.first_values.Goals as goal

pub loop-param-preserved : goal.loop-param-preserved
loop-param-preserved c =
    let name = c.param-item.result.0.items in
    let value = c.param-item.result.1.items in
    let others = map parameter_of (drop (c.loop-param.param-index + 1) c.args.params.now) in
    let here : drop c.loop-param.param-index c.args.params.now ≡ c.param-item.result ∷ drop (c.loop-param.param-index + 1) c.args.params.now =
    items_at c.args.params.now c.loop-param.param-index c.param-item.result c.loop-param-test.true c.param-item.is in
    let before = rw here at c.loop-param.invariant in
    let known : is_some (value_at c.loop-param.values name) ≡ is_some c.value_of.result =
    ap (λ n. is_some (value_at c.loop-param.values n)) (sym c.deref.ensures.value) ∙ (ap is_some (sym c.value_of.ensures) ∙ some_mapped (λ v. v.now) c.value_of.result) in
    elim c.if-is_none.branch [
      | then-is_none+in_ok-name+in_ok-put w ↦
          let same : w.in_ok-name.name.items ≡ name = w.in_ok-name.ensures.items ∙ w.deref-then-is_none.ensures.value in
          let kept = rw (same, w.deref-then-is_none-2.ensures.value) at w.in_ok-put.ensures in
          rw w.values-is (λ asked. sym (values_more (value_at c.loop-param.values) (value_at w.put.new.values) name value others (known ∙ w.if-is_none.ensures) kept asked) ∙ before asked)
      | else-is_none w ↦
          rw w.values-is (λ asked. sym (values_stay (value_at c.loop-param.values) name value others (known ∙ w.if-is_none.ensures) asked) ∙ before asked)
    ]
