use Rattle.std.proofs.Common.{ap, sym, ◌∙◌, ◌+◌, map, drop, arith, not}
use Rattle.std.specs.List.{position}
use Rattle.mk_build.specs.Building.{is_free_field}
use Rattle.mk_build.proofs.Failing.{passes, fails, from_index}
use Rattle.mk_build.proofs.building.bad_field.Goals as goal

pub loop-index-preserved : goal.loop-index-preserved
loop-index-preserved c =
    let xs = c.args.fields.now in
    let i = c.loop-index.index in
    let x = c.index-fields-index.result in
    passes (λ f. not (is_free_field f)) i (drop i (map (λ f. f.items) xs)) (drop (i + 1) (map (λ f. f.items) xs)) _ (position (λ f. not (is_free_field f)) (map (λ f. f.items) xs)) (from_index (λ f. f.items) i xs x (omega (arith, c.loop-index-test.true)) c.index-fields-index.is) (ap not (ap is_free_field (sym c.deref.ensures.value) ∙ (sym c.is_free_field.ensures ∙ c.if-not-is_free_field.false))) c.loop-index.invariant

pub returns-then-not-is_free_field : goal.returns-then-not-is_free_field
returns-then-not-is_free_field c =
    let xs = c.args.fields.now in
    let i = c.loop-index.index in
    let x = c.index-fields-index.result in
    fails (λ f. not (is_free_field f)) i (drop i (map (λ f. f.items) xs)) (drop (i + 1) (map (λ f. f.items) xs)) _ (position (λ f. not (is_free_field f)) (map (λ f. f.items) xs)) (from_index (λ f. f.items) i xs x (omega (arith, c.loop-index-test.true)) c.index-fields-index.is) (ap not (ap is_free_field (sym c.deref.ensures.value) ∙ (sym c.is_free_field.ensures ∙ c.if-not-is_free_field.true))) c.loop-index.invariant
