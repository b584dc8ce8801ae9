use Rattle.std.proofs.Common.{ap, sym, ◌∙◌, ◌+◌, map, drop, arith, not}
use Rattle.std.specs.List.{position}
use Rattle.mk_build.specs.BuildViews.{written_of}
use Rattle.mk_build.specs.Building.{is_name}
use Rattle.std.specs.Option.{option_map_or}
use Rattle.mk_build.proofs.Failing.{passes, fails, from_index}
use Rattle.std.specs.Prelude.{true}
use Rattle.mk_build.proofs.building.bad_name.Goals as goal

pub loop-index-preserved : goal.loop-index-preserved
loop-index-preserved c =
    let xs = c.args.parts.now in
    let i = c.loop-index.index in
    let x = c.index-parts-index.result in
    passes (λ a. not (option_map_or is_name a.name true)) i (drop i (map written_of xs)) (drop (i + 1) (map written_of xs)) _ (position (λ a. not (option_map_or is_name a.name true)) (map written_of xs)) (from_index written_of i xs x (omega (arith, c.loop-index-test.true)) c.index-parts-index.is) (ap not (sym c.has_name.ensures ∙ c.if-not-has_name.false)) c.loop-index.invariant

pub returns-then-not-has_name : goal.returns-then-not-has_name
returns-then-not-has_name c =
    let xs = c.args.parts.now in
    let i = c.loop-index.index in
    let x = c.index-parts-index.result in
    fails (λ a. not (option_map_or is_name a.name true)) i (drop i (map written_of xs)) (drop (i + 1) (map written_of xs)) _ (position (λ a. not (option_map_or is_name a.name true)) (map written_of xs)) (from_index written_of i xs x (omega (arith, c.loop-index-test.true)) c.index-parts-index.is) (ap not (sym c.has_name.ensures ∙ c.if-not-has_name.true)) c.loop-index.invariant
