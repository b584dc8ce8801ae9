use Rattle.std.proofs.Common.{ap, sym, ◌∙◌, ◌+◌, map, drop, arith, not}
use Rattle.std.specs.List.{position}
use Rattle.mk_build.specs.BuildViews.{written_of}
use Rattle.mk_build.specs.Building.{is_media}
use Rattle.mk_build.proofs.Failing.{passes, fails, from_index}
use Rattle.mk_build.proofs.building.bad_type.Goals as goal

pub loop-index-preserved : goal.loop-index-preserved
loop-index-preserved c =
    let xs = c.args.parts.now in
    let i = c.loop-index.index in
    let x = c.index-parts-index.result in
    passes (λ a. not (is_media a.media)) i (drop i (map written_of xs)) (drop (i + 1) (map written_of xs)) _ (position (λ a. not (is_media a.media)) (map written_of xs)) (from_index written_of i xs x (omega (arith, c.loop-index-test.true)) c.index-parts-index.is) (ap not (sym c.is_media.ensures ∙ c.if-not-is_media.false)) c.loop-index.invariant

pub returns-then-not-is_media : goal.returns-then-not-is_media
returns-then-not-is_media c =
    let xs = c.args.parts.now in
    let i = c.loop-index.index in
    let x = c.index-parts-index.result in
    fails (λ a. not (is_media a.media)) i (drop i (map written_of xs)) (drop (i + 1) (map written_of xs)) _ (position (λ a. not (is_media a.media)) (map written_of xs)) (from_index written_of i xs x (omega (arith, c.loop-index-test.true)) c.index-parts-index.is) (ap not (sym c.is_media.ensures ∙ c.if-not-is_media.true)) c.loop-index.invariant
