use Rattle.std.proofs.Common.{ℕ, ltb, cond, bit_or, refl}
use Rattle.std.proofs.lemmas.Simd.{zip2_splat, splat_is_map, length-chunk}
use lib.Lanes.{chunk}
use Rattle.mk_code.specs.inner.Strays.{is_stray}
use Rattle.mk_line.proofs.LaneRuns.{joined, run_at}
use Rattle.mk_code.proofs.lanes.StraysRuns.run_at.Goals as goal

pub returns : goal.returns
returns c =
    let v = chunk c.args.at 16 c.args.text.now in
    let long = length-chunk c.args.at 16 c.args.text.now c.requires in
    run_at is_stray c.args.text.now c.args.at _ _ c.requires c.type_inv.text c.first_set.ensures _
    (joined bit_or _ _ v
    (joined bit_or _ _ v
    (joined (λ a b. cond (ltb a b) 255 0) _ _ v (joined _ _ _ v (zip2_splat {Y = ℕ} _ v 16 32 long) (splat_is_map v 16 97 long)) (splat_is_map v 16 26 long))
    (joined (λ a b. cond (ltb a b) 255 0) _ _ v (zip2_splat {Y = ℕ} _ v 16 47 long) (splat_is_map v 16 11 long)))
    (zip2_splat {Y = ℕ} _ v 16 43 long)) refl
