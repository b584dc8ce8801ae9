use Rattle.std.proofs.Common.{ℕ, ◌+◌, bit_and, ap₂, arith}
use Rattle.std.proofs.lemmas.Simd.{zip2_splat, length-chunk}
use lib.Lanes.{chunk, zip2}
use Rattle.mk_line.proofs.LaneRuns.{joined}
use Rattle.mk_head.proofs.FoldSizes.{lanes_ends}
use Rattle.mk_head.proofs.folds.folded_at.Goals as goal

pub returns : goal.returns
returns c =
    let here = length-chunk c.args.at 32 c.args.text.now (omega arith) in
    let next = length-chunk (c.args.at + 1) 32 c.args.text.now (omega arith) in
    let v = chunk (c.args.at + 1) 32 c.args.text.now in
    let e = lanes_ends c.args.text.now c.args.at c.first_set.result c.requires _ c.first_set.ensures
    (ap₂ (zip2 bit_and) (zip2_splat {Y = ℕ} _ (chunk c.args.at 32 c.args.text.now) 32 10 here) (joined bit_and _ _ v (zip2_splat {Y = ℕ} _ v 32 32 next) (zip2_splat {Y = ℕ} _ v 32 9 next))) in
    record { ends = e.0; goes_on = e.1; few = e.2 }
