use Rattle.std.proofs.Common.{eqb, ap, ◌∙◌, w8, arith}
use Rattle.std.proofs.lemmas.Simd.{bitmask_splat, ones-mask_l, length-chunk}
use lib.Count.{ones}
use lib.Lanes.{chunk}
use Rattle.mk_line.proofs.counting.LineFeedsCounts.count_at.Goals as goal

pub returns-clause-count : goal.returns-clause-count
returns-clause-count c =
    let v = chunk c.args.at 64 c.args.text.now in
    ap ones (bitmask_splat w8 eqb v 64 10 (length-chunk c.args.at 64 c.args.text.now c.requires) (omega arith)) ∙ ones-mask_l (λ x. eqb x 10) v
