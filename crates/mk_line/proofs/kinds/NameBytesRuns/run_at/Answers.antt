use Rattle.std.proofs.Common.{ℕ, leb, cond, bit_or, refl}
use Rattle.std.proofs.lemmas.Simd.{zip2_splat, splat_is_map, length-chunk}
use lib.Lanes.{chunk}
use Rattle.mk_line.specs.Ascii.{is_name_byte}
use Rattle.mk_line.proofs.LaneRuns.{joined, run_at}
use Rattle.mk_line.proofs.kinds.NameBytesRuns.run_at.Goals as goal

pub returns : goal.returns
returns c =
    let v = chunk c.args.at 16 c.args.text.now in
    let long = length-chunk c.args.at 16 c.args.text.now c.requires in
    run_at is_name_byte c.args.text.now c.args.at _ _ c.requires c.type_inv.text c.first_set.ensures _
    (joined bit_or _ _ v
    (joined (λ a b. cond (leb a b) 255 0) _ _ v (splat_is_map v 16 94 long) (zip2_splat {Y = ℕ} _ v 16 33 long))
    (zip2_splat {Y = ℕ} _ v 16 58 long)) refl
