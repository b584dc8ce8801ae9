use Rattle.std.proofs.Common.{ℕ, ltb, cond, bit_or, refl}
use Rattle.std.proofs.lemmas.Simd.{zip2_splat, splat_is_map, length-chunk}
use lib.Lanes.{chunk}
use Rattle.mk_code.specs.Base64Text.{is_letter}
use Rattle.mk_line.proofs.LaneRuns.{joined}
use Rattle.mk_line.proofs.LaneCounts.{count_at}
use Rattle.mk_code.proofs.lanes.LettersCounts.count_at.Goals as goal

pub returns-clause-count : goal.returns-clause-count
returns-clause-count c =
    let v = chunk c.args.at 64 c.args.text.now in
    let long = length-chunk c.args.at 64 c.args.text.now c.requires in
    count_at is_letter c.args.text.now c.args.at _ c.requires c.type_inv.text _
    (joined bit_or _ _ v
    (joined bit_or _ _ v
    (joined (λ a b. cond (ltb a b) 255 0) _ _ v (joined _ _ _ v (zip2_splat {Y = ℕ} _ v 64 32 long) (splat_is_map v 64 97 long)) (splat_is_map v 64 26 long))
    (joined (λ a b. cond (ltb a b) 255 0) _ _ v (zip2_splat {Y = ℕ} _ v 64 47 long) (splat_is_map v 64 11 long)))
    (zip2_splat {Y = ℕ} _ v 64 43 long)) refl
