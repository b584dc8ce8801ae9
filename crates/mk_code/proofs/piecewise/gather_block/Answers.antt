use Rattle.std.proofs.Common.{◌≤◌, ◌-◌, ◌∙◌, ℕ, length, subst}
use Rattle.mk_code.proofs.PieceLetters.{gathered_more}
use Rattle.mk_code.proofs.piecewise.gather_block.Goals as goal

pub each-preserved : goal.each-preserved
each-preserved c =
    let room : ℕ → Type 0 = λ n. length c.split_run.result.0.now ≤ 16384 - n in
    gathered_more c.args.text.now c.each.found.items _ c.each.rest.now c.split_run.result.0.now c.split_run.result.1.now c.each.invariant c.in_ok-extend_from_slice.ensures.items c.split_run.ensures.letters
    (subst room (c.len-in-each.ensures ∙ c.each.found.ok.0) c.split_run.ensures.few) c.split_run.ensures.less
