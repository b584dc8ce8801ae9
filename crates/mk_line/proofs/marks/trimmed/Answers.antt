use Rattle.std.proofs.Common.{sym, ◌∙◌, arith}
use Rattle.mk_line.proofs.Blanks.{walked, ended_none, ended_some}
use Rattle.mk_line.proofs.marks.trimmed.Goals.{then-loop-size-test+else-is_blank, else-loop-size-test}
use Rattle.mk_line.proofs.marks.trimmed.Goals as goal

pub loop-size-preserved : goal.loop-size-preserved
loop-size-preserved c = record {
  within = omega arith;
  kept = walked c.args.content.now c.loop-size.size c.loop-size.invariant.within c.loop-size-test.true (sym c.is_blank.ensures ∙ c.if-is_blank.true) ∙ c.loop-size.invariant.kept;
}

pub returns : goal.returns
returns c =
    elim c.loop-size-test.branch [
      | then-loop-size-test+else-is_blank w ↦ ended_some c.args.content.now c.loop-size.size c.loop-size.invariant.within w.loop-size-test.true (sym w.is_blank.ensures ∙ w.if-is_blank.false) ∙ c.loop-size.invariant.kept
      | else-loop-size-test w ↦ ended_none c.args.content.now c.loop-size.size (omega arith) ∙ c.loop-size.invariant.kept
    ]
