use Rattle.std.proofs.Common.{◌∙◌}
use Rattle.mk_wording.proofs.Quoted.{after_backslash, after_escaped, after_other}
use Rattle.mk_wording.proofs.parameters.ends_quoted.Goals.{then-is_escaped, else-is_escaped+then-byte-eq-BACKSLASH, else-is_escaped+else-byte-eq-BACKSLASH+else-byte-eq-QUOTE}
use Rattle.mk_wording.proofs.parameters.ends_quoted.Goals as goal

pub loop-place-preserved : goal.loop-place-preserved
loop-place-preserved c = elim c.if-is_escaped.branch [
  | then-is_escaped w ↦ after_escaped c.args.text.now c.loop-place.place c.loop-place.is_escaped c.if-is_escaped.is_escaped c.loop-place-test.true w.if-is_escaped.true w.is_escaped-is c.loop-place.invariant
  | else-is_escaped+then-byte-eq-BACKSLASH w ↦
      after_backslash c.args.text.now c.loop-place.place c.loop-place.is_escaped c.if-is_escaped.is_escaped c.loop-place-test.true w.if-is_escaped.false w.if-byte-eq-BACKSLASH.true w.is_escaped-is c.loop-place.invariant
  | else-is_escaped+else-byte-eq-BACKSLASH+else-byte-eq-QUOTE w ↦
      after_other c.args.text.now c.loop-place.place c.loop-place.is_escaped c.if-is_escaped.is_escaped c.loop-place-test.true w.if-is_escaped.false w.if-byte-eq-BACKSLASH.false w.if-byte-eq-QUOTE.false (w.is_escaped-is ∙ w.if-is_escaped.false) c.loop-place.invariant
]
