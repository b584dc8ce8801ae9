use Rattle.std.proofs.Common.{◌==◌, ◌∙◌, sym, arith, get_or}
use Rattle.std.proofs.lemmas.Bool.{false_from_ne_true, eqb-true}
use Rattle.std.specs.Char.{to_ascii_lowercase}
use Rattle.mk_head.specs.ValueViews.{scan_of}
use Rattle.mk_head.proofs.Names.{blank_inside, letter_other, match_end}
use Rattle.mk_head.proofs.naming.is_named.Goals.{else-count-name-2-via-then-count-name-2+else-to_ascii_lowercase-name, else-count-name-2-via-else-count-name-2}
use Rattle.mk_head.proofs.naming.is_named.Goals as goal

pub returns-then-count-name : goal.returns-then-count-name
returns-then-count-name c =
    blank_inside c.args.name.now c.args.value.now (scan_of c.loop-byte.scan) c.loop-byte.count c.loop-byte.byte-index c.requires c.loop-byte.invariant.rest c.loop-byte-test.true
    (sym c.keeps.ensures ∙ c.if-keeps.true) (sym c.is_blank.ensures ∙ c.if-is_blank.true) c.if-count-gt0.true c.if-count-name.true

pub returns-else-count-name-2 : goal.returns-else-count-name-2
returns-else-count-name-2 c =
    letter_other c.args.name.now c.args.value.now (scan_of c.loop-byte.scan) c.loop-byte.count c.loop-byte.byte-index c.requires c.loop-byte.invariant.rest c.loop-byte-test.true
    (sym c.keeps.ensures ∙ c.if-keeps.true) (sym c.is_blank.ensures ∙ c.if-is_blank.false)
    (elim c.else-count-name-2.branch [
      | else-count-name-2-via-then-count-name-2+else-to_ascii_lowercase-name w ↦ λ l. false_from_ne_true (to_ascii_lowercase (get_or c.args.value.now c.loop-byte.byte-index 0) == get_or c.args.name.now c.loop-byte.count 0) (λ t. w.if-to_ascii_lowercase-name.false (w.to_ascii_lowercase.ensures.value ∙ eqb-true (to_ascii_lowercase (get_or c.args.value.now c.loop-byte.byte-index 0)) (get_or c.args.name.now c.loop-byte.count 0) t))
      | else-count-name-2-via-else-count-name-2 w ↦ λ l. absurd (omega (arith, l, w.if-count-name-2.false))
    ])

pub returns : goal.returns
returns c = match_end c.args.name.now c.args.value.now (scan_of c.loop-byte.scan) c.loop-byte.count c.loop-byte.byte-index c.requires c.loop-byte.invariant.rest (omega arith) c.loop-byte.invariant.within
