use Rattle.std.proofs.Common.{◌≡◌, ◌∙◌, ap, sym, get_or, arith}
use Rattle.std.specs.Char.{digit_value}
use Rattle.mk_script.proofs.PathLemmas.{number_after-overflow, number_after-done}
use Rattle.mk_script.proofs.paths.number.Goals as goal

pub returns-in_err-checked_mul : goal.returns-in_err-checked_mul
returns-in_err-checked_mul c =
    let none = number_after-overflow c.loop-byte.number c.args.text.now c.loop-byte.byte-index 0 c.loop-byte-test.true (omega arith) (omega (arith, c.in_err-checked_mul.ensures)) in
    c.from_residual-in_err-checked_mul.ensures ∙ sym none ∙ c.loop-byte.invariant.told

pub returns-in_err-number : goal.returns-in_err-number
returns-in_err-number c =
    let same : digit_value c.from.result ≡ digit_value (get_or c.args.text.now c.loop-byte.byte-index 0) = ap digit_value c.from.ensures in
    let none = number_after-overflow c.loop-byte.number c.args.text.now c.loop-byte.byte-index c.in_ok-digit.digit c.loop-byte-test.true (omega (arith, same, c.in_ok-digit.ensures.value)) (omega (arith, c.in_err-number.ensures, c.in_ok-checked_mul.ensures)) in
    c.from_residual-in_err-number.ensures ∙ sym none ∙ c.loop-byte.invariant.told

pub returns : goal.returns
returns c = sym (number_after-done c.loop-byte.number c.args.text.now c.loop-byte.byte-index c.loop-byte.invariant.small c.loop-byte-test.false) ∙ c.loop-byte.invariant.told
