use Rattle.std.proofs.Common.{◌-◌, ◌*◌, ◌+◌, ◌∙◌, sym, get_or}
use Rattle.mk_splice.proofs.Readings.{digits_go, saturated_more}
use Rattle.mk_splice.proofs.reading.+read_digits.Goals as goal

pub returns-then-is_ascii_digit : goal.returns-then-is_ascii_digit
returns-then-is_ascii_digit t c =
    λ v e. digits_go c.args.bytes.now c.args.left c.args.end v c.read_digits.result c.in-len1-up.len_at_least c.if-left-gt0.true c.if-first-end.false (sym c.is_ascii_digit.ensures.value ∙ c.if-is_ascii_digit.true)
    (c.read_digits.ensures (10 * v + (get_or c.args.bytes.now 0 0 - 48)) (saturated_more c.args.value v c.saturating_mul.result c.saturating_add-more.result (get_or c.args.bytes.now 0 0 - 48) e c.saturating_mul.ensures (let k = c.from.ensures in rw (← k) c.saturating_add-more.ensures)))
