use Rattle.std.proofs.Common.{◌≡◌, ◌-◌, ◌∙◌, sym, arith, get_or}
use Rattle.mk_splice.specs.Grammar.{more_digits}
use Rattle.mk_splice.proofs.Readings.{number_goes, more_nought, more_other}
use Rattle.mk_splice.proofs.reading.read_number.Goals as goal
use Rattle.mk_splice.proofs.reading.read_number.Goals.{then-first-eq48, else-first-eq48}

pub returns-after-first-eq48 : goal.returns-after-first-eq48
returns-after-first-eq48 c =
    let more : c.if-first-eq48.more ≡ more_digits (get_or c.args.bytes.now 0 0) =
    elim c.if-first-eq48.branch [
      | then-first-eq48 w ↦ more_nought (get_or c.args.bytes.now 0 0) c.if-first-eq48.more w.if-first-eq48.true w.more-is
      | else-first-eq48 w ↦ more_other (get_or c.args.bytes.now 0 0) c.if-first-eq48.more w.if-first-eq48.false w.more-is
    ]
    in
    number_goes c.args.bytes.now c.if-first-eq48.more c.args.end c.read_digits.result c.in-len1-up.len_at_least (sym c.is_ascii_digit.ensures.value ∙ c.if-is_ascii_digit.true) more
    (c.read_digits.ensures (get_or c.args.bytes.now 0 0 - 48) (omega (arith, c.from.ensures, c.from.type_inv)))
