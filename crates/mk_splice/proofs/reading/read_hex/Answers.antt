use Rattle.std.proofs.Common.{◌≡◌, ◌<◌, ◌-◌, ◌+◌, ◌∙◌, length-set, ℕ, List, refl, arith, take, length}
use Rattle.std.proofs.lemmas.List.{take_more_set}
use Rattle.std.proofs.lemmas.Result.{err_from_is_err_and}
use Rattle.mk_splice.specs.Grammar.{is_hex}
use Rattle.mk_splice.specs.Readers.{read_byte, read_times}
use Rattle.mk_splice.proofs.Readings.{begins, one_more_at, one_fails_at, all_read, gives_stopped, ids_same}
use Rattle.mk_splice.proofs.reading.read_hex.Goals as goal

pub loop-i-init : goal.loop-i-init
loop-i-init c = record { size = refl; read = begins ℕ ℕ ℕ (λ x. x) (λ x. x) (read_byte is_hex) 64 c.args.bytes.now }

pub returns-in_err-digit : goal.returns-in_err-digit
returns-in_err-digit c =
    let stopped = err_from_is_err_and c.from_residual.result c.from_residual.ensures.1 in
    gives_stopped (List ℕ) (List ℕ) (λ cs ds. ds ≡ cs) (read_times 64 (read_byte is_hex) c.args.bytes.now) c.from_residual.result stopped.0 c.in_err-digit.field-0.0 stopped.1 stopped.2
    (one_fails_at ℕ ℕ ℕ (λ x. x) (λ x. x) (read_byte is_hex) 64 c.args.bytes.now (64 - c.loop-i.i) (64 - c.loop-i.i - 1) c.loop-i.rest.now (take c.loop-i.i c.loop-i.digits) c.in_err-digit.field-0.0 (omega (arith, c.loop-i-test.true)) c.loop-i.invariant.read c.in_err-digit.ensures)

pub loop-i-preserved : goal.loop-i-preserved
loop-i-preserved c =
    let read = c.in_ok-digit.ensures in
    let within : c.loop-i.i < length c.loop-i.digits = omega (arith, c.loop-i-test.true, c.loop-i.invariant.size) in
    record {
      size = length-set c.loop-i.digits c.loop-i.i c.in_ok-digit.digit ∙ c.loop-i.invariant.size;
      read = one_more_at ℕ ℕ ℕ (λ x. x) (λ x. x) (read_byte is_hex) 64 c.args.bytes.now (64 - c.loop-i.i) (64 - (c.loop-i.i + 1)) c.loop-i.rest.now c.in_ok-digit.following.now (take c.loop-i.i c.loop-i.digits) _ read.0 c.in_ok-digit.digit (omega (arith, c.loop-i-test.true)) (take_more_set c.loop-i.digits c.loop-i.i c.in_ok-digit.digit within) c.loop-i.invariant.read read.1 read.2;
    }

pub returns : goal.returns
returns c =
    let told = all_read ℕ ℕ ℕ (λ x. x) (λ x. x) (read_byte is_hex) 64 c.args.bytes.now (64 - c.loop-i.i) c.loop-i.rest.now (take c.loop-i.i c.loop-i.digits) (omega (arith, c.loop-i-test.false)) c.loop-i.invariant.read in
    (told.0, told.1, ids_same c.loop-i.digits told.0 c.loop-i.i (omega (arith, c.loop-i-test.false, c.loop-i.invariant.size)) told.2)
