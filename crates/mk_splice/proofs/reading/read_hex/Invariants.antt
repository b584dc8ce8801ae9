use Rattle.std.proofs.Common.{◌≡◌, ◌-◌, ℕ, length, take}
use Rattle.mk_splice.specs.inner.Readings.{SoFar}
use Rattle.mk_splice.specs.Grammar.{is_hex}
use Rattle.mk_splice.specs.Readers.{read_byte}
use Rattle.mk_splice.proofs.reading.read_hex.Given as goal

abbrev pub invariant-loop-i : goal.invariant-loop-i
invariant-loop-i l = record {
  size : length l.digits ≡ 64;
  read : SoFar ℕ ℕ ℕ (λ x. x) (λ x. x) (read_byte is_hex) 64 l.bytes (64 - l.i) l.rest (take l.i l.digits);
}
