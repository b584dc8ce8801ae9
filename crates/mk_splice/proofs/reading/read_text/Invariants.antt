use Rattle.std.proofs.Common.{◌≡◌, ◌++◌, take, drop}
use Rattle.mk_splice.specs.Readers.{named, read_text}
use Rattle.mk_splice.proofs.reading.read_text.Given as goal

abbrev pub invariant-loop-byte : goal.invariant-loop-byte
invariant-loop-byte l = read_text l.text l.bytes ≡ named (λ ys. take l.byte-index l.text ++ ys) (read_text (drop l.byte-index l.text) l.rest)
