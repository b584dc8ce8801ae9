use Rattle.std.proofs.Common.{◌≡◌, drop}
use Rattle.mk_texts.specs.Words.{flags_from, flags_of}
use Rattle.mk_texts.proofs.subs.read_flags.Given as goal

abbrev pub invariant-loop-byte : goal.invariant-loop-byte
invariant-loop-byte l = flags_from l.each l.any_case (drop l.byte-index l.text) ≡ flags_of l.text
