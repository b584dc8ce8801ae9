use Rattle.std.proofs.Common.{◌≡◌, ◌<◌, ◌^◌, drop}
use Rattle.mk_script.specs.Paths.{number_of}
use Rattle.mk_script.specs.inner.Numbers.{number_after}
use Rattle.mk_script.proofs.paths.number.Given as goal

abbrev pub invariant-loop-byte : goal.invariant-loop-byte
invariant-loop-byte l = record {
  told : number_after l.number (drop l.byte-index l.text) ≡ number_of l.text;
  small : l.number < 2 ^ 32;
}
