use Rattle.std.proofs.Common.{◌≡◌, ◌≤◌, drop}
use Rattle.mk_check.specs.inner.Scans.{depth_in, scan_of}
use Rattle.mk_check.specs.SideBySide.{beside_from, has_words_beside}
use Rattle.mk_check.proofs.words.has_words_beside.Given as goal

abbrev pub invariant-loop-byte : goal.invariant-loop-byte
invariant-loop-byte l = record {
  rest : beside_from (scan_of l.scan) l.word (drop l.byte-index l.value) ≡ has_words_beside l.value;
  depth : depth_in l.scan ≤ l.byte-index;
}
