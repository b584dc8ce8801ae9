use Rattle.std.proofs.Common.{◌≡◌, false, length}
use Rattle.mk_line.specs.Lines.{cut as lines_of}
use Rattle.mk_mailbox.proofs.PlaceLemmas.{are_whole}
use Rattle.mk_mailbox.proofs.places.is_uncut.Given as goal

abbrev pub invariant-each : goal.invariant-each
invariant-each l = are_whole l.from_lines l.after_empty (lines_of l.rest) ≡ are_whole l.from_lines false (lines_of l.text)

abbrev pub decreases-each : goal.decreases-each
decreases-each l = length l.rest
