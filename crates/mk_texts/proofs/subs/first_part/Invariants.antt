use Rattle.std.proofs.Common.{◌≡◌, drop}
use Rattle.mk_texts.specs.Words.{first_part, part_from, with_front}
use Rattle.mk_texts.proofs.subs.first_part.Given as goal

abbrev pub invariant-loop-place : goal.invariant-loop-place
invariant-loop-place l = with_front l.part.items (part_from l.escaped (drop l.place l.text)) ≡ first_part l.text
