use Rattle.std.proofs.Common.{◌≡◌, ◌++◌, length}
use Rattle.mk_line.specs.inner.Kept.{IsKept}
use Rattle.mk_code.specs.Base64Text.{lined}
use Rattle.mk_code.proofs.base64_text.push_lines.Given as goal

abbrev pub invariant-loop-rest : goal.invariant-loop-rest
invariant-loop-rest l = record {
  told : l.text.items ++ lined l.ending 76 l.rest ≡ l.fn.text.items ++ lined l.ending 76 l.letters;
  kept : IsKept l.fn.text.items l.text.items;
}

abbrev pub decreases-loop-rest : goal.decreases-loop-rest
decreases-loop-rest l = length l.rest
