use Rattle.std.proofs.Common.{◌≡◌, ◌++◌, map}
use Rattle.mk_line.specs.Lines.{text_of}
use Rattle.mk_messages.specs.TakenOut.{unmarked, unmarked_line}
use Rattle.mk_messages.proofs.taken_out.unmarked.Given as goal

abbrev pub invariant-loop-line : goal.invariant-loop-line
invariant-loop-line l = l.text.items ++ text_of (map unmarked_line l.line-iterator) ≡ unmarked l.message
