use Rattle.std.proofs.Common.{◌≡◌, filter, take}
use Rattle.mk_texts.specs.Texts.{is_address_mark}
use Rattle.mk_texts.proofs.saying.marks_in.Given as goal

abbrev pub invariant-loop-byte : goal.invariant-loop-byte
invariant-loop-byte l = l.marks.items ≡ filter is_address_mark (take l.byte-index l.text)
