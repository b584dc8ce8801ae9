use Rattle.std.proofs.Common.{◌≡◌, ◌++◌, map, take}
use Rattle.mk_view.specs.FileNames.{plain}
use Rattle.mk_view.proofs.naming.cleaned.Given as goal

abbrev pub invariant-loop-byte : goal.invariant-loop-byte
invariant-loop-byte l = l.name.items ≡ l.initial.name.items ++ map plain (take l.byte-index l.others)
