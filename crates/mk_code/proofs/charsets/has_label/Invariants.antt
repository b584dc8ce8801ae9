use Rattle.std.proofs.Common.{◌≡◌, false, map, take}
use Rattle.std.specs.Str.{str_to_ascii_lowercase}
use Rattle.mk_code.specs.inner.Tables.{has_label}
use Rattle.mk_code.proofs.charsets.has_label.Given as goal

abbrev pub invariant-loop-label : goal.invariant-loop-label
invariant-loop-label l = has_label (map (λ x. x.now) (take l.label-index l.labels)) (str_to_ascii_lowercase l.charset) ≡ false
