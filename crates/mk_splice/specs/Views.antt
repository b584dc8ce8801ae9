-- Splices in memory as plain data.
use Rattle.std.specs.Prelude.{List, map}
use Rattle.std.specs.Global.{Vec}
use Rattle.mk_splice.specs.declared.splicing.Splice.{Splice as SpliceIn}
use Rattle.mk_splice.specs.Splices.{Splice}

-- a splice in memory
abbrev pub splice_of : SpliceIn → Splice
splice_of s = record { place = s.place; old = s.old.items; new = s.new.items }

-- steps in memory
abbrev pub steps_of : List (Vec SpliceIn) → List (List Splice)
steps_of vs = map (λ v. map splice_of v.items) vs
