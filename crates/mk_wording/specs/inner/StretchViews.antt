-- Stretches in memory as what they say, for private contracts.
use Rattle.std.specs.Prelude.{ℕ, List, [], ◌∷◌}
use Rattle.mk_head.specs.Values.{Plain}
use Rattle.mk_wording.specs.Stretches.{Stretch, stretches}
use Rattle.mk_wording.specs.declared.stretches.Stretch.{Stretch as StretchIn}

-- a stretch
abbrev pub stretch_of : StretchIn → Stretch
stretch_of s = record { outside = s.outside.now; begin = s.begin.now; inside = s.inside.now; end = s.end.now }

-- the stretches after the end of a comment, where there is one
abbrev pub stretches_after : List ℕ → List ℕ → List Stretch
stretches_after [] rest = []
stretches_after (byte ∷ bytes) rest = stretches Plain rest
