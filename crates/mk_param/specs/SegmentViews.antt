-- Values of parameters in memory as what they say.
use Rattle.std.specs.Prelude.{ℕ, List, Option}
use Rattle.std.specs.BTreeMap.{BTreeMap, get_by}
use Rattle.std.specs.Cmp.Lexicographic.{slice_cmp}
use Rattle.std.specs.Borrow.{Bor}
use Rattle.std.specs.Global.{Vec}
use Rattle.std.specs.Option.{option_map}
use Rattle.std.specs.Ordering.{nat_cmp}
use Rattle.mk_param.specs.declared.segments.Segment.{Segment as SegmentIn}
use Rattle.mk_param.specs.declared.segments.Segment.TheVariants.{Plain as PlainIn, Encoded as EncodedIn}
use Rattle.mk_param.specs.Segments.{Segment, Plain, Encoded}

-- the value that is kept for a name
abbrev pub value_at : BTreeMap (Vec ℕ) (Bor (List ℕ)) → List ℕ → Option (List ℕ)
value_at values name = option_map (λ value. value.now) (get_by (λ key. slice_cmp nat_cmp name key.items) values)

-- a segment in memory as its bytes
abbrev pub segment_of : SegmentIn → Segment
segment_of (PlainIn value) = Plain value.now
segment_of (EncodedIn value) = Encoded value.now
