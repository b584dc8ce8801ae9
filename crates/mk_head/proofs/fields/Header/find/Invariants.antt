use Rattle.std.proofs.Common.{◌≡◌, drop, map, filter}
use Rattle.mk_head.specs.Fields.{counted, is_named}
use Rattle.mk_head.specs.Views.{field_view}
use Rattle.mk_head.proofs.fields.Header.find.Given as goal

abbrev pub invariant-loop-field : goal.invariant-loop-field
invariant-loop-field l = counted l.left (filter (is_named l.name) (map field_view (drop l.field-index l.field-items))) ≡ counted l.k (filter (is_named l.name) l.self.fields)
