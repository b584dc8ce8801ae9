use Rattle.std.proofs.Common.{◌≡◌, ◌≤◌, drop}
use Rattle.mk_head.specs.Depths.{depth_of}
use Rattle.mk_head.specs.Values.{Plain}
use Rattle.mk_view.specs.ContentIds.{past_less}
use Rattle.mk_view.specs.inner.Standings.{standing_of}
use Rattle.mk_view.proofs.content_ids.past_less.Given as goal

abbrev pub invariant-loop-place : goal.invariant-loop-place
invariant-loop-place l = record {
  rest : past_less (standing_of l.standing) (drop l.place l.value) ≡ past_less Plain l.value;
  depth : depth_of (standing_of l.standing) ≤ l.place;
}
