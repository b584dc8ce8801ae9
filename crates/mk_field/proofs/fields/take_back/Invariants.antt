use Rattle.std.proofs.Common.{◌≡◌}
use Rattle.mk_field.proofs.fields.take_back.Given as goal

abbrev pub invariant-loop-session : goal.invariant-loop-session
invariant-loop-session l = l.session.texts ≡ l.fn.session.texts

abbrev pub decreases-loop-session : goal.decreases-loop-session
decreases-loop-session l = l.session.place
