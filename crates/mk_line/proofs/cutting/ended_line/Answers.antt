use Rattle.std.proofs.Common.{◌≡◌, ◌<◌, ℕ, Bool, true, arith, sym, ◌∙◌}
use Rattle.mk_line.proofs.Cuts.{ended_crlf, ended_lf}
use Rattle.mk_line.proofs.cutting.ended_line.Goals as goal

room_of : (t : Bool) (n : ℕ) → (t ≡ true → 0 < n) → t ≡ true → 0 < n
room_of t n h e = h e

pub returns-then-ends_in_return : goal.returns-then-ends_in_return
returns-then-ends_in_return c = sym (ended_crlf c.args.bytes.now _ (omega (arith, room_of c.ends_in_return.result _ c.ends_in_return.ensures.room c.if-ends_in_return.true)) (sym c.ends_in_return.ensures.value ∙ c.if-ends_in_return.true))

pub returns-else-ends_in_return : goal.returns-else-ends_in_return
returns-else-ends_in_return c = sym (ended_lf c.args.bytes.now (sym c.ends_in_return.ensures.value ∙ c.if-ends_in_return.false))
