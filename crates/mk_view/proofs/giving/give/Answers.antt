use Rattle.std.proofs.Common.{◌≡◌, sym, ap, ◌∙◌}
use Rattle.mk_view.specs.inner.Taken.{number_at}
use Rattle.mk_view.proofs.NamesKnown.{given_own, given_numbered}
use Rattle.mk_view.proofs.giving.give.Goals as goal

pub returns-in_ok-put-in-None : goal.returns-in_ok-put-in-None
returns-in_ok-put-in-None c =
    given_own (number_at c.args.taken.now) (number_at c.put.new.taken) c.args.own.items c.in_ok-given-in-None.given.items
    (ap (number_at c.args.taken.now) (sym c.deref.ensures.value) ∙ (sym c.first_number.ensures ∙ c.in-None.is))
    (c.in_ok-given-in-None.ensures.items ∙ c.deref-in-None.ensures.value)
    c.in_ok-put-in-None.ensures

pub returns-in_ok-put-in-Some-2 : goal.returns-in_ok-put-in-Some-2
returns-in_ok-put-in-Some-2 c =
    let own : c.deref-in-Some.result.now ≡ c.args.own.items = c.deref-in-Some.ensures.value in
    given_numbered (number_at c.args.taken.now) (number_at c.put-in-Some.new.taken) (number_at c.put-in-Some-2.new.taken) c.args.own.items c.in_ok-given-in-Some.given.items c.in-Some.first c.in_ok-given-in-Some.number
    (ap (number_at c.args.taken.now) (sym c.deref.ensures.value) ∙ (sym c.first_number.ensures ∙ c.in-Some.is))
    (rw own at c.in_ok-given-in-Some.ensures.name)
    (rw own at c.in_ok-given-in-Some.ensures.free)
    c.in_ok-given-in-Some.ensures.from_first
    (rw own at c.in_ok-given-in-Some.ensures.tried)
    (rw (c.in_ok-copy-in-Some.ensures.items ∙ c.deref-in-Some-2.ensures.value) at c.in_ok-put-in-Some.ensures)
    c.in_ok-put-in-Some-2.ensures
