use Rattle.std.proofs.Common.{◌≡◌, ◌∙◌, ◌<◌, IfOk, ap, map, subst, sym, arith}
use Rattle.mk_build.specs.BuildViews.{attached_of}
use Rattle.mk_build.specs.ForwardViews.{forwarded_of}
use Rattle.mk_pack.specs.FreeBoundary.{are_clear, last_number, number_mark}
use Rattle.mk_pack.proofs.FreeBoundaries.{free_is, last_is, search_ends, search_last, search_on}
use Rattle.std.specs.Prelude.{◌++◌}
use Rattle.mk_pack.proofs.boundaries.free_boundary.Goals as goal

pub returns-then-are_clear : goal.returns-then-are_clear
returns-then-are_clear c =
    let first = c.in_ok-first.first.items in
    let messages = map forwarded_of c.args.messages.now in
    let n = c.loop-number.number in
    let is = c.in_ok-boundary.ensures ∙ ap (λ f. (f ++ number_mark n)) c.deref.ensures.value in
    let less : n < last_number = omega (arith, c.loop-number-test.true, last_is) in
    let free = ap (λ b. are_clear b messages) (sym is) ∙ (ap (λ b. are_clear b messages) (sym c.deref-in-loop-number.ensures.value) ∙ (sym c.are_clear.ensures ∙ c.if-are_clear.true)) in
    is ∙ (search_ends first messages n _ less free c.loop-number.invariant ∙ free_is (map (λ f. f.items) c.args.fields.now) (map attached_of c.args.parts.now) messages first c.in_ok-first.ensures)

pub loop-number-preserved : goal.loop-number-preserved
loop-number-preserved c =
    let first = c.in_ok-first.first.items in
    let messages = map forwarded_of c.args.messages.now in
    let n = c.loop-number.number in
    let is = c.in_ok-boundary.ensures ∙ ap (λ f. (f ++ number_mark n)) c.deref.ensures.value in
    let less : n < last_number = omega (arith, c.loop-number-test.true, last_is) in
    let taken = ap (λ b. are_clear b messages) (sym is) ∙ (ap (λ b. are_clear b messages) (sym c.deref-in-loop-number.ensures.value) ∙ (sym c.are_clear.ensures ∙ c.if-are_clear.false)) in
    search_on first messages n _ less taken c.loop-number.invariant

pub returns : goal.returns
returns c =
    let first = c.in_ok-first.first.items in
    let messages = map forwarded_of c.args.messages.now in
    let n = c.loop-number.number in
    let end : n ≡ last_number = omega (arith, c.loop-number-test.false, c.loop-number.auto.number-end, last_is) in
    let same =
    ap (λ f. (f ++ number_mark 18446744073709551615)) c.deref-2.ensures.value
    ∙ (ap (λ n. first ++ number_mark n) (sym last_is)
    ∙ (search_last first messages n _ end c.loop-number.invariant ∙ free_is (map (λ f. f.items) c.args.fields.now) (map attached_of c.args.parts.now) messages first c.in_ok-first.ensures)) in
    subst (λ text. IfOk c.numbered-2.result (λ b. b.items ≡ text)) same c.numbered-2.ensures
