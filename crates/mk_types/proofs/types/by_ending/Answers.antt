use Rattle.std.proofs.Common.{◌≡◌, ◌∙◌, [], ap, sym, arith, drop, map}
use Rattle.std.proofs.Math.ListN.{drop_of_length-le}
use Rattle.std.specs.Str.{str_to_ascii_lowercase}
use Rattle.mk_types.specs.FileTypes.{type_in}
use Rattle.mk_types.specs.inner.Rows.{row_of}
use Rattle.mk_types.proofs.RowsLookedUp.{row_found, row_passed}
use Rattle.mk_types.proofs.types.by_ending.Goals as goal

pub returns-then-is_spelled : goal.returns-then-is_spelled
returns-then-is_spelled c =
    row_found c.args.types.now (str_to_ascii_lowercase c.args.ending.now) c.loop-known.known-index _ (omega (arith, c.loop-known-test.true)) c.loop-known.invariant (sym c.is_spelled.ensures ∙ c.if-is_spelled.true)

pub loop-known-preserved : goal.loop-known-preserved
loop-known-preserved c =
    row_passed c.args.types.now (str_to_ascii_lowercase c.args.ending.now) c.loop-known.known-index _ (omega (arith, c.loop-known-test.true)) c.loop-known.invariant (sym c.is_spelled.ensures ∙ c.if-is_spelled.false)

pub returns : goal.returns
returns c =
    let types = c.args.types.now in
    let none : drop c.loop-known.known-index types ≡ [] = drop_of_length-le types (omega (arith, c.loop-known-test.false)) in
    sym (c.loop-known.invariant ∙ ap (λ rs. type_in (map row_of rs) (str_to_ascii_lowercase c.args.ending.now)) none)
