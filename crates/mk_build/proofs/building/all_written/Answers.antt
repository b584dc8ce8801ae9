use Rattle.std.proofs.Common.{◌+◌, map, drop, arith}
use Rattle.mk_build.specs.BuildViews.{written_in, written_of}
use Rattle.mk_build.proofs.Failing.{from_index, mapped_one}
use Rattle.mk_build.proofs.building.all_written.Goals as goal

pub loop-part-preserved : goal.loop-part-preserved
loop-part-preserved c =
    let xs = c.args.parts.now in
    let i = c.loop-part.part-index in
    let x = c.part-item.result in
    let view = written_in c.args.utf8_names in
    mapped_one written_of c.loop-part.list.items c.push.new.self.items c.in_ok-as_named.field-0 (drop i (map view xs)) (drop (i + 1) (map view xs)) (map view xs) (view x) c.in_ok-push.ensures.items
    (from_index view i xs x (omega (arith, c.loop-part-test.true)) c.part-item.is) c.in_ok-as_named.ensures c.loop-part.invariant
