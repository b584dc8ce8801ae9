use Rattle.mk_splice.specs.Grammar.{number_of}
use Rattle.mk_splice.specs.Journals.{saturated}
use Rattle.mk_splice.proofs.Readings.{entry_goes, splice_same}
use Rattle.mk_splice.proofs.reading.read_entry.Goals as goal

pub returns : goal.returns
returns c =
    let p = c.in_ok-place.ensures in
    let q = c.in_ok-old_size.ensures in
    let r = c.in_ok-new_size.ensures in
    let o = c.in_ok-old.ensures (number_of q.0) q.2 in
    let n = c.in_ok-new.ensures (number_of r.0) r.2 in
    let m = c.in_ok-rest.ensures in (
      record { place = p.0; old_size = q.0; new_size = r.0; old = o.0; new = n.0 },
      entry_goes c.args.bytes.now c.in_ok-place.rest.now c.in_ok-old_size.rest.now c.in_ok-new_size.rest.now c.in_ok-old.rest.now c.in_ok-new.rest.now c.in_ok-rest.rest.now p.0 q.0 r.0 o.0 n.0 m.0 p.1 q.1 r.1 o.1 n.1 m.1,
      splice_same c.in_ok-place.place (saturated (number_of p.0)) c.in_ok-old.old.items o.0 c.in_ok-new.new.items n.0 p.2 o.2 n.2,
    )
