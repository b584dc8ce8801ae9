use Rattle.std.proofs.Common.{refl}
use Rattle.mk_splice.proofs.Fronts.{front_goes}
use Rattle.mk_splice.proofs.journals.read_front.Goals as goal

pub returns : goal.returns
returns c =
    let t = c.in_ok-rest.ensures in
    let v = c.in_ok-version.ensures in
    let m = c.in_ok-rest-2.ensures in
    let d = c.in_ok-digest.ensures in
    let n = c.in_ok-done.ensures in
    let u = c.in_ok-undone.ensures in (
      (((((t.0, c.in_ok-version.version), m.0), d.0), n.0), u.0),
      front_goes c.args.file.now c.in_ok-rest.rest.now c.in_ok-version.rest.now c.in_ok-rest-2.rest.now c.in_ok-digest.rest.now c.in_ok-done.rest.now c.in_ok-undone.rest.now t.0 d.0 n.0 u.0 c.in_ok-version.version v.0 m.0 t.1 v.1 v.2 m.1 d.1 n.1 u.1,
      record { version = refl; digest = d.2; done = n.2; undone = u.2 },
    )
