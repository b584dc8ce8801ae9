use Rattle.std.proofs.Common.{ap, ◌∙◌, ◌++◌, codes}
use Rattle.mk_line.specs.Lines.{ending_bytes}
use Rattle.mk_build.specs.BuildViews.{written_of}
use Rattle.mk_build.specs.Multiparts.{attached_as, multipart_of}
use Rattle.mk_line.proofs.Joined.{on_ok, written, joined}
use Rattle.mk_build.proofs.building.push_part.Goals as goal

pub returns : goal.returns
returns c =
    let end = ending_bytes c.args.eol in
    let b = c.args.multipart.now.boundary.now in
    let a = attached_as c.args.eol (multipart_of c.args.multipart.now).charset (written_of c.args.part.now) in
    let one = c.extend_from_slice.new.self.items in
    let two = c.extend_from_slice-2.new.self.items in
    let three = c.extend_from_slice-3.new.self.items in
    let four = c.push_attached.new.text.items in
    let last = c.extend_from_slice-4.new.self.items in
    on_ok c.extend_from_slice-4.result _ _ (written c.extend_from_slice-4.result four c.bytes-2.result.now last c.extend_from_slice-4.ensures.items)
    (λ h.
    joined c.args.text.now.items (codes "--") (b ++ (end ++ (a ++ end))) one last c.in_ok-extend_from_slice.ensures.items
    (joined one b (end ++ (a ++ end)) two last c.in_ok-extend_from_slice-2.ensures.items
    (joined two end (a ++ end) three last (c.in_ok-extend_from_slice-3.ensures.items ∙ ap (λ x. two ++ x) c.bytes.ensures)
    (joined three a end four last c.in_ok-push_attached.ensures (h ∙ ap (λ x. four ++ x) c.bytes-2.ensures)))))
