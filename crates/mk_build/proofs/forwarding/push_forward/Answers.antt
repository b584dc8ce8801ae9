use Rattle.std.proofs.Common.{ap, refl, ◌∙◌, ◌++◌}
use Rattle.mk_line.specs.Lines.{ending_bytes}
use Rattle.mk_line.proofs.Joined.{on_ok, written, joined}
use Rattle.mk_build.specs.ForwardViews.{forwarded_of}
use Rattle.mk_build.specs.Forwards.{ending_after}
use Rattle.mk_build.specs.inner.PieceViews.{forward_fields}
use Rattle.mk_build.proofs.PieceTexts.{forward_whole}
use Rattle.mk_build.proofs.forwarding.push_forward.Goals as goal

pub returns : goal.returns
returns c =
    let eol = c.args.eol in
    let b = c.args.boundary.now in
    let f = forwarded_of c.args.forward.now in
    let t = c.args.text.now.items in
    let end = ending_bytes (ending_after eol f.text) in
    let one = c.push_forward_fields.new.text.items in
    let two = c.extend_from_slice.new.self.items in
    let last = c.extend_from_slice-2.new.self.items in
    on_ok c.extend_from_slice-2.result _ _ (written c.extend_from_slice-2.result two c.bytes.result.now last c.extend_from_slice-2.ensures.items)
    (λ h.
    joined t (forward_fields eol b f) (f.text ++ end) one last c.in_ok-push_forward_fields.ensures
    (joined one f.text end two last (c.in_ok-extend_from_slice.ensures.items ∙ ap (λ x. one ++ x) c.message-message.ensures)
    (h ∙ ap (λ x. two ++ x) (c.bytes.ensures ∙ ap ending_bytes (c.ending_after.ensures ∙ ap (ending_after eol) c.message-message.ensures))))
    ∙ ap (λ x. t ++ x) (forward_whole eol b f (f.text ++ end) refl))
