use Rattle.std.proofs.Common.{ap, ◌∙◌, ◌++◌, append_assoc, codes}
use Rattle.mk_line.specs.Lines.{ending_bytes, printed_line}
use Rattle.mk_line.specs.Marks.{delimiter_line}
use Rattle.mk_line.proofs.Joined.{on_ok, written, joined}
use Rattle.mk_build.specs.ForwardViews.{forwarded_of}
use Rattle.mk_build.specs.Forwards.{attachment_line, eight_bit_line, is_8bit}
use Rattle.mk_build.proofs.forwarding.push_forward_fields.Goals as goal

pub returns : goal.returns
returns c =
    let eol = c.args.eol in
    let end = ending_bytes eol in
    let b = c.args.boundary.now in
    let f = forwarded_of c.args.forward.now in
    let t = c.args.text.now.items in
    let wide = eight_bit_line eol (is_8bit f.text) in
    let fields = codes "Content-Type: message/rfc822" ++ (end ++ (attachment_line eol f.inline ++ (wide ++ end))) in
    let one = c.push_delimiter.new.text.items in
    let two = c.extend_from_slice.new.self.items in
    let three = c.extend_from_slice-2.new.self.items in
    let four = c.push_attachment.new.text.items in
    let five = c.push_8bit.new.text.items in
    let last = c.extend_from_slice-3.new.self.items in
    on_ok c.extend_from_slice-3.result _ _ (written c.extend_from_slice-3.result five c.bytes-2.result.now last c.extend_from_slice-3.ensures.items)
    (λ h.
    joined t (printed_line (delimiter_line eol b)) fields one last c.in_ok-push_delimiter.ensures.appended
    (joined one (codes "Content-Type: message/rfc822") (end ++ (attachment_line eol f.inline ++ (wide ++ end))) two last c.in_ok-extend_from_slice.ensures.items
    (joined two end (attachment_line eol f.inline ++ (wide ++ end)) three last (c.in_ok-extend_from_slice-2.ensures.items ∙ ap (λ x. two ++ x) c.bytes.ensures)
    (joined three (attachment_line eol f.inline) (wide ++ end) four last c.in_ok-push_attachment.ensures
    (joined four wide end five last (c.in_ok-push_8bit.ensures ∙ ap (λ w. four ++ eight_bit_line eol w) (c.is_8bit.ensures ∙ ap is_8bit c.message.ensures))
    (h ∙ ap (λ x. five ++ x) c.bytes-2.ensures)))))
    ∙ ap (λ x. t ++ (codes "--" ++ x)) (append_assoc b end fields))
