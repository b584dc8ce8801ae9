use Rattle.std.proofs.Common.{ap, ◌∙◌, ◌++◌, codes}
use Rattle.mk_line.specs.Lines.{ending_bytes}
use Rattle.mk_line.proofs.Joined.{on_ok, written, joined}
use Rattle.mk_build.specs.Forwards.{eight_bit_line}
use Rattle.mk_build.proofs.building.push_head.Goals as goal

pub returns : goal.returns
returns c =
    let end = ending_bytes c.args.eol in
    let kind = c.args.multipart.now.subtype.now in
    let b = c.args.multipart.now.boundary.now in
    let wide = eight_bit_line c.args.eol c.args.wide in
    let marked = codes "; boundary=\"" ++ (b ++ (codes "\"" ++ (end ++ (wide ++ end)))) in
    let one = c.extend_from_slice.new.self.items in
    let two = c.extend_from_slice-2.new.self.items in
    let three = c.extend_from_slice-3.new.self.items in
    let four = c.extend_from_slice-4.new.self.items in
    let five = c.extend_from_slice-5.new.self.items in
    let six = c.extend_from_slice-6.new.self.items in
    let seven = c.extend_from_slice-7.new.self.items in
    let eight = c.extend_from_slice-8.new.self.items in
    let nine = c.push_8bit.new.text.items in
    let last = c.extend_from_slice-9.new.self.items in
    on_ok c.extend_from_slice-9.result _ _ (written c.extend_from_slice-9.result nine c.bytes-ending.result.now last c.extend_from_slice-9.ensures.items)
    (λ h.
    joined c.args.text.now.items (codes "MIME-Version: 1.0") (end ++ (codes "Content-Type: multipart/" ++ (kind ++ marked))) one last c.in_ok-extend_from_slice.ensures.items
    (joined one end (codes "Content-Type: multipart/" ++ (kind ++ marked)) two last (c.in_ok-extend_from_slice-2.ensures.items ∙ ap (λ x. one ++ x) c.bytes-ending.ensures)
    (joined two (codes "Content-Type: multipart/") (kind ++ marked) three last c.in_ok-extend_from_slice-3.ensures.items
    (joined three kind marked four last c.in_ok-extend_from_slice-4.ensures.items
    (joined four (codes "; boundary=\"") (b ++ (codes "\"" ++ (end ++ (wide ++ end)))) five last c.in_ok-extend_from_slice-5.ensures.items
    (joined five b (codes "\"" ++ (end ++ (wide ++ end))) six last c.in_ok-extend_from_slice-6.ensures.items
    (joined six (codes "\"") (end ++ (wide ++ end)) seven last c.in_ok-extend_from_slice-7.ensures.items
    (joined seven end (wide ++ end) eight last (c.in_ok-extend_from_slice-8.ensures.items ∙ ap (λ x. seven ++ x) c.bytes-ending.ensures)
    (joined eight wide end nine last c.in_ok-push_8bit.ensures
    (h ∙ ap (λ x. nine ++ x) c.bytes-ending.ensures))))))))))
