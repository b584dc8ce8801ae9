use Rattle.std.proofs.Common.{ap, sym, ◌∙◌, ◌++◌, codes}
use Rattle.mk_line.specs.Lines.{ending_bytes}
use Rattle.mk_line.proofs.Joined.{on_ok, written, joined}
use Rattle.mk_build.specs.Forwards.{eight_bit_line}
use Rattle.mk_build.proofs.forwarding.push_8bit.Goals as goal

pub returns : goal.returns
returns c =
    let t = c.args.text.now.items in
    let one = c.extend_from_slice.new.self.items in
    let last = c.extend_from_slice-2.new.self.items in
    on_ok c.extend_from_slice-2.result _ _ (written c.extend_from_slice-2.result one c.bytes.result.now last c.extend_from_slice-2.ensures.items)
    (λ h.
    joined t (codes "Content-Transfer-Encoding: 8bit") (ending_bytes c.args.eol) one last c.in_ok-extend_from_slice.ensures.items (h ∙ ap (λ x. one ++ x) c.bytes.ensures)
    ∙ ap (λ w. t ++ eight_bit_line c.args.eol w) (sym c.if-not-wide.false))
