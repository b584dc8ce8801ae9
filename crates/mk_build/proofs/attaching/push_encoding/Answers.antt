use Rattle.std.proofs.Common.{ap, ◌∙◌, ◌++◌, if◌then◌else◌, codes}
use Rattle.mk_line.specs.Lines.{ending_bytes}
use Rattle.mk_line.proofs.Joined.{on_ok, written, joined}
use Rattle.mk_build.proofs.attaching.push_encoding.Goals as goal

pub returns : goal.returns
returns c =
    let end = ending_bytes c.args.eol in
    let kind = if c.args.base64 then codes "base64" else codes "quoted-printable" in
    on_ok c.extend_from_slice-3.result _ _ (written c.extend_from_slice-3.result c.extend_from_slice-2.new.self.items c.bytes.result.now c.extend_from_slice-3.new.self.items c.extend_from_slice-3.ensures.items)
    (λ h.
    joined c.args.text.now.items (codes "Content-Transfer-Encoding: ") (kind ++ end) c.extend_from_slice.new.self.items c.extend_from_slice-3.new.self.items c.in_ok-extend_from_slice.ensures.items
    (joined c.extend_from_slice.new.self.items kind end c.extend_from_slice-2.new.self.items c.extend_from_slice-3.new.self.items (c.in_ok-extend_from_slice-2.ensures.items ∙ ap (λ x. c.extend_from_slice.new.self.items ++ x) c.encoding_name.ensures)
    (h ∙ ap (λ x. c.extend_from_slice-2.new.self.items ++ x) c.bytes.ensures)))
