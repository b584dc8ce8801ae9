use Rattle.std.proofs.Common.{ap, ◌∙◌, ◌++◌}
use Rattle.std.specs.Option.{option_map}
use Rattle.mk_line.specs.Lines.{ending_bytes}
use Rattle.mk_line.proofs.Joined.{on_ok, written, joined}
use Rattle.mk_build.specs.BuildViews.{written_of}
use Rattle.mk_build.specs.Building.{disposition_line, encoding_line}
use Rattle.mk_build.specs.Multiparts.{type_line_as}
use Rattle.mk_build.proofs.attaching.push_part_fields.Goals as goal

pub returns : goal.returns
returns c =
    let a = written_of c.args.written.now in
    let eol = c.args.eol in
    let charset = option_map (λ v. v.now) c.args.charset in
    let end = ending_bytes eol in
    let one = c.push_type.new.text.items in
    let two = c.push_disposition.new.text.items in
    let three = c.push_encoding.new.text.items in
    let last = c.extend_from_slice.new.self.items in
    on_ok c.extend_from_slice.result _ _ (written c.extend_from_slice.result three c.bytes.result.now last c.extend_from_slice.ensures.items)
    (λ h.
    joined c.args.text.now.items (type_line_as eol charset a) (disposition_line eol a.name a.said ++ (encoding_line eol a.base64 ++ end)) one last c.in_ok-push_type.ensures
    (joined one (disposition_line eol a.name a.said) (encoding_line eol a.base64 ++ end) two last c.in_ok-push_disposition.ensures
    (joined two (encoding_line eol a.base64) end three last c.in_ok-push_encoding.ensures (h ∙ ap (λ x. three ++ x) c.bytes.ensures))))
