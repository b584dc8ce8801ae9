use Rattle.std.proofs.Common.{ap, ◌∙◌, ◌++◌}
use Rattle.mk_line.specs.Lines.{printed_line}
use Rattle.mk_line.specs.Marks.{delimiter_line}
use Rattle.mk_build.specs.BuildViews.{written_of}
use Rattle.mk_build.specs.Multiparts.{multipart_of}
use Rattle.mk_build.specs.inner.PieceViews.{coded_body}
use Rattle.mk_build.proofs.PieceTexts.{part_told}
use Rattle.mk_build.proofs.pieces.part_between.Goals as goal

pub returns : goal.returns
returns c =
    let eol = c.args.eol in
    let m = multipart_of c.args.multipart.now in
    part_told eol m (written_of c.args.part.now) c.push_delimiter.new.text.items c.push_part_fields.new.text.items (coded_body eol c.body_of.result)
    (c.in_ok-push_delimiter.ensures.appended ∙ ap (λ t. t ++ printed_line (delimiter_line eol m.boundary)) c.new-made.ensures.items)
    c.in_ok-push_part_fields.ensures (c.body_of.ensures eol)
