use Rattle.std.proofs.Common.{ap, map, ◌∙◌, ◌++◌}
use Rattle.std.specs.List.{flat_map, list_any}
use Rattle.mk_line.specs.Lines.{printed_line}
use Rattle.mk_line.specs.Marks.{close_line}
use Rattle.mk_build.specs.BuildViews.{written_of}
use Rattle.mk_build.specs.Building.{closed_field}
use Rattle.mk_build.specs.ForwardViews.{forwarded_of}
use Rattle.mk_build.specs.Forwards.{forwarded_part, head_with, is_8bit}
use Rattle.mk_build.specs.Multiparts.{multipart_of, part_as}
use Rattle.mk_build.specs.inner.PieceViews.{coded_segment}
use Rattle.mk_build.proofs.PieceTexts.{five, segment_first, segment_put}
use Rattle.mk_build.proofs.pieces.segments_of.Goals as goal

pub returns : goal.returns
returns c =
    let eol = c.args.eol in
    let m = multipart_of c.args.multipart.now in
    let fields = flat_map (closed_field eol) (map (λ f. f.items) c.args.fields.now) in
    let messages = map forwarded_of c.args.messages.now in
    let bytes = flat_map (coded_segment eol) in
    five fields (head_with eol (list_any (λ f. is_8bit f.text) messages) m) (flat_map (part_as eol m) (map written_of c.args.parts.now)) (flat_map (forwarded_part eol m.boundary) messages) (printed_line (close_line eol m.boundary))
    (bytes c.push_back.new.self.items) (bytes c.push_parts.new.list.items) (bytes c.push_forwards.new.list.items) (bytes c.push_back-2.new.self.items)
    (segment_first eol c.new-list.result.items c.push_back.new.self.items _ _ c.new-list.ensures.items c.in_ok-push_back.ensures.items (c.in_ok-front.ensures ∙ ap (λ w. fields ++ head_with eol w m) c.are_8bit.ensures))
    c.in_ok-push_parts.ensures c.in_ok-push_forwards.ensures
    (segment_put eol c.push_forwards.new.list.items c.push_back-2.new.self.items _ _ c.in_ok-push_back-2.ensures.items c.in_ok-close.ensures)
