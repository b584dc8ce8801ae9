use Rattle.std.proofs.Common.{[], ap, sym, ◌∙◌, ◌++◌, map}
use Rattle.std.specs.List.{flat_map, list_any}
use Rattle.mk_line.proofs.Joined.{joined}
use Rattle.mk_build.specs.BuildViews.{written_of}
use Rattle.mk_line.specs.Lines.{printed_line}
use Rattle.mk_line.specs.Marks.{close_line}
use Rattle.mk_build.specs.Building.{closed_field}
use Rattle.mk_build.specs.ForwardViews.{forwarded_of}
use Rattle.mk_build.specs.Forwards.{forwarded_part, head_with, is_8bit}
use Rattle.mk_build.specs.Multiparts.{multipart_of, part_as}
use Rattle.mk_build.proofs.building.build_of.Goals as goal

pub returns-clause-text : goal.returns-clause-text
returns-clause-text c =
    let eol = c.args.eol in
    let m = multipart_of c.args.multipart.now in
    let fields = map (λ f. f.items) c.args.fields.now in
    let parts = map written_of c.args.parts.now in
    let messages = map forwarded_of c.args.messages.now in
    let head = head_with eol (list_any (λ f. is_8bit f.text) messages) m in
    let written = flat_map (part_as eol m) parts in
    let sent = flat_map (forwarded_part eol m.boundary) messages in
    let close = printed_line (close_line eol m.boundary) in
    let one = c.push_fields.new.text.items in
    let two = c.push_head.new.text.items in
    let three = c.push_parts.new.text.items in
    let four = c.push_forwards.new.text.items in
    let last = c.push_close.new.text.items in (
      sym c.first_refusal.ensures ∙ c.in_default.is,
      joined [] (flat_map (closed_field eol) fields) (head ++ (written ++ (sent ++ close))) one last (c.in_ok-push_fields.ensures ∙ ap (λ t. t ++ flat_map (closed_field eol) fields) c.new-text.ensures.items)
          (joined one head (written ++ (sent ++ close)) two last (c.in_ok-push_head.ensures ∙ ap (λ w. one ++ head_with eol w m) c.are_8bit.ensures)
          (joined two written (sent ++ close) three last c.in_ok-push_parts.ensures
          (joined three sent close four last c.in_ok-push_forwards.ensures c.in_ok-push_close.ensures))),
    )
