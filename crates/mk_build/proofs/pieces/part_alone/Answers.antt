use Rattle.std.proofs.Common.{ap, ◌∙◌, ◌++◌}
use Rattle.std.specs.Option.{option_map}
use Rattle.mk_build.specs.BuildViews.{written_of}
use Rattle.mk_build.specs.inner.PieceViews.{coded_body, part_fields}
use Rattle.mk_build.proofs.PieceTexts.{alone_told, segment_first}
use Rattle.mk_build.proofs.pieces.part_alone.Goals as goal

pub returns : goal.returns
returns c =
    let eol = c.args.eol in
    let charset = option_map (λ v. v.now) c.args.charset in
    let a = written_of c.args.part.now in
    segment_first eol c.new-list.result.items c.push_back.new.self.items _ _ c.new-list.ensures.items c.in_ok-push_back.ensures.items
    (alone_told eol charset a c.push_part_fields.new.text.items (coded_body eol c.body_of.result)
    (c.in_ok-push_part_fields.ensures ∙ ap (λ t. t ++ part_fields eol charset a) c.new-made.ensures.items) (c.body_of.ensures eol))
