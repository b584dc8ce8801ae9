use Rattle.std.proofs.Common.{ap, ◌∙◌, ◌++◌}
use Rattle.std.specs.Option.{option_map}
use Rattle.mk_line.proofs.Joined.{on_ok, joined}
use Rattle.mk_build.specs.BuildViews.{written_of}
use Rattle.mk_build.specs.Building.{encoded}
use Rattle.mk_build.specs.inner.PieceViews.{part_fields}
use Rattle.mk_build.proofs.PieceTexts.{part_whole}
use Rattle.mk_build.proofs.attaching.push_attached.Goals as goal

pub returns : goal.returns
returns c =
    let a = written_of c.args.written.now in
    let eol = c.args.eol in
    let charset = option_map (λ v. v.now) c.args.charset in
    let t = c.args.text.now.items in
    let one = c.push_part_fields.new.text.items in
    let last = c.push_bytes.new.text.items in
    on_ok c.push_bytes.result _ _ c.push_bytes.ensures
    (λ h. joined t (part_fields eol charset a) (encoded eol a) one last c.in_ok-push_part_fields.ensures h ∙ ap (λ x. t ++ x) (part_whole eol charset a (encoded eol a)))
