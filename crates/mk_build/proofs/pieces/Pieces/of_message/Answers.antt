use Rattle.std.proofs.Common.{◌≡◌, ap, map, sym, ◌∙◌, ◌++◌}
use Rattle.std.specs.List.{flat_map}
use Rattle.mk_build.specs.BuildViews.{written_in, written_of}
use Rattle.mk_build.specs.ForwardViews.{forwarded_of}
use Rattle.mk_build.specs.Forwards.{built_with, refusal_with}
use Rattle.mk_build.specs.Multiparts.{multipart_of}
use Rattle.mk_build.specs.inner.PieceViews.{coded_segment}
use Rattle.mk_build.proofs.pieces.Pieces.of_message.Goals as goal

pub returns-clause-pieces : goal.returns-clause-pieces
returns-clause-pieces c =
    let eol = c.args.eol in
    let fields = map (λ f. f.items) c.args.fields.now in
    let messages = map forwarded_of c.args.messages.now in
    let m = multipart_of c.args.multipart.now in
    let looked : map written_of c.deref.result.now ≡ map (written_in c.args.multipart.now.utf8_names) c.args.parts.now = ap (map written_of) c.deref.ensures.value ∙ c.in_ok-written.ensures in
    let made : map written_of c.deref-2.result.now ≡ map (written_in c.args.multipart.now.utf8_names) c.args.parts.now = ap (map written_of) c.deref-2.ensures.value ∙ c.in_ok-written.ensures in (
      ap (λ parts. refusal_with fields parts messages m) (sym looked) ∙ (sym c.first_refusal.ensures ∙ c.in_default.is),
      ap (λ t. t ++ flat_map (coded_segment eol) c.in_ok-segments.segments.items) (c.no_body.ensures.bytes eol) ∙ (c.in_ok-segments.ensures ∙ ap (λ parts. built_with eol fields parts messages m) made),
    )
