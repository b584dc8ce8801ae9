use Rattle.std.proofs.Common.{ap, sym, ◌∙◌, ◌++◌}
use Rattle.std.specs.List.{flat_map}
use Rattle.std.specs.Option.{option_map}
use Rattle.mk_build.specs.Building.{attach_refusal}
use Rattle.mk_build.specs.Multiparts.{attached_as}
use Rattle.mk_build.specs.inner.PieceViews.{coded_segment}
use Rattle.mk_build.proofs.pieces.Pieces.of_part.Goals as goal

pub returns-clause-pieces : goal.returns-clause-pieces
returns-clause-pieces c =
    let eol = c.args.eol in (
      ap attach_refusal (sym c.in_ok-written.ensures) ∙ (sym c.attach_refusal.ensures ∙ c.in_default.is),
      ap (λ t. t ++ flat_map (coded_segment eol) c.in_ok-segments.segments.items) (c.no_body.ensures.bytes eol)
          ∙ (c.in_ok-segments.ensures ∙ ap (attached_as eol (option_map (λ v. v.now) c.args.options.charset)) c.in_ok-written.ensures),
    )
