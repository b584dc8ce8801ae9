use Rattle.std.proofs.Common.{length, ap, subst, sym, ◌∙◌}
use Rattle.mk_code.specs.Contents.{IsContent}
use Rattle.mk_code.proofs.Contents.{content_same}
use Rattle.mk_show.specs.GivenPieces.{IsLeft}
use Rattle.mk_show.proofs.contents.Content.size.Goals as goal

pub returns-in-Ok : goal.returns-in-Ok
returns-in-Ok c bytes is =
    let counted = c.in-Ok.ensures.size in
    let left : IsContent c.self.inside.encoding c.self.inside.rest.now bytes = subst (λ g. IsLeft g bytes) (sym c.self.view_is) is in
    counted.2 ∙ ap length (content_same c.self.inside.encoding c.self.inside.rest.now counted.0 bytes counted.1 left)
