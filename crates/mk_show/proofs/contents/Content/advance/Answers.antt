use Rattle.std.proofs.Common.{subst, sym}
use Rattle.mk_code.specs.Contents.{IsContent}
use Rattle.mk_code.proofs.Base64Blocks.{emptied}
use Rattle.mk_show.specs.GivenPieces.{IsLeft}
use Rattle.mk_show.proofs.SentPieces.{nothing}
use Rattle.mk_show.proofs.contents.Content.advance.Goals as goal

pub returns-then-is_empty-clause-next : goal.returns-then-is_empty-clause-next
returns-then-is_empty-clause-next c bytes is =
    let empty = emptied c.self.inside.rest.now c.is_empty.result c.is_empty.ensures c.if-is_empty.true in
    let left : IsContent c.self.inside.encoding c.self.inside.rest.now bytes = subst (λ g. IsLeft g bytes) (sym c.self.view_is) is in
    nothing c.self.inside.encoding bytes (subst (λ text. IsContent c.self.inside.encoding text bytes) empty left)
