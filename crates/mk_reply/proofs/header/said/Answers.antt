use Rattle.std.proofs.Common.{[], ◌∙◌, ap, sym, unwrap_or}
use Rattle.mk_reply.specs.SpaceAround.{without_space_around}
use Rattle.mk_reply.proofs.SpaceTrimmed.{space_trimmed}
use Rattle.mk_reply.proofs.header.said.Goals as goal

pub returns-in-Some : goal.returns-in-Some
returns-in-Some c =
    space_trimmed _ _ c.trim_ascii.ensures.value
    ∙ sym (ap (λ f. without_space_around (unwrap_or f [])) c.in-Some.ensures.some.1)
