use Rattle.std.proofs.lemmas.Result.{IfOk-weaker}
use Rattle.mk_words.proofs.hints.superfluous.Goals as goal

pub returns-in-Some : goal.returns-in-Some
returns-in-Some c = IfOk-weaker c.format.result _ _ (λ sentence h. (_, h)) c.format.ensures.ok
