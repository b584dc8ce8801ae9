use Rattle.std.proofs.Common.{[], ◌∷◌}
use Rattle.std.proofs.lemmas.Slice.Eq.{strip_suffix_is}
use Rattle.std.proofs.lemmas.Bool.{eqb-true, eq-eqb}
use Rattle.mk_script.proofs.endings.before_return.Goals as goal

pub returns : goal.returns
returns c = strip_suffix_is (λ a b. (eqb-true a b, eq-eqb a b)) c.args.bytes.now (13 ∷ []) c.strip_suffix.result c.strip_suffix.ensures.cases
