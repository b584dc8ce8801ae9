use Rattle.std.proofs.Common.{[], ◌∷◌, Some, None}
use Rattle.std.proofs.lemmas.Slice.Eq.{strip_suffix_is}
use Rattle.std.proofs.lemmas.Bool.{eqb-true, eq-eqb}
use Rattle.mk_tree.proofs.Endings.{ended_crlf, ended_lf, ended_none}
use Rattle.mk_tree.proofs.section.unended.Goals as goal

pub returns-in-Some-strip_suffix : goal.returns-in-Some-strip_suffix
returns-in-Some-strip_suffix c =
    ended_crlf c.args.text.now c.in-Some.line.now c.in-Some-strip_suffix.content.now
    (strip_suffix_is (λ a b. (eqb-true a b, eq-eqb a b)) c.args.text.now (10 ∷ []) (Some c.in-Some.line) c.in-Some.ensures.cases)
    (strip_suffix_is (λ a b. (eqb-true a b, eq-eqb a b)) c.in-Some.line.now (13 ∷ []) (Some c.in-Some-strip_suffix.content) c.in-Some-strip_suffix.ensures.cases)

pub returns-in-None-strip_suffix : goal.returns-in-None-strip_suffix
returns-in-None-strip_suffix c =
    ended_lf c.args.text.now c.in-Some.line.now
    (strip_suffix_is (λ a b. (eqb-true a b, eq-eqb a b)) c.args.text.now (10 ∷ []) (Some c.in-Some.line) c.in-Some.ensures.cases)
    (strip_suffix_is (λ a b. (eqb-true a b, eq-eqb a b)) c.in-Some.line.now (13 ∷ []) None c.in-None-strip_suffix.ensures.cases)

pub returns-in-None : goal.returns-in-None
returns-in-None c = ended_none c.args.text.now (strip_suffix_is (λ a b. (eqb-true a b, eq-eqb a b)) c.args.text.now (10 ∷ []) None c.in-None.ensures.cases)
