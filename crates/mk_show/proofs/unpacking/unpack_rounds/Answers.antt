use Rattle.std.proofs.Common.{◌≡◌, ◌||◌, ◌∙◌, rules, ◌++◌, false, true, Bool, ap, map, sym}
use Rattle.std.proofs.lemmas.List.{append-nil}
use Rattle.std.proofs.lemmas.Result.{err_from_is_err_and}
use Rattle.mk_view.specs.LeafViews.{leaf_view}
use Rattle.mk_show.specs.Unpacking.{task_of}
use Rattle.mk_show.proofs.UnpackLemmas.{UnpackedAll-following, UnpackedSome-following, UnpackedSome-front, rounds_are, second_round}
use Rattle.mk_show.proofs.unpacking.unpack_rounds.Goals as goal

pub returns-in_err-refused-clause-some : goal.returns-in_err-refused-clause-some
returns-in_err-refused-clause-some g c =
    let from = err_from_is_err_and c.from_residual.result c.from_residual.ensures.1 in
    let leaves = map leaf_view c.args.leaves.now in
    rw from.1 (λ t h. UnpackedSome-front c.args.options.manner t _ (second_round c.args.options.prefix leaves) _ _ _ (c.in_err-refused.ensures.some t h) (rounds_are c.args.options.prefix leaves))

pub returns-in_err-crowded-clause-some : goal.returns-in_err-crowded-clause-some
returns-in_err-crowded-clause-some g c =
    let from = err_from_is_err_and c.from_residual-in_err-crowded.result c.from_residual-in_err-crowded.ensures.1 in
    let leaves = map leaf_view c.args.leaves.now in
    let on : c.args.options.prefix ≡ true = search rules in
    rw (from.1, on) (λ t h. UnpackedSome-following c.args.options.manner t (map (task_of false) leaves) (map (task_of true) leaves) _ _ _ _ _ _ (c.in_ok-refused.ensures.all t h) (c.in_err-crowded.ensures.some t h)
    (ap (λ ys. map (task_of false) leaves ++ ys) (sym (append-nil (map (task_of true) leaves)))))

pub returns-then-refused-clause-all : goal.returns-then-refused-clause-all
returns-then-refused-clause-all g c =
    let leaves = map leaf_view c.args.leaves.now in
    let on : c.args.options.prefix ≡ true = search rules in
    let first : c.in_ok-refused.refused ≡ true = search rules in
    let either : (c.in_ok-refused.refused || c.in_ok-crowded.crowded) ≡ c.in_ok-refused.refused = ap (λ (b : Bool). b || c.in_ok-crowded.crowded) first ∙ sym first in
    λ t h. rw (on, sym either) (UnpackedAll-following c.args.options.manner t (map (task_of false) leaves) (map (task_of true) leaves) _ _ _ _ _ (c.in_ok-refused.ensures.all t h) (c.in_ok-crowded.ensures.all t h))

pub returns-else-refused-clause-all : goal.returns-else-refused-clause-all
returns-else-refused-clause-all g c =
    let leaves = map leaf_view c.args.leaves.now in
    let on : c.args.options.prefix ≡ true = search rules in
    let either : (c.in_ok-refused.refused || c.in_ok-crowded.crowded) ≡ c.in_ok-crowded.crowded = ap (λ (b : Bool). b || c.in_ok-crowded.crowded) c.if-refused.false in
    λ t h. rw (on, sym either) (UnpackedAll-following c.args.options.manner t (map (task_of false) leaves) (map (task_of true) leaves) _ _ _ _ _ (c.in_ok-refused.ensures.all t h) (c.in_ok-crowded.ensures.all t h))
