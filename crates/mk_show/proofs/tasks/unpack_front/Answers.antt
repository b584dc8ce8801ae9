use Rattle.std.proofs.Common.{◌≡◌, ◌≢◌, rules, false, true, refl, inl, inr}
use Rattle.std.proofs.lemmas.Result.{err_from_is_err_and}
use Rattle.std.proofs.KnownBytes.{Appends-nil}
use Rattle.mk_transfer.specs.Said.{silence}
use Rattle.mk_view.specs.declared.extracting.ExtractError.TheVariants.{BadBase64}
use Rattle.mk_view.specs.LeafViews.{leaf_view}
use Rattle.mk_show.specs.Shown.{is_wanting}
use Rattle.mk_show.specs.Unpacking.{task_of}
use Rattle.mk_show.proofs.UnpackLemmas.{UnpackedAll-one, UnpackedSome-none, passed-leaf}
use Rattle.mk_show.proofs.tasks.unpack_front.Goals as goal

pub returns-in-Ok-clause-all : goal.returns-in-Ok-clause-all
returns-in-Ok-clause-all g c =
    let leaf = leaf_view c.args.leaf.now in
    let size = c.in-Ok.ensures.size in
    λ t here. UnpackedAll-one c.args.manner t (task_of true leaf) silence false _ _ (passed-leaf c.args.manner t leaf _ (inl (size.0, rw here size.1))) (Appends-nil _) (Appends-nil _) refl

pub returns-in_err-front-clause-some : goal.returns-in_err-front-clause-some
returns-in_err-front-clause-some g c =
    let from = err_from_is_err_and c.from_residual.result c.from_residual.ensures.1 in
    rw from.1 (λ t here. UnpackedSome-none c.args.manner t (task_of true (leaf_view c.args.leaf.now)) _ _ _ _ (inl refl))

pub returns-in_err-name-clause-some : goal.returns-in_err-name-clause-some
returns-in_err-name-clause-some g c =
    let from = err_from_is_err_and c.from_residual-in_err-name.result c.from_residual-in_err-name.ensures.1 in
    rw from.1 (λ t here. UnpackedSome-none c.args.manner t (task_of true (leaf_view c.args.leaf.now)) _ _ _ _ (inl refl))

pub returns-in-Err-NoSuchSection-clause-all : goal.returns-in-Err-NoSuchSection-clause-all
returns-in-Err-NoSuchSection-clause-all g c =
    let leaf = leaf_view c.args.leaf.now in
    let error = c.in-Err-NoSuchSection.field-0 in
    let known : is_wanting error ≡ false = search rules in
    let other : error ≢ BadBase64 = search rules in
    λ t here. UnpackedAll-one c.args.manner t (task_of true leaf) silence false _ _ (passed-leaf c.args.manner t leaf _ (inr (error, rw here c.in-Err-NoSuchSection.ensures.refused, other, known))) (Appends-nil _) (Appends-nil _) refl
