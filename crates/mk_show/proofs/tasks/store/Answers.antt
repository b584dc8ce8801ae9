use Rattle.std.proofs.Common.{rules, refl}
use Rattle.std.proofs.lemmas.Result.{err_from_is_err_and}
use Rattle.std.proofs.KnownBytes.{Appends-nil}
use Rattle.mk_transfer.proofs.Fronts.{AppendsFront-none}
use Rattle.mk_view.specs.LeafViews.{leaf_view}
use Rattle.mk_show.specs.Unpacking.{task_of}
use Rattle.mk_show.proofs.UnpackLemmas.{UnpackedAll-one, UnpackedSome-one, UnpackedSome-none, line_told, stored-leaf, crowded-leaf, front-leaf}
use Rattle.mk_show.proofs.tasks.store.Goals as goal

pub returns-in_err-target-clause-some : goal.returns-in_err-target-clause-some
returns-in_err-target-clause-some g c =
    let from = err_from_is_err_and c.from_residual.result c.from_residual.ensures.1 in
    let task = task_of c.args.cut (leaf_view c.args.leaf.now) in
    let bytes = c.requires.decodes in
    let stopped = rw (c.of_task-clash.ensures, c.requires.name) at c.in_err-target.ensures.stopped in
    rw from.1 (λ t here. UnpackedSome-none c.args.manner t task _ _ _ _ (front-leaf c.args.manner.clash t task bytes.0 _ _ (rw here bytes.1) (stopped bytes.0 bytes.2)))

pub returns-in_ok-say_stored-in-Some-clause-all : goal.returns-in_ok-say_stored-in-Some-clause-all
returns-in_ok-say_stored-in-Some-clause-all g c =
    let task = task_of c.args.cut (leaf_view c.args.leaf.now) in
    let bytes = c.requires.decodes in
    let put = rw (c.of_task-clash.ensures, c.requires.name, c.in-Some.is) at c.in_ok-target.ensures.put in
    let sent = rw c.deref.ensures.value at c.in_ok-say_stored-in-Some.ensures.sends in
    λ t here. UnpackedAll-one c.args.manner t task _ _ _ _ (stored-leaf c.args.manner t task bytes.0 _ _ _ (rw here bytes.1) (put bytes.0 bytes.2)) (rw here sent.whole) (Appends-nil _) refl

pub returns-in_err-say_stored-in-Some-clause-some : goal.returns-in_err-say_stored-in-Some-clause-some
returns-in_err-say_stored-in-Some-clause-some g c =
    let from = err_from_is_err_and c.from_residual-in_err-say_stored-in-Some.result c.from_residual-in_err-say_stored-in-Some.ensures.1 in
    let task = task_of c.args.cut (leaf_view c.args.leaf.now) in
    let bytes = c.requires.decodes in
    let put = rw (c.of_task-clash.ensures, c.requires.name, c.in-Some.is) at c.in_ok-target.ensures.put in
    let stopped = rw c.deref.ensures.value at c.in_err-say_stored-in-Some.ensures.sends in
    rw from.1 (λ t here. UnpackedSome-one c.args.manner t task _ _ _ (stored-leaf c.args.manner t task bytes.0 _ _ _ (rw here bytes.1) (put bytes.0 bytes.2)) (rw here stopped.front) (AppendsFront-none _ _))

pub returns-in_ok-report_exists-in-None-clause-all : goal.returns-in_ok-report_exists-in-None-clause-all
returns-in_ok-report_exists-in-None-clause-all g c =
    let task = task_of c.args.cut (leaf_view c.args.leaf.now) in
    let bytes = c.requires.decodes in
    let none = rw (c.of_task-clash.ensures, c.requires.name) at (c.put_free.ensures.full (search rules)) in
    let sent = rw c.requires.name at c.in_ok-report_exists-in-None.ensures in
    λ t here. UnpackedAll-one c.args.manner t task _ _ _ _ (crowded-leaf c.args.manner t task bytes.0 _ _ (rw here bytes.1) none) (Appends-nil _) sent.whole (line_told _ _ _)

pub returns-in_err-report_exists-in-None-clause-some : goal.returns-in_err-report_exists-in-None-clause-some
returns-in_err-report_exists-in-None-clause-some g c =
    let from = err_from_is_err_and c.from_residual-in_err-report_exists-in-None.result c.from_residual-in_err-report_exists-in-None.ensures.1 in
    let task = task_of c.args.cut (leaf_view c.args.leaf.now) in
    let bytes = c.requires.decodes in
    let none = rw (c.of_task-clash.ensures, c.requires.name) at (c.put_free.ensures.full (search rules)) in
    let stopped = rw c.requires.name at c.in_err-report_exists-in-None.ensures in
    rw from.1 (λ t here. UnpackedSome-one c.args.manner t task _ _ _ (crowded-leaf c.args.manner t task bytes.0 _ _ (rw here bytes.1) none) (AppendsFront-none _ _) stopped.front)
