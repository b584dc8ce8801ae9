use Rattle.std.proofs.Common.{◌≡◌, arith, true, false, rules, refl, inl, inr}
use Rattle.std.proofs.lemmas.Result.{err_from_is_err_and}
use Rattle.std.proofs.KnownBytes.{Appends-nil}
use Rattle.mk_view.specs.LeafViews.{leaf_view}
use Rattle.mk_show.specs.Shown.{is_wanting}
use Rattle.mk_transfer.proofs.Fronts.{AppendsFront-none}
use Rattle.mk_show.specs.Unpacking.{task_of}
use Rattle.mk_show.proofs.UnpackLemmas.{UnpackedAll-one, UnpackedSome-one, line_told, undecoded-leaf}
use Rattle.mk_show.proofs.tasks.unpack_whole.Goals as goal

pub returns-in-Err : goal.returns-in-Err
returns-in-Err g c =
    let leaf = leaf_view c.args.leaf.now in
    let known : is_wanting c.in-Err.reason ≡ false = search rules in
    let reason = c.in-Err.ensures.refused in
    let sent = rw c.deref.ensures.value at c.in_ok-report_undecoded-in-Err.ensures in
    record {
      all = λ t here. UnpackedAll-one c.args.manner t (task_of false leaf) _ true _ _ (undecoded-leaf c.args.manner t leaf c.in-Err.reason _ (rw here reason) known) (Appends-nil _) sent.whole (line_told _ _ _);
      some = tt;
      failed = tt;
      memory = tt;
      well = record { output = refl {a = g.O.Sink.failures c.args.out.now}; errors = sent.well; folder = refl {a = g.F.Folder.failures c.args.dir.now} };
      counted = omega (arith, sent.well);
      unfinished = refl {a = g.O.Sink.finishes c.args.out.now};
    }

pub returns-in_err-report_undecoded-in-Err : goal.returns-in_err-report_undecoded-in-Err
returns-in_err-report_undecoded-in-Err g c =
    let leaf = leaf_view c.args.leaf.now in
    let known : is_wanting c.in-Err.reason ≡ false = search rules in
    let reason = c.in-Err.ensures.refused in
    let from = err_from_is_err_and c.from_residual.result c.from_residual.ensures.1 in
    let stopped = rw c.deref.ensures.value at c.in_err-report_undecoded-in-Err.ensures in
    rw (from.1, from.2) (record {
      all = tt;
      some = λ t here. UnpackedSome-one c.args.manner t (task_of false leaf) _ _ _ (undecoded-leaf c.args.manner t leaf c.in-Err.reason _ (rw here reason) known) (AppendsFront-none _ _) stopped.front;
      failed = λ e. inr (inl (stopped.fault e));
      memory = λ e. record { output = refl {a = g.O.Sink.failures c.args.out.now}; errors = stopped.steady e; folder = refl {a = g.F.Folder.failures c.args.dir.now} };
      well = tt;
      counted = stopped.counted;
      unfinished = refl {a = g.O.Sink.finishes c.args.out.now};
    })
