use Rattle.std.proofs.Common.{◌≡◌, Bool, true, false, Ok, Err, sym, subst}
use Rattle.mk_run.specs.Journaling.{journaling_of}
use Rattle.mk_run.specs.JournalRuns.{LeavesOpen, LeavesSteps, finished}
use Rattle.mk_transfer.specs.RunClauses.{counts, ends_itself, held}
use Rattle.mk_run.specs.Runs.{run_of, run_steps}
use Rattle.mk_script.specs.ScriptSteps.{script_of}
use Rattle.mk_expand.specs.Pieces.{as_given}
use Rattle.mk_script.specs.ScriptViews.{items_of}
use Rattle.mk_transfer.proofs.Blames.{blamed_least_with}
use Rattle.mk_transfer.proofs.GivenUp.{Leaves-ended, Leaves-given_up}
use Rattle.mk_run.proofs.RunLemmas.{LeavesJournal-given_up, Prints-given_up}
use Rattle.mk_script.proofs.ScriptTurns.{texts_length}
use Rattle.mk_run.proofs.engine.run_edit.Goals as goal

pub returns-in-Ok-clause-leaves : goal.returns-in-Ok-clause-leaves
returns-in-Ok-clause-leaves g c =
    let before = held (g.S.Source.remaining c.args.input.now) (g.O.Sink.contents c.args.out.now) (g.E.Sink.contents c.args.err.now) in
    let after = held (g.S.Source.remaining c.try_edit.new.input) (g.O.Sink.contents c.try_edit.new.out) (g.E.Sink.contents c.try_edit.new.err) in
    let kept = g.J.Sink.contents c.args.jout.now in
    let last = g.J.Sink.contents c.try_edit.new.jout in
    let was = g.J.Sink.finishes c.args.jout.now in
    let finished = g.J.Sink.finishes c.try_edit.new.jout in
    let journaling = journaling_of c.args.journal in
    let left = subst (λ n. LeavesSteps (Ok c.in-Ok.status) (as_given (items_of c.args.pieces.now)) journaling (script_of n c.args.script.now) before after kept last was finished) (sym (texts_length c.args.pieces.now)) c.in-Ok.ensures.leaves in
    let script = run_of (as_given (items_of c.args.pieces.now)) journaling left.0 c.args.script.now in
    (left.0, left.1, Leaves-ended _ c.in-Ok.status script.run before after left.2, left.3)

pub returns-in-Err-clause-leaves : goal.returns-in-Err-clause-leaves
returns-in-Err-clause-leaves g c =
    let before = held (g.S.Source.remaining c.args.input.now) (g.O.Sink.contents c.args.out.now) (g.E.Sink.contents c.args.err.now) in
    let between = held (g.S.Source.remaining c.try_edit.new.input) (g.O.Sink.contents c.try_edit.new.out) (g.E.Sink.contents c.try_edit.new.err) in
    let kept = g.J.Sink.contents c.args.jout.now in
    let last = g.J.Sink.contents c.try_edit.new.jout in
    let was = g.J.Sink.finishes c.args.jout.now in
    let finished = g.J.Sink.finishes c.try_edit.new.jout in
    let journaling = journaling_of c.args.journal in
    let left = subst (λ n. LeavesSteps (Err c.in-Err.cause) (as_given (items_of c.args.pieces.now)) journaling (script_of n c.args.script.now) before between kept last was finished) (sym (texts_length c.args.pieces.now)) c.in-Err.ensures.leaves in
    let script = run_of (as_given (items_of c.args.pieces.now)) journaling left.0 c.args.script.now in
    let after = held (g.S.Source.remaining c.try_edit.new.input) (g.O.Sink.contents c.try_edit.new.out) (g.E.Sink.contents c.give_up.new.err) in
    rw c.give_up.ensures.status (
      left.0,
      left.1,
      Leaves-given_up _ c.in-Err.cause script.run before after (g.E.Sink.contents c.try_edit.new.err) left.2.output left.2.errors
          (record {
            told = _;
            least = blamed_least_with c.in-Err.cause
                (counts (g.S.Source.failures c.args.input.now) (g.S.Source.read_count c.args.input.now) (g.O.Sink.failures c.args.out.now) (g.E.Sink.failures c.args.err.now))
                (counts (g.S.Source.failures c.try_edit.new.input) (g.S.Source.read_count c.try_edit.new.input) (g.O.Sink.failures c.try_edit.new.out) (g.E.Sink.failures c.try_edit.new.err))
                _ _ c.in-Err.ensures.blamed;
            most = c.give_up.ensures.counted;
            borne = c.in-Err.ensures.blamed;
            front = c.give_up.ensures.line;
            whole = c.give_up.ensures.whole;
          }) left.2.silent,
      LeavesJournal-given_up c.in-Err.cause script before after kept last was finished left.3.front left.3.later,
    )

pub returns-in-Err-clause-prints : goal.returns-in-Err-clause-prints
returns-in-Err-clause-prints g c =
    rw c.give_up.ensures.status (Prints-given_up c.in-Err.cause (journaling_of c.args.journal) _ _ _ _)

pub returns-in-Ok-clause-unfinished : goal.returns-in-Ok-clause-unfinished
returns-in-Ok-clause-unfinished g c = λ e. absurd (not_both (ends_itself c.in-Ok.status) e c.in-Ok.ensures.ended)
  where
    not_both : (b : Bool) → b ≡ false → b ≡ true → ⊥
    not_both b f t = cc

pub returns-in-Err-clause-unfinished : goal.returns-in-Err-clause-unfinished
returns-in-Err-clause-unfinished g c = λ _.
    let before = held (g.S.Source.remaining c.args.input.now) (g.O.Sink.contents c.args.out.now) (g.E.Sink.contents c.args.err.now) in
    let after = held (g.S.Source.remaining c.try_edit.new.input) (g.O.Sink.contents c.try_edit.new.out) (g.E.Sink.contents c.try_edit.new.err) in
    subst (λ n. LeavesOpen (λ message. run_steps (as_given (items_of c.args.pieces.now)) (journaling_of c.args.journal) message (script_of n c.args.script.now)) before after
    (g.J.Sink.contents c.args.jout.now) (g.J.Sink.contents c.try_edit.new.jout) (g.J.Sink.failures c.args.jout.now) (g.J.Sink.failures c.try_edit.new.jout)
    (finished (g.O.Sink.finishes c.args.out.now) (g.J.Sink.finishes c.args.jout.now)) (finished (g.O.Sink.finishes c.try_edit.new.out) (g.J.Sink.finishes c.try_edit.new.jout)))
    (sym (texts_length c.args.pieces.now)) c.in-Err.ensures.unfinished
