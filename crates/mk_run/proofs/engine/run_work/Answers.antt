use Rattle.std.proofs.Common.{◌≡◌, ◌∙◌, Err, ap, sym, refl, inl}
use Rattle.std.proofs.KnownBytes.{Appends-nil, Keeps-refl}
use Rattle.mk_run.specs.Journaling.{begun, journaling_of}
use Rattle.mk_transfer.specs.RunClauses.{held, counts}
use Rattle.mk_run.specs.Runs.{run_begun, run_from, run_on}
use Rattle.mk_run.specs.inner.Doings.{doing_of}
use Rattle.mk_transfer.proofs.Fronts.{AppendsFront-none}
use Rattle.mk_run.proofs.RunLemmas.{Leaves-session, Prints-session, named_reason, open-session, session_blamed, session_ended}
use Rattle.mk_run.proofs.engine.run_work.Goals as goal

pub returns-in-Err-clause-leaves : goal.returns-in-Err-clause-leaves
returns-in-Err-clause-leaves g c = (
  c.in-Err.ensures.front.0,
  c.in-Err.ensures.front.1,
  record { output = AppendsFront-none _ _; errors = AppendsFront-none _ _; silent = λ _. Keeps-refl _ },
  record { front = AppendsFront-none _ _; later = inl (Keeps-refl _) },
)

pub returns-in-Ok-begin-clause-leaves : goal.returns-in-Ok-begin-clause-leaves
returns-in-Ok-begin-clause-leaves g c =
    let before = held (g.S.Source.remaining c.args.input.now) (g.O.Sink.contents c.args.out.now) (g.E.Sink.contents c.args.err.now) in
    let after = held (g.S.Source.remaining c.read_all.new.input) (g.O.Sink.contents c.run_session.new.out) (g.E.Sink.contents c.run_session.new.err) in
    let left = Leaves-session c.run_session.result (doing_of c.args.work) (journaling_of c.args.journal) c.in-Ok-begin.session before after
    (g.J.Sink.contents c.args.jout.now) (g.J.Sink.contents c.run_session.new.jout) (g.J.Sink.finishes c.args.jout.now) (g.J.Sink.finishes c.run_session.new.jout) c.in-Ok.ensures.ended c.run_session.ensures.leaves in (
      c.in-Ok.message.items,
      c.in-Ok.ensures.all,
      rw c.in-Ok-begin.ensures.ok left.0,
      rw c.in-Ok-begin.ensures.ok left.1,
    )

pub returns-in-Ok-begin-clause-ended : goal.returns-in-Ok-begin-clause-ended
returns-in-Ok-begin-clause-ended g c =
    session_ended c.run_session.result (doing_of c.args.work) (journaling_of c.args.journal) c.in-Ok-begin.session _ _ _ _ c.run_session.ensures.leaves

pub returns-in-Ok-begin-clause-blamed : goal.returns-in-Ok-begin-clause-blamed
returns-in-Ok-begin-clause-blamed g c =
    session_blamed c.run_session.result _ _ _ _ _
    (counts (g.S.Source.failures c.args.input.now) (g.S.Source.read_count c.args.input.now) (g.O.Sink.failures c.args.out.now) (g.E.Sink.failures c.args.err.now))
    (counts (g.S.Source.failures c.read_all.new.input) (g.S.Source.read_count c.read_all.new.input) (g.O.Sink.failures c.run_session.new.out) (g.E.Sink.failures c.run_session.new.err))
    (g.J.Sink.failures c.args.jout.now) (g.J.Sink.failures c.run_session.new.jout) c.run_session.ensures.leaves c.in-Ok.ensures.well c.run_session.ensures.blamed c.run_session.ensures.memory c.run_session.ensures.counted

pub returns-in-Ok-report_journal-clause-leaves : goal.returns-in-Ok-report_journal-clause-leaves
returns-in-Ok-report_journal-clause-leaves g c =
    let named = named_reason c.in-Err-begin.error (sym c.is_memory.ensures ∙ c.if-is_memory.false) in
    let refused : begun (journaling_of c.args.journal) c.in-Ok.message.items ≡ Err named.0 = rw named.1 at c.in-Err-begin.ensures.refused in
    let sent = rw named.1 at c.in-Ok-report_journal.ensures in (
      c.in-Ok.message.items,
      c.in-Ok.ensures.all,
      rw refused (record { status_is = refl; written = record { output = Appends-nil _; errors = sent.whole }; read = c.in-Ok.ensures.ended }),
      rw refused (record { whole = Appends-nil _; stands = λ some. absurd (some refl); untouched = λ _. refl }),
    )

pub returns-clause-leaves : goal.returns-clause-leaves
returns-clause-leaves g c =
    let named = named_reason c.in-Err-begin.error (sym c.is_memory.ensures ∙ c.if-is_memory.false) in
    let refused : begun (journaling_of c.args.journal) c.in-Ok.message.items ≡ Err named.0 = rw named.1 at c.in-Err-begin.ensures.refused in
    let sent = rw named.1 at c.in-Err-report_journal.ensures in (
      c.in-Ok.message.items,
      c.in-Ok.ensures.all,
      rw refused (record { output = AppendsFront-none _ _; errors = sent.front; silent = λ _. Keeps-refl _ }),
      rw refused (record { front = AppendsFront-none _ _; later = inl (Keeps-refl _) }),
    )

pub returns-in-Ok-begin-clause-prints : goal.returns-in-Ok-begin-clause-prints
returns-in-Ok-begin-clause-prints g c =
    let before = held (g.S.Source.remaining c.args.input.now) (g.O.Sink.contents c.args.out.now) (g.E.Sink.contents c.args.err.now) in
    let after = held (g.S.Source.remaining c.read_all.new.input) (g.O.Sink.contents c.run_session.new.out) (g.E.Sink.contents c.run_session.new.err) in
    Prints-session c.run_session.result (doing_of c.args.work) (journaling_of c.args.journal) c.in-Ok-begin.session _ _ _ _ c.run_session.ensures.leaves
    c.in-Ok.message.items before after (g.O.Sink.finishes c.args.out.now) (g.O.Sink.finishes c.run_session.new.out) c.in-Ok.ensures.all c.in-Ok-begin.ensures.ok c.run_session.ensures.finishes

pub returns-in-Ok-report_journal-clause-prints : goal.returns-in-Ok-report_journal-clause-prints
returns-in-Ok-report_journal-clause-prints g c =
    let named = named_reason c.in-Err-begin.error (sym c.is_memory.ensures ∙ c.if-is_memory.false) in
    let refused : begun (journaling_of c.args.journal) c.in-Ok.message.items ≡ Err named.0 = rw named.1 at c.in-Err-begin.ensures.refused in
    (c.in-Ok.message.items, c.in-Ok.ensures.all, rw refused refl)

pub returns-in-Err-clause-unfinished : goal.returns-in-Err-clause-unfinished
returns-in-Err-clause-unfinished g c = (c.in-Err.ensures.front.0, c.in-Err.ensures.front.1, inl refl)

pub returns-in-Ok-begin-clause-unfinished : goal.returns-in-Ok-begin-clause-unfinished
returns-in-Ok-begin-clause-unfinished g c =
    let doing = doing_of c.args.work in
    let journaling = journaling_of c.args.journal in
    open-session c.run_session.result (run_on doing journaling) (run_from doing journaling c.in-Ok-begin.session) c.in-Ok.message.items
    (held (g.S.Source.remaining c.args.input.now) (g.O.Sink.contents c.args.out.now) (g.E.Sink.contents c.args.err.now))
    (held (g.S.Source.remaining c.read_all.new.input) (g.O.Sink.contents c.run_session.new.out) (g.E.Sink.contents c.run_session.new.err))
    _ _ _ _ _ _ c.in-Ok.ensures.all (ap (run_begun doing journaling) c.in-Ok-begin.ensures.ok) c.run_session.ensures.unfinished

pub returns-then-is_memory-clause-unfinished : goal.returns-then-is_memory-clause-unfinished
returns-then-is_memory-clause-unfinished g c = (c.in-Ok.message.items, c.in-Ok.ensures.all, inl refl)

pub returns-clause-unfinished : goal.returns-clause-unfinished
returns-clause-unfinished g c = (c.in-Ok.message.items, c.in-Ok.ensures.all, inl refl)
