use Rattle.std.proofs.Common.{◌≡◌, ◌∙◌, arith, true, false, drop, inl, inr, subst, sym, rules}
use Rattle.std.proofs.lemmas.Result.{err_from_is_err_and}
use Rattle.mk_line.specs.Lines.{has_line_feed}
use Rattle.mk_mailbox.specs.inner.Gathered.{IsSplit}
use Rattle.mk_mailbox.specs.inner.Intakes.{held_of, kept_by}
use Rattle.mk_mailbox.proofs.Intaking.{counted_on, grown_on, kept_unknown, known_on, last_answers, piece_next, read_more, true_or_false}
use Rattle.mk_mailbox.proofs.intake.Intake.next.Goals as goal

pub returns-in-Ok-Some-clause-exact : goal.returns-in-Ok-Some-clause-exact
returns-in-Ok-Some-clause-exact g c =
    let t = c.loop-read.invariant.told in
    let piece = c.in-Ok-Some.piece.items in (
      t.0,
      t.1,
      t.2,
      t.3,
      piece_next piece t.0 (held_of c.args.self.now) (held_of c.take_lines.new.self)
          (subst (λ k. IsSplit c.args.self.now.gathered.from_lines piece k (kept_by c.take_lines.new.self)) t.4
          (subst (λ way. IsSplit way piece (kept_by c.loop-read.self) (kept_by c.take_lines.new.self)) c.loop-read.invariant.same (rw c.in-Ok-Some.field-0-is at c.in-Ok-Some.ensures.piece))),
    )

pub returns-then-self-clause-exact : goal.returns-then-self-clause-exact
returns-then-self-clause-exact g c =
    let t = c.loop-read.invariant.told in
    let same = rw c.in-Ok-None.field-0-is at c.in-Ok-None.ensures.piece in (
      t.0,
      t.1,
      t.2,
      t.3,
      last_answers c.last.result c.take_lines.new.self.gathered.from_lines (kept_by c.take_lines.new.self) t.0 (held_of c.args.self.now) (held_of c.last.new.self) (c.last.ensures.ended ∙ c.if-self.true)
          (c.take_lines.ensures.same ∙ c.loop-read.invariant.same) (same ∙ t.4) c.last.ensures.piece c.last.ensures.none c.last.ensures.err,
    )

pub returns-in_err-read-clause-exact : goal.returns-in_err-read-clause-exact
returns-in_err-read-clause-exact g c =
    let t = c.loop-read.invariant.told in
    let b = c.read.ensures.bytes in
    let same = rw c.in-Ok-None.field-0-is at c.in-Ok-None.ensures.piece in
    let stopped = err_from_is_err_and c.from_residual.result c.from_residual.ensures.1 in
    rw stopped.1
    (read_more _ _ _ c.args.self.now.ended (kept_by c.args.self.now) (kept_by c.take_lines.new.self) (kept_by c.read.new.self) t.0 b.0 _ _ _ t.1 t.2 t.3 (same ∙ t.4) b.1
    (λ e. true_or_false c.take_lines.new.self.ended (c.take_lines.ensures.ended ∙ (c.loop-read.invariant.stays e).0) c.if-self.false) b.2 b.3)

pub returns-in_err-read-clause-known : goal.returns-in_err-read-clause-known
returns-in_err-read-clause-known g c = λ known.
    let i = c.take_lines.new.self in
    let same = rw c.in-Ok-None.field-0-is at c.in-Ok-None.ensures.piece in
    let undecided : has_line_feed (drop i.gathered.line i.gathered.bytes.items) ≡ false = rw c.in-Ok-None.field-0-is at c.in-Ok-None.ensures.undecided in
    let taken : i.at ≡ i.filled = rw c.in-Ok-None.field-0-is at c.in-Ok-None.ensures.taken in
    absurd (kept_unknown i c.take_lines.ensures.intake taken undecided (known_on _ _ _ _ (c.take_lines.ensures.same ∙ c.loop-read.invariant.same) (same ∙ (c.loop-read.invariant.known known).2) known))

pub returns-in_err-read-clause-unknown : goal.returns-in_err-read-clause-unknown
returns-in_err-read-clause-unknown g c =
    let i = c.take_lines.new.self in
    let undecided : has_line_feed (drop i.gathered.line i.gathered.bytes.items) ≡ false = rw c.in-Ok-None.field-0-is at c.in-Ok-None.ensures.undecided in
    let taken : i.at ≡ i.filled = rw c.in-Ok-None.field-0-is at c.in-Ok-None.ensures.taken in
    let stopped = err_from_is_err_and c.from_residual.result c.from_residual.ensures.1 in
    rw stopped.1 (λ fault. inl (λ known. kept_unknown i c.take_lines.ensures.intake taken undecided (known_on _ _ _ _ (c.take_lines.ensures.same ∙ c.loop-read.invariant.same) (sym c.in_err-read.ensures.still) known)))

pub loop-read-preserved : goal.loop-read-preserved
loop-read-preserved g c =
    let t = c.loop-read.invariant.told in
    let b = c.read.ensures.bytes in
    let same = rw c.in-Ok-None.field-0-is at c.in-Ok-None.ensures.piece in
    let i = c.take_lines.new.self in
    let undecided : has_line_feed (drop i.gathered.line i.gathered.bytes.items) ≡ false = rw c.in-Ok-None.field-0-is at c.in-Ok-None.ensures.undecided in
    let taken : i.at ≡ i.filled = rw c.in-Ok-None.field-0-is at c.in-Ok-None.ensures.taken in
    let goes_on : c.args.self.now.ended ≡ true → ⊥ = λ e. true_or_false c.take_lines.new.self.ended (c.take_lines.ensures.ended ∙ (c.loop-read.invariant.stays e).0) c.if-self.false in
    record {
      intake = c.in_ok-read.ensures.intake;
      told = read_more _ _ _ c.args.self.now.ended (kept_by c.args.self.now) (kept_by c.take_lines.new.self) (kept_by c.read.new.self) t.0 b.0 _ _ _ t.1 t.2 t.3 (same ∙ t.4) b.1 goes_on b.2 b.3;
      ended = λ e. inr (c.read.ensures.ended e);
      stays = λ e. absurd (goes_on e);
      idle = λ e. absurd (goes_on e);
      began = λ _. goes_on;
      known = λ known. absurd (kept_unknown i c.take_lines.ensures.intake taken undecided (known_on _ _ _ _ (c.take_lines.ensures.same ∙ c.loop-read.invariant.same) (same ∙ (c.loop-read.invariant.known known).2) known));
      same = c.read.ensures.same ∙ (c.take_lines.ensures.same ∙ c.loop-read.invariant.same);
      well = search rules;
      grown = grown_on _ _ (kept_by c.loop-read.self) (kept_by c.take_lines.new.self) (kept_by c.read.new.self) b.0 c.loop-read.self.ended c.read.new.self.ended c.loop-read.invariant.grown (sym c.take_lines.ensures.ended ∙ c.if-self.false) same b.2 c.in_ok-read.ensures.grew;
      count = counted_on _ _ _ _ c.loop-read.invariant.count c.in_ok-read.ensures.counted;
    }

pub returns-in_err-read-clause-idle : goal.returns-in_err-read-clause-idle
returns-in_err-read-clause-idle g c = λ e. absurd (true_or_false c.take_lines.new.self.ended (c.take_lines.ensures.ended ∙ (c.loop-read.invariant.stays e).0) c.if-self.false)

pub returns-in_err-read-clause-only : goal.returns-in_err-read-clause-only
returns-in_err-read-clause-only g c = λ e. absurd (true_or_false c.take_lines.new.self.ended (c.take_lines.ensures.ended ∙ (c.loop-read.invariant.stays e).0) c.if-self.false)

pub returns-clause-only : goal.returns-clause-only
returns-clause-only g c = λ e. absurd (c.loop-read.invariant.began (omega (arith, c.loop-read-test.false)) e)
