use Rattle.std.proofs.Common.{◌≡◌, ◌<◌, ◌≤◌, ◌+◌, ◌++◌, ◌⊎◌, ℕ, List, [], true, length, if◌then◌else◌}
use Rattle.std.specs.Io.KnownBytes.{Consumes, IsAtEnd}
use Rattle.mk_mailbox.specs.Devices.{IsFull}
use Rattle.mk_mailbox.specs.inner.Intakes.{IsIntake, kept_by}
use Rattle.mk_mailbox.specs.Mailboxes.{FitsReads, IsKnownWhole}
use Rattle.mk_mailbox.proofs.intake.Intake.next.Given as goal

abbrev pub invariant-loop-read : goal.invariant-loop-read
invariant-loop-read g l = record {
  intake : IsIntake l.self;
  told : (read : List ℕ) × Consumes (g.S.Source.remaining l.fn.r) (g.S.Source.remaining l.r) read
      × (l.fn.self.ended ≡ true → read ≡ [])
      × FitsReads read (g.S.Source.read_count l.fn.r) (g.S.Source.read_count l.r)
      × (kept_by l.self ≡ kept_by l.fn.self ++ read);
  ended : l.self.ended ≡ true → (l.fn.self.ended ≡ true) ⊎ IsAtEnd (g.S.Source.remaining l.r);
  stays : l.fn.self.ended ≡ true → (l.self.ended ≡ true) × (g.S.Source.remaining l.r ≡ g.S.Source.remaining l.fn.r);
  idle : l.fn.self.ended ≡ true → g.S.Source.read_count l.r ≡ g.S.Source.read_count l.fn.r;
  began : 0 < l._read → l.fn.self.ended ≡ true → ⊥;
  known : IsKnownWhole l.fn.self.gathered.from_lines (kept_by l.fn.self) → (g.S.Source.remaining l.r ≡ g.S.Source.remaining l.fn.r) × (g.S.Source.read_count l.r ≡ g.S.Source.read_count l.fn.r)
      × (kept_by l.self ≡ kept_by l.fn.self);
  same : l.self.gathered.from_lines ≡ l.fn.self.gathered.from_lines;
  well : g.S.Source.failures l.r ≡ g.S.Source.failures l.fn.r;
  grown : length (kept_by l.fn.self) + l._read ≤ length (kept_by l.self) + (if l.self.ended then 1 else 0);
  count : (g.S.Source.read_count l.fn.r + l._read ≤ g.S.Source.read_count l.r) ⊎ IsFull (g.S.Source.read_count l.r);
}
