use Rattle.std.proofs.Common.{◌≡◌, ◌-◌}
use Rattle.mk_mailbox.specs.inner.Intakes.{IsIntake, kept_by}
use Rattle.mk_mailbox.proofs.intake.Intake.take_lines.Given as goal

abbrev pub invariant-lines : goal.invariant-lines
invariant-lines l = record {
  intake : IsIntake l.self;
  kept : kept_by l.self ≡ kept_by l.fn.self;
  ended : l.self.ended ≡ l.fn.self.ended;
  same : l.self.gathered.from_lines ≡ l.fn.self.gathered.from_lines;
}

abbrev pub decreases-lines : goal.decreases-lines
decreases-lines l = l.self.filled - l.self.at
