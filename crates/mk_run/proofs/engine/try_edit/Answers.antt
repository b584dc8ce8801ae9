use Rattle.std.proofs.Common.{[], refl, inl}
use Rattle.std.proofs.KnownBytes.{Appends-nil, Consumes-nil, Keeps-refl}
use Rattle.mk_transfer.proofs.Fronts.{AppendsFront-none}
use Rattle.mk_run.proofs.engine.try_edit.Goals as goal

pub returns-in-Ok-report_syntax-clause-leaves : goal.returns-in-Ok-report_syntax-clause-leaves
returns-in-Ok-report_syntax-clause-leaves g c =
    let bad = rw c.in-Err-Syntax.field-0-is at c.in-Err-Syntax.ensures.refused in (
      [],
      Consumes-nil _,
      rw bad (record {
        status_is = refl;
        written = record { output = Appends-nil _; errors = c.in-Ok-report_syntax.ensures.whole };
        read = Keeps-refl _;
      }),
      rw bad (record { whole = Appends-nil _; stands = λ some. absurd (some refl); untouched = λ _. refl }),
    )

pub returns-in-Err-clause-leaves : goal.returns-in-Err-clause-leaves
returns-in-Err-clause-leaves g c =
    let bad = rw c.in-Err-Syntax.field-0-is at c.in-Err-Syntax.ensures.refused in (
      [],
      Consumes-nil _,
      rw bad (record { output = AppendsFront-none _ _; errors = c.in-Err.ensures.front; silent = λ _. Keeps-refl _ }),
      rw bad (record { front = AppendsFront-none _ _; later = inl (Keeps-refl _) }),
    )

pub returns-in-Err-Memory-clause-leaves : goal.returns-in-Err-Memory-clause-leaves
returns-in-Err-Memory-clause-leaves g c = (
  [],
  Consumes-nil _,
  record { output = AppendsFront-none _ _; errors = AppendsFront-none _ _; silent = λ _. Keeps-refl _ },
  record { front = AppendsFront-none _ _; later = inl (Keeps-refl _) },
)

pub returns-in-Err-clause-unfinished : goal.returns-in-Err-clause-unfinished
returns-in-Err-clause-unfinished g c = ([], Consumes-nil _, inl refl)

pub returns-in-Err-Memory-clause-unfinished : goal.returns-in-Err-Memory-clause-unfinished
returns-in-Err-Memory-clause-unfinished g c = ([], Consumes-nil _, inl refl)
