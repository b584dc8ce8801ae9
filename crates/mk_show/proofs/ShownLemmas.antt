-- What is written of an answer is what a run leaves.
use Rattle.std.proofs.Common.{◌≡◌, List, ℕ, Option, Result, Ok, Err, IfErr, refl, inl, inr}
use Rattle.std.specs.Io.KnownBytes.{IsAtEnd}
use Rattle.mk_transfer.specs.declared.status.Status.{Status}
use Rattle.mk_transfer.specs.declared.status.Status.TheVariants.{Well, Refused, Usage, Fault, Memory}
use Rattle.mk_transfer.specs.declared.status.Cause.{Cause}
use Rattle.mk_transfer.specs.declared.status.Cause.TheVariants.{Read, Write, Memory as NoMemory}
use Rattle.mk_transfer.specs.Said.{Run}
use Rattle.mk_transfer.specs.RunClauses.{Reason, held, status_of}
use Rattle.mk_show.specs.Shown.{Shows, ShowsSoFar, Writes}

-- an answer that was written, or partly
pub ShowsSoFar-written : (R : Run → Type 0) (run : Run) (result : Result Status Cause) (input input_after out out_after err err_after : Option (List ℕ))
    → R run → IsAtEnd input_after → Writes result run out out_after err err_after → IfErr result (λ cause. cause ≡ Write)
    → ShowsSoFar R result (held input out err) (held input_after out_after err_after)
ShowsSoFar-written R run (Ok Well) input input_after out out_after err err_after r e w only = (run, r, record { status_is = w.0; written = record { output = w.1; errors = w.2 }; read = e })
ShowsSoFar-written R run (Ok Refused) input input_after out out_after err err_after r e w only = (run, r, record { status_is = w.0; written = record { output = w.1; errors = w.2 }; read = e })
ShowsSoFar-written R run (Ok Usage) input input_after out out_after err err_after r e w only = w
ShowsSoFar-written R run (Ok Fault) input input_after out out_after err err_after r e w only = w
ShowsSoFar-written R run (Ok Memory) input input_after out out_after err err_after r e w only = w
ShowsSoFar-written R run (Err cause) input input_after out out_after err err_after r e w only = inr (run, r, record { output = w.0; errors = w.1; silent = λ read. absurd (not_both cause only read) })
  where
    not_both : (cause : Cause) → cause ≡ Write → cause ≡ Read → ⊥
    not_both cause a b = cc

-- a run that ended by itself
pub Shows-ended : (why : Reason) (R : Run → Type 0) (status : Status) (input input_after out out_after err err_after : Option (List ℕ))
    → ShowsSoFar R (Ok status) (held input out err) (held input_after out_after err_after) → Shows why R status (held input out err) (held input_after out_after err_after)
Shows-ended why R Well input input_after out out_after err err_after s = s
Shows-ended why R Refused input input_after out out_after err err_after s = s
Shows-ended why R Usage input input_after out out_after err err_after s = s
Shows-ended why R Fault input input_after out out_after err err_after s = absurd s
Shows-ended why R Memory input input_after out out_after err err_after s = absurd s

-- what was left when a run stopped, and the line that says why
pub Shows-given_up : (why : Reason) (R : Run → Type 0) (cause : Cause) (input input_after out out_after err between told : Option (List ℕ))
    → ShowsSoFar R (Err cause) (held input out err) (held input_after out_after between) → why cause between told
    → Shows why R (status_of cause) (held input out err) (held input_after out_after told)
Shows-given_up why R Read input input_after out out_after err between told s line = elim s [
  | inl n ↦ inl (record { cause = Read; status_is = refl; output = n.output; between = between; errors = n.errors; line = line })
  | inr w ↦ inr (w.0, w.1, record { output = w.2.output; cause = Read; status_is = refl; between = between; errors = w.2.errors; line = line; silent = w.2.silent })
]
Shows-given_up why R Write input input_after out out_after err between told s line = elim s [
  | inl n ↦ inl (record { cause = Write; status_is = refl; output = n.output; between = between; errors = n.errors; line = line })
  | inr w ↦ inr (w.0, w.1, record { output = w.2.output; cause = Write; status_is = refl; between = between; errors = w.2.errors; line = line; silent = w.2.silent })
]
Shows-given_up why R NoMemory input input_after out out_after err between told s line = elim s [
  | inl n ↦ inl (record { cause = NoMemory; status_is = refl; output = n.output; between = between; errors = n.errors; line = line })
  | inr w ↦ inr (w.0, w.1, record { output = w.2.output; cause = NoMemory; status_is = refl; between = between; errors = w.2.errors; line = line; silent = w.2.silent })
]
