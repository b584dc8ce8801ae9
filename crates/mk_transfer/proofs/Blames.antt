-- Which devices failed, where a run is given up.
use Rattle.std.proofs.Common.{◌≡◌, ◌≤◌, ◌⊎◌, ℕ, List, Option, Result, Ok, Err, IfErr, OnErr, arith, inl, inr, refl, subst, sym}
use Rattle.mk_transfer.specs.declared.status.Status.{Status}
use Rattle.mk_transfer.specs.declared.status.Status.TheVariants.{Fault}
use Rattle.mk_transfer.specs.declared.status.Cause.{Cause}
use Rattle.mk_transfer.specs.declared.status.Cause.TheVariants.{Read, Write, Memory}
use Rattle.mk_transfer.specs.declared.transfer.Stop.{Stop}
use Rattle.mk_transfer.specs.declared.transfer.Stop.TheVariants.{Fault as Stopped, Memory as Wanting}
use Rattle.mk_transfer.specs.RunClauses.{Counts, IsBlamed, IsBlamedWith, ReadFailed, Sends, WriteFailed, cause_of_reading, status_of}
use Rattle.mk_transfer.proofs.Fronts.{Rose-on}

-- reading stopped
pub reading_blamed : (stop : Stop) (cause : Cause) (before after : Counts) → cause ≡ cause_of_reading stop
    → (stop ≡ Stopped → ReadFailed before after) → (stop ≡ Wanting → after.input ≡ before.input) → after.output ≡ before.output → after.errors ≡ before.errors
    → IsBlamed cause before after
reading_blamed Stopped cause before after e fault memory output errors = subst (λ c. IsBlamed c before after) (sym e) (record { failed = fault refl; output = output; errors = errors })
reading_blamed Wanting cause before after e fault memory output errors = subst (λ c. IsBlamed c before after) (sym e) (record { input = memory refl; output = output; errors = errors })

-- writing failed, where it did
pub writing_blamed : (result : Result Status Cause) (before after : Counts) → IfErr result (λ cause. cause ≡ Write) → OnErr result (WriteFailed before after) → after.input ≡ before.input → before.errors ≤ after.errors
    → IfErr result (λ cause. IsBlamed cause before after)
writing_blamed (Ok status) before after only failed input errors = tt
writing_blamed (Err cause) before after only failed input errors = subst (λ c. IsBlamed c before after) (sym only) (record { failed = failed; input = input; errors = errors })

-- the device that failed has failed too once the line that says why was written
pub blame_stays : (cause : Cause) (before after : Counts) (told : ℕ) → IsBlamed cause before (record after { errors = told }) → told ≤ after.errors → status_of cause ≡ Fault
    → ReadFailed before after ⊎ WriteFailed before after
blame_stays Read before after told blamed less e = inl blamed.failed
blame_stays Write before after told blamed less e = inr (elim blamed.failed [ inl output ↦ inl output | inr errors ↦ inr (Rose-on before.errors told after.errors errors less) ])
blame_stays Memory before after told blamed less e = cc

-- the failures that the errors had counted before a run aren't fewer before the line that says why it was given up
pub blamed_least : (cause : Cause) (before after : Counts) → IsBlamed cause before after → before.errors ≤ after.errors
blamed_least Read before after b = omega (arith, b.errors)
blamed_least Write before after b = b.errors
blamed_least Memory before after b = omega (arith, b.errors)

pub blamed_least_with : (cause : Cause) (before after : Counts) (more left : ℕ) → IsBlamedWith cause before after more left → before.errors ≤ after.errors
blamed_least_with Read before after more left b = omega (arith, b.0.errors)
blamed_least_with Write before after more left b = b.errors
blamed_least_with Memory before after more left b = omega (arith, b.0.errors)

-- sending counts failures on
pub sends_counted : {X : Type 0} (r : Result X Stop) (bytes : List ℕ) (old new : Option (List ℕ)) (before after : ℕ) → Sends r bytes old new before after → before ≤ after
sends_counted (Ok x) bytes old new before after s = omega (arith, s.well)
sends_counted (Err stop) bytes old new before after s = s.counted
