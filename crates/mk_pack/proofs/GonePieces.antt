-- A text that goes out piece by piece, and what such a run leaves.
use Rattle.std.proofs.Common.{◌≡◌, ◌≢◌, ◌++◌, ◌≤◌, ◌∙◌, Result, Ok, Err, IfOk, IfErr, OnOk, OnErr, inr, ℕ, List, [], Option, refl, ap, sym, append_assoc, append-nil, arith, subst}
use Rattle.std.proofs.KnownBytes.{Appends-nil, Appends-trans}
use Rattle.std.specs.Io.KnownBytes.{Appends, IsAtEnd}
use Rattle.mk_mailbox.specs.Devices.{AppendsFront, Rose}
use Rattle.mk_transfer.specs.declared.transfer.Stop.{Stop}
use Rattle.mk_transfer.specs.declared.transfer.Stop.TheVariants.{Fault as Stopped, Memory as Wanting}
use Rattle.mk_transfer.specs.declared.status.Cause.{Cause}
use Rattle.mk_transfer.specs.declared.status.Cause.TheVariants.{Read, Write, Memory as NoMemory}
use Rattle.mk_transfer.specs.declared.status.Status.{Status}
use Rattle.mk_transfer.specs.declared.status.Status.TheVariants.{Well, Refused, Usage, Fault, Memory}
use Rattle.mk_transfer.specs.RunClauses.{Counts, IsBlamed, IsSent, IsStopped, WriteFailed, held}
use Rattle.mk_transfer.specs.Said.{Run, shown}
use Rattle.mk_transfer.proofs.Fronts.{AppendsFront-following, AppendsFront-none}
use Rattle.mk_show.specs.Shown.{ShowsSoFar, Writes}

-- what was sent of a text, before the rest
abbrev pub IsPartSent : List ℕ → List ℕ → Option (List ℕ) → Option (List ℕ) → Type 0
IsPartSent whole rest old new = (sent : List ℕ) × (whole ≡ sent ++ rest) × Appends old new sent

pub more_sent : (whole rest left bytes : List ℕ) (old mid new : Option (List ℕ)) → IsPartSent whole rest old mid → bytes ++ left ≡ rest → Appends mid new bytes → IsPartSent whole left old new
more_sent whole rest left bytes old mid new h e a = (
  h.0 ++ bytes,
  h.1 ∙ (ap (λ xs. h.0 ++ xs) (sym e) ∙ sym (append_assoc h.0 bytes left)),
  Appends-trans old mid new h.0 bytes h.2 a,
)

pub whole_sent : (whole rest : List ℕ) (old new : Option (List ℕ)) (before after : ℕ) → IsPartSent whole rest old new → rest ≡ [] → after ≡ before → IsSent whole old new before after
whole_sent whole rest old new before after h n w =
    let all : h.0 ≡ whole = sym (h.1 ∙ (ap (λ xs. h.0 ++ xs) n ∙ append-nil h.0)) in
    record { whole = subst (λ xs. Appends old new xs) all h.2; well = w }

-- the pieces end where memory is missing
pub stopped_wanting : (whole rest : List ℕ) (old new : Option (List ℕ)) (before after : ℕ) → IsPartSent whole rest old new → after ≡ before → IsStopped Wanting whole old new before after
stopped_wanting whole rest old new before after h w = record { front = (h.0, rest, h.1, h.2); fault = (λ e. absurd (not_fault e)); steady = λ e. w; counted = omega (arith, w) }
  where
    not_fault : Wanting ≡ Stopped → ⊥
    not_fault e = cc

-- or where the device stops
pub stopped_sending : (whole rest left bytes : List ℕ) (old mid new : Option (List ℕ)) (before between after : ℕ) (stop : Stop) → IsPartSent whole rest old mid → bytes ++ left ≡ rest → between ≡ before
    → IsStopped stop bytes mid new between after → IsStopped stop whole old new before after
stopped_sending whole rest left bytes old mid new before between after stop h e w s = record {
  front = AppendsFront-following old mid new h.0 bytes left whole h.2 s.front (h.1 ∙ ap (λ xs. h.0 ++ xs) (sym e));
  fault = λ f. (let r = s.fault f in rose_from before between after w r);
  steady = λ f. s.steady f ∙ w;
  counted = (let r = s.counted in omega (arith, w, r));
}
  where
    rose_from : (before between after : ℕ) → between ≡ before → Rose between after → Rose before after
    rose_from before between after w r = subst (λ n. Rose n after) w r

-- pieces that went out are what is written of their text
pub pieces_written : (result : Result Status Cause) (bytes : List ℕ) (out out_after err : Option (List ℕ)) → IfOk result (λ status. status ≡ Well) → OnOk result (Appends out out_after bytes)
    → OnErr result (AppendsFront out out_after bytes) → Writes result (shown bytes []) out out_after err err
pieces_written (Ok Well) bytes out out_after err w a f = (refl, a, Appends-nil err)
pieces_written (Ok Refused) bytes out out_after err w a f = absurd cc
pieces_written (Ok Usage) bytes out out_after err w a f = absurd cc
pieces_written (Ok Fault) bytes out out_after err w a f = absurd cc
pieces_written (Ok Memory) bytes out out_after err w a f = absurd cc
pieces_written (Err cause) bytes out out_after err w a f = (f, AppendsFront-none err [])

-- what was written of a run, or fronts of it
pub ShowsSoFar-gone : (R : Run → Type 0) (run : Run) (result : Result Status Cause) (input input_after out out_after err err_after : Option (List ℕ))
    → R run → IsAtEnd input_after → Writes result run out out_after err err_after → IfErr result (λ cause. cause ≢ Read)
    → ShowsSoFar R result (held input out err) (held input_after out_after err_after)
ShowsSoFar-gone R run (Ok Well) input input_after out out_after err err_after r e w n = (run, r, record { status_is = w.0; written = record { output = w.1; errors = w.2 }; read = e })
ShowsSoFar-gone R run (Ok Refused) input input_after out out_after err err_after r e w n = (run, r, record { status_is = w.0; written = record { output = w.1; errors = w.2 }; read = e })
ShowsSoFar-gone R run (Ok Usage) input input_after out out_after err err_after r e w n = w
ShowsSoFar-gone R run (Ok Fault) input input_after out out_after err err_after r e w n = w
ShowsSoFar-gone R run (Ok Memory) input input_after out out_after err err_after r e w n = w
ShowsSoFar-gone R run (Err cause) input input_after out out_after err err_after r e w n = inr (run, r, record { output = w.0; errors = w.1; silent = λ read. absurd (n read) })

-- the devices bear out why giving stopped
pub giving_blamed : (result : Result Status Cause) (before after : Counts) → IfErr result (λ cause. cause ≢ Read) → IfErr result (λ cause. cause ≡ Write → WriteFailed before after)
    → IfErr result (λ cause. cause ≡ NoMemory → (after.output ≡ before.output) × (after.errors ≡ before.errors)) → after.input ≡ before.input → before.errors ≤ after.errors
    → IfErr result (λ cause. IsBlamed cause before after)
giving_blamed (Ok status) before after n failed memory input errors = tt
giving_blamed (Err Read) before after n failed memory input errors = absurd (n refl)
giving_blamed (Err Write) before after n failed memory input errors = record { failed = failed refl; input = input; errors = errors }
giving_blamed (Err NoMemory) before after n failed memory input errors = (let same = memory refl in record { input = input; output = same.0; errors = same.1 })

-- what only failed to be written was neither read in vain nor wanting memory
pub written_not_read : (result : Result Status Cause) → IfErr result (λ cause. cause ≡ Write) → IfErr result (λ cause. cause ≢ Read)
written_not_read (Ok status) h = tt
written_not_read (Err cause) h = λ read. cc

pub written_not_wanting : (result : Result Status Cause) (P : Type 0) → IfErr result (λ cause. cause ≡ Write) → IfErr result (λ cause. cause ≡ NoMemory → P)
written_not_wanting (Ok status) P h = tt
written_not_wanting (Err cause) P h = λ wanting. absurd (not_both cause h wanting)
  where
    not_both : (cause : Cause) → cause ≡ Write → cause ≡ NoMemory → ⊥
    not_both cause a b = cc
