-- Messages in turn while their output is gathered: how a turn ends, and the last of the output.
use Rattle.std.proofs.Common.{◌≡◌, ◌<◌, ◌≤◌, ◌⊎◌, ◌++◌, ◌∷◌, ℕ, Bool, true, Option, Result, Ok, Err, IfErr, OnOk, List, [], length, ap, ◌∙◌, subst, inl, inr, append-nil, arith}
use Rattle.std.proofs.KnownBytes.{Appends-trans}
use Rattle.std.specs.Io.KnownBytes.{Appends}
use Rattle.mk_mailbox.specs.Devices.{AppendsFront, IsLong, Rose}
use Rattle.mk_mailbox.specs.Pieces.{mailbox_pieces}
use Rattle.mk_transfer.specs.declared.status.Cause.{Cause}
use Rattle.mk_transfer.specs.declared.status.Cause.TheVariants.{Read, Write, Memory}
use Rattle.mk_transfer.specs.declared.transfer.Stop.{Stop}
use Rattle.mk_transfer.specs.RunClauses.{Counts, Held, IsBlamed, SameFailures, WriteFailed, cause_of_writing, held}
use Rattle.mk_transfer.proofs.Fronts.{AppendsFront-whole, Rose-on}
use Rattle.mk_transfer.proofs.Blames.{blamed_least}
use Rattle.mk_transfer.proofs.GivenUp.{not_reading}
use Rattle.mk_field.specs.Filtering.{PlainFilter, said_from}
use Rattle.mk_field.specs.FilterClauses.{LeavesSaid, known_by}
use Rattle.mk_field.specs.inner.Telling.{LeavesGathered, known_gathered}
use Rattle.mk_field.proofs.GatheredLemmas.{flushed_all, flushed_front, front_whole}
use Rattle.mk_field.proofs.FilterLemmas.{no_silence}

-- what a turn is blamed for the run is
pub blamed_on : (cause : Cause) (start before after : Counts) → SameFailures start before → (IsLong before.reads after.reads → IsLong start.reads after.reads) → IsBlamed cause before after → IsBlamed cause start after
blamed_on Read start before after s l h = record {
  failed = elim h.failed [ inl rose ↦ inl (subst (λ n. Rose n after.input) s.input rose) | inr long ↦ inr (l long) ];
  output = h.output ∙ s.output;
  errors = h.errors ∙ s.errors;
}
blamed_on Write start before after s l h = record {
  failed = elim h.failed [ inl rose ↦ inl (subst (λ n. Rose n after.output) s.output rose) | inr rose ↦ inr (subst (λ n. Rose n after.errors) s.errors rose) ];
  input = h.input ∙ s.input;
  errors = omega (arith, h.errors, s.errors);
}
blamed_on Memory start before after s l h = record { input = h.input ∙ s.input; output = h.output ∙ s.output; errors = h.errors ∙ s.errors }

-- ---- the last of the output goes out

known_flushed : (f : PlainFilter) (spent : Type 0) (text left : List ℕ) (out out_mid out_after err err_after : Option (List ℕ)) (cause : Cause) → known_gathered f spent text left out out_mid err err_after cause → Appends out_mid out_after left → known_by f true spent text out out_after err err_after cause
known_flushed f spent text left out out_mid out_after err err_after cause k a = λ r _. elim (k r) [
  | inr long ↦ inr long
  | inl both ↦ inl (record {
    given = both.1.given;
    rest = both.1.rest;
    parts = both.1.parts;
    unknown = both.1.unknown;
    output = subst (Appends out out_after) (ap (λ x. (said_from true f 1 both.1.given).output ++ x) both.0 ∙ append-nil (said_from true f 1 both.1.given).output)
        (Appends-trans out out_mid out_after (said_from true f 1 both.1.given).output left both.1.output a);
    errors = both.1.errors;
  })
]

pub flushed_leaves : (spent : Type 0) (f : PlainFilter) (r : Result Bool Cause) (left : List ℕ) (before : Held) (input out out_after err : Option (List ℕ)) → LeavesGathered spent f r left before (held input out err) → Appends out out_after left
    → LeavesSaid spent f true r before (held input out_after err)
flushed_leaves spent f (Ok refused) left before input out out_after err l a = (
  l.0,
  l.1,
  record {
    says = record {
      output = flushed_all (said_from true f 1 (mailbox_pieces f.from_lines l.0)).output left before.output out out_after l.2.says.output a;
      errors = l.2.says.errors;
      refused_is = l.2.says.refused_is;
    };
    ended = l.2.ended;
  },
)
flushed_leaves spent f (Err cause) left before input out out_after err l a = (
  l.0,
  l.1,
  record {
    says = record {
      output = flushed_front (said_from true f 1 (mailbox_pieces f.from_lines l.0)).output left before.output out out_after l.2.says.output (AppendsFront-whole out out_after left a);
      errors = l.2.says.errors;
    };
    silent = no_silence;
    known = known_flushed f spent l.0 left before.output out out_after before.errors err cause l.2.known a;
  },
)

-- where that fails, it is why the run is given up
pub stopped_leaves : (spent : Type 0) (f : PlainFilter) (r : Result Bool Cause) (stop : Stop) (cause : Cause) (left : List ℕ) (before : Held) (input out out_after err : Option (List ℕ)) → cause ≡ cause_of_writing stop
    → LeavesGathered spent f r left before (held input out err) → AppendsFront out out_after left → LeavesSaid spent f true (Err cause) before (held input out_after err)
stopped_leaves spent f (Ok refused) stop cause left before input out out_after err e l a =
    let text = (said_from true f 1 (mailbox_pieces f.from_lines l.0)).output in (
      l.0,
      l.1,
      record {
        says = record {
          output = flushed_front text left before.output out out_after (front_whole text [] left before.output out l.2.says.output) a;
          errors = AppendsFront-whole before.errors err (said_from true f 1 (mailbox_pieces f.from_lines l.0)).errors l.2.says.errors;
        };
        silent = no_silence;
        known = λ r _. not_reading stop cause e r;
      },
    )
stopped_leaves spent f (Err first) stop cause left before input out out_after err e l a = (
  l.0,
  l.1,
  record {
    says = record {
      output = flushed_front (said_from true f 1 (mailbox_pieces f.from_lines l.0)).output left before.output out out_after l.2.says.output a;
      errors = l.2.says.errors;
    };
    silent = no_silence;
    known = λ r _. not_reading stop cause e r;
  },
)

pub stopped_failed : (r : Result Bool Cause) (before mid after : Counts) → IfErr r (λ cause. IsBlamed cause before mid) → OnOk r (SameFailures before mid) → Rose mid.output after.output → mid.output ≤ after.output → after.errors ≡ mid.errors → WriteFailed before after
stopped_failed (Ok refused) before mid after b s rose more same = inl (subst (λ n. Rose n after.output) s.output rose)
stopped_failed (Err Read) before mid after b s rose more same = inl (subst (λ n. Rose n after.output) b.output rose)
stopped_failed (Err Write) before mid after b s rose more same = elim b.failed [
  | inl first ↦ inl (Rose-on before.output mid.output after.output first more)
  | inr first ↦ inr (Rose-on before.errors mid.errors after.errors first (omega (arith, same)))
]
stopped_failed (Err Memory) before mid after b s rose more same = inl (subst (λ n. Rose n after.output) b.output rose)

-- something is gathered
pub some_gathered : {A : Type 0} (gathered : List ℕ) → (gathered ≡ []) ⊎ A → 0 < length gathered → A
some_gathered [] either more = absurd (omega (arith, more))
some_gathered (x ∷ xs) either more = elim either [ inl none ↦ cc | inr a ↦ a ]

-- the errors of a turn, after it
pub turn_counted : (r : Result Bool Cause) (before mid : Counts) → IfErr r (λ cause. IsBlamed cause before mid) → OnOk r (SameFailures before mid) → before.errors ≤ mid.errors
turn_counted (Ok refused) before mid b s = omega (arith, s.errors)
turn_counted (Err cause) before mid b s = blamed_least cause before mid b
