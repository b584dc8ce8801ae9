-- What the removal, the renaming and the setting of a field put, by names.
use Rattle.std.proofs.Common.{not, ℕ, Option, Result, Ok, List, []}
use Rattle.mk_line.specs.Kinds.{is_name}
use Rattle.mk_line.specs.Lines.{TextLine}
use Rattle.mk_head.specs.Fields.{is_one_field}
use Rattle.mk_decide.specs.Edits.{Refusal, BadField, BadName}
use Rattle.mk_decide.specs.FieldEdits.{Found}
use Rattle.mk_decide.specs.FieldPuts.{LinePut, name_put, set_put}
use Rattle.mk_decide.proofs.PlanNames.{put_unless, with_field}

-- nothing in the place of a field
abbrev pub removes : Option Found → Result LinePut Refusal
removes o = with_field o (λ f. Ok (set_put [] f))

-- another name in the place of its own
abbrev pub renames : List ℕ → Option Found → Result LinePut Refusal
renames to o = with_field o (λ f. put_unless (not (is_name to)) BadName (name_put to f))

-- a given field in the place of a field
abbrev pub sets : List TextLine → Option Found → Result LinePut Refusal
sets given o = with_field o (λ f. put_unless (not (is_one_field given)) BadField (set_put given f))
