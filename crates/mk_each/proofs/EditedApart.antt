-- Messages that were edited in turn stay apart.
use Rattle.std.proofs.Common.{◌≡◌, ◌&&◌, ◌||◌, ℕ, suc, Bool, true, false, not, Some, List, [], ◌∷◌, Result, refl, ap, ◌∙◌, inl, inr, map}
use Rattle.std.proofs.lemmas.Bool.{cases_Bool}
use Rattle.std.specs.List.{AllByRecursion, AllZip, flat_map}
use Rattle.std.specs.Prelude.{IfSome, drop}
use Rattle.mk_line.specs.Lines.{cut, is_nil}
use Rattle.mk_mailbox.specs.declared.from_lines.FromLines.{FromLines}
use Rattle.mk_mailbox.specs.Pieces.{is_left_alone, mailbox_pieces}
use Rattle.mk_mailbox.specs.Places.{begins_from, ends_empty, takes_place}
use Rattle.mk_mailbox.proofs.PieceLaws.{uncut_pieces}
use Rattle.mk_mail.specs.Replaced.{texts_left}
use Rattle.mk_mail.proofs.ReplacedApart.{replaced_apart}
use Rattle.mk_script.specs.ScriptSteps.{ScriptStep}
use Rattle.mk_expand.specs.Pieces.{Pieces}
use Rattle.mk_transfer.specs.Said.{Said}
use Rattle.mk_messages.specs.TakenOut.{without_separator}
use Rattle.mk_each.specs.Labels.{said_of_run}
use Rattle.mk_each.specs.EachEdited.{edited_from, edited_run, said_edited, said_in_place, separated, message_separator}

same_ends : (b e : Bool) → ((not b || b) && (not e || e)) ≡ true
same_ends true true = refl
same_ends true false = refl
same_ends false true = refl
same_ends false false = refl

-- a message takes its own place
fits_itself : (way : FromLines) (m : List ℕ) → mailbox_pieces way m ≡ m ∷ [] → takes_place way m m ≡ true
fits_itself way m h = ap (λ (ps : List (List ℕ)). is_nil (drop 1 ps) && ((not (begins_from way (cut m)) || begins_from way (cut m)) && (not (ends_empty false (cut m)) || ends_empty false (cut m)))) h ∙ same_ends (begins_from way (cut m)) (ends_empty false (cut m))

-- so does what is said of it where that is put in its place
fits_in_place : (way : FromLines) (number : ℕ) (m : List ℕ) (said : Said) → mailbox_pieces way m ≡ m ∷ [] → takes_place way m (said_in_place way number m said).output ≡ true
fits_in_place way number m said h = elim (cases_Bool (takes_place way m (separated said.output (message_separator m)))) [
  | inl t ↦ rw t t
  | inr n ↦ rw n (fits_itself way m h)
]

fits_edited : (pieces : Pieces) (steps : Result (List ScriptStep) ℕ) (way : FromLines) (number : ℕ) (m : List ℕ) → mailbox_pieces way m ≡ m ∷ [] → takes_place way m (said_edited pieces steps way number m).output ≡ true
fits_edited pieces steps way number m h = elim (cases_Bool (is_left_alone way m)) [
  | inl t ↦ rw t (fits_itself way m h)
  | inr n ↦ rw n (fits_in_place way number m (said_of_run number (edited_run pieces steps (without_separator m))) h)
]

all_fit : (pieces : Pieces) (steps : Result (List ScriptStep) ℕ) (way : FromLines) (number : ℕ) (ms : List (List ℕ)) → AllByRecursion (λ p. mailbox_pieces way p ≡ p ∷ []) ms
    → AllZip (λ message o. IfSome o (λ text. takes_place way message text ≡ true)) ms (map Some (edited_from pieces steps way number ms))
all_fit pieces steps way number [] h = tt
all_fit pieces steps way number (m ∷ ms) h = (fits_edited pieces steps way number m h.0, all_fit pieces steps way (suc number) ms h.1)

pub edited_apart : (pieces : Pieces) (steps : Result (List ScriptStep) ℕ) (way : FromLines) (mailbox : List ℕ)
    → mailbox_pieces way (flat_map (λ text. text) (texts_left (map Some (edited_from pieces steps way 1 (mailbox_pieces way mailbox))))) ≡ texts_left (map Some (edited_from pieces steps way 1 (mailbox_pieces way mailbox)))
edited_apart pieces steps way mailbox = replaced_apart way mailbox (map Some (edited_from pieces steps way 1 (mailbox_pieces way mailbox))) (all_fit pieces steps way 1 (mailbox_pieces way mailbox) (uncut_pieces way mailbox))
