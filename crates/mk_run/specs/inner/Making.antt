-- What making edits and words on a session answers and leaves.
use Rattle.std.specs.Prelude.{◌≡◌, ℕ, Option, None, Some, IfSome, Result, Ok, Err, List, [], map, slice_index_or}
use Rattle.std.specs.Option.{option_map}
use Rattle.mk_tree.specs.Documents.{Document, tree, printed}
use Rattle.mk_splice.specs.Splices.{Splice}
use Rattle.mk_decide.specs.declared.errors.EditError.{EditError}
use Rattle.mk_decide.specs.Answers.{refusal_of}
use Rattle.mk_decide.specs.Edits.{PlainEdit, path_of}
use Rattle.mk_edit.specs.Groups.{together}
use Rattle.mk_edit.specs.History.{History}
use Rattle.mk_edit.specs.Histories.{text_now, with_step}
use Rattle.mk_mail.specs.Rounds.{PlainRound, made_text, round_edits, round_outcome}
use Rattle.mk_expand.specs.declared.errors.WordError.{WordError}
use Rattle.mk_expand.specs.declared.errors.WordError.TheVariants as error
use Rattle.mk_expand.specs.Meanings.{Meaning, WordFault, UnknownEncoding, BadBase64, BadType, BadName, BadCharset, BinaryContent}
use Rattle.mk_run.specs.declared.making.StepError.{StepError}
use Rattle.mk_run.specs.declared.making.StepError.TheVariants as step
use Rattle.mk_run.specs.WordSteps.{StepRefusal, EditRefused, WordRefused, made_by}

-- edits were made as one step, which left this document and these splices
pub record MadeSo (es : List PlainEdit) (old new : History) : Type 0 where
  pub document : Document
  pub splices : List Splice
  pub made : together es (tree (text_now old)) ≡ Ok (document, splices)
  pub left : new ≡ with_step old (printed document) splices

-- edits were made, or one of a number was refused; a refusal, and running out of memory, change nothing
abbrev pub MakesEdits : {X : Type 0} → Result X (ℕ × EditError) → List PlainEdit → History → History → Type 0
MakesEdits (Ok x) es old new = MadeSo es old new
MakesEdits (Err p) es old new = (new ≡ old) × IfSome (refusal_of p.1) (λ reason. together es (tree (text_now old)) ≡ Err (p.0, reason))

-- the fault that an error names; running out of memory is none
abbrev pub fault_in : WordError → Option WordFault
fault_in error.UnknownEncoding = Some UnknownEncoding
fault_in error.BadBase64 = Some BadBase64
fault_in error.BadType = Some BadType
fault_in error.BadName = Some BadName
fault_in error.BadCharset = Some BadCharset
fault_in error.BinaryContent = Some BinaryContent
fault_in error.Memory = None

-- the reason that an error names; running out of memory is none
abbrev pub refusal_in : StepError → Option StepRefusal
refusal_in (step.Edit number path reason) = option_map (λ r. EditRefused number path.items r) (refusal_of reason)
refusal_in (step.Word number fault) = option_map (λ f. WordRefused number f) (fault_in fault)

-- a step was done as defined, or refused for a reason, and then nothing changed
abbrev pub DoesStep : {X : Type 0} → Result X StepError → Result History StepRefusal → History → History → Type 0
DoesStep (Ok x) defined old new = defined ≡ Ok new
DoesStep (Err e) defined old new = (new ≡ old) × IfSome (refusal_in e) (λ r. defined ≡ Err r)

-- the path of an edit of a number, from 0 on
abbrev pub path_in : List PlainEdit → ℕ → List ℕ
path_in es index = slice_index_or (map path_of es) index []

-- a word was made: the edits that it stands for, as one step
pub record MadeWord (meaning : Meaning) (es : List PlainEdit) (old new : History) : Type 0 where
  pub means : meaning ≡ Ok es
  pub done : MadeSo es old new

-- a word of a line was made, or refused for a reason, and then nothing changed
abbrev pub MakesWord : {X : Type 0} → Result X StepError → ℕ → Meaning → History → History → Type 0
MakesWord (Ok x) number meaning old new = (es : List PlainEdit) × MadeWord meaning es old new
MakesWord (Err e) number meaning old new = (new ≡ old) × IfSome (refusal_in e) (λ r. made_by number (tree (text_now old)) meaning ≡ Err r)

-- a round was made: its edits for the text that stood, as one step
pub record MadeRound (path : List ℕ) (r : PlainRound) (es : List PlainEdit) (old new : History) : Type 0 where
  pub edits : es ≡ round_edits path (text_now old) r
  pub done : MadeSo es old new

-- a round was made, or refused for a reason, and then nothing changed
abbrev pub MakesRound : {X : Type 0} → Result X EditError → List ℕ → PlainRound → History → History → Type 0
MakesRound (Ok x) path r old new = (es : List PlainEdit) × MadeRound path r es old new
MakesRound (Err e) path r old new = (new ≡ old) × IfSome (refusal_of e) (λ reason. made_text (round_outcome path (text_now old) r) ≡ Err reason)
