-- What calls of a session answer and leave, beside what is defined.
use Rattle.std.specs.Prelude.{◌≡◌, Option, None, Some, Result, Ok, Err}
use Rattle.std.specs.Option.{option_map}
use Rattle.mk_decide.specs.declared.errors.EditError.{EditError}
use Rattle.mk_edit.specs.declared.errors.GroupError.{GroupError}
use Rattle.mk_edit.specs.declared.errors.GroupError.TheVariants.{Member as MemberIn, Memory as MemoryIn}
use Rattle.mk_edit.specs.declared.replies.Reply.{Reply}
use Rattle.mk_edit.specs.declared.replies.Reply.TheVariants.{Obeyed, Refused, MemberRefused}
use Rattle.mk_decide.specs.Edits.{Refusal, Member}
use Rattle.mk_decide.specs.Answers.{refusal_of, IsRefusedBy}
use Rattle.mk_edit.specs.History.{History}
use Rattle.std.specs.Result.{result_err, result_unwrap_or}

-- a reply as plain data: nothing where an order was obeyed, or the reason against it; running out of memory is no reply
abbrev pub reply_of : Reply → Option (Option Refusal)
reply_of Obeyed = Some None
reply_of (Refused e) = option_map (λ r. Some r) (refusal_of e)
reply_of (MemberRefused index e) = option_map (λ r. Some (Member index r)) (refusal_of e)

-- what a call answered and left is what is defined; after a refusal, and after running out of memory, all is as before
abbrev pub Does : {X : Type 0} → Result X EditError → Result History Refusal → History → History → Type 0
Does (Ok x) defined old new = defined ≡ Ok new
Does (Err e) defined old new = (new ≡ old) × IsRefusedBy (refusal_of e) defined

-- a group is refused for the member and the reason that are named; running out of memory names none
abbrev pub IsGroupRefusedBy : {X : Type 0} → GroupError → Result X Refusal → Type 0
IsGroupRefusedBy (MemberIn index e) r = (reason : Refusal) × (refusal_of e ≡ Some reason) × (r ≡ Err (Member index reason))
IsGroupRefusedBy MemoryIn r = Unit {0}

-- the same as Does, for a group
abbrev pub DoesGroup : {X : Type 0} → Result X GroupError → Result History Refusal → History → History → Type 0
DoesGroup (Ok x) defined old new = defined ≡ Ok new
DoesGroup (Err e) defined old new = (new ≡ old) × IsGroupRefusedBy e defined

-- a reply tells what is defined, and that is what is left; where there is none, all is as before
abbrev pub Replies : {X : Type 0} → Result Reply X → Result History Refusal → History → History → Type 0
Replies (Ok r) defined old new = (reply_of r ≡ Some (result_err defined)) × (new ≡ result_unwrap_or defined old)
Replies (Err x) defined old new = new ≡ old
