-- What the calls of C do to build a message (own).
use Rattle.std.specs.Prelude.{◌≡◌, if◌then◌else◌, ℕ, Bool, Option, None, Some, Ok, Err, List}
use Rattle.mk_line.specs.declared.cutting.Ending.{Ending as LineEnding}
use Rattle.mk_build.specs.ForwardViews.{IsRefusedWith}
use Rattle.mk_build.specs.Forwards.{built_with, refusal_with}
use Rattle.mk_build.specs.Multiparts.{Multipart}
use Rattle.mk_c.specs.declared.status.Reason.TheVariants.{Build, Memory}
use Rattle.mk_c.specs.Calls.{Ending}
use Rattle.mk_c.specs.Desks.{Desk, Drafted, no_draft}

-- something that may be missing
abbrev pub if_given : Bool → List ℕ → Option (List ℕ)
if_given given bytes = if given then Some bytes else None

-- a draft gets more, or memory ran out
abbrev pub Extends : (Drafted → Drafted) → Ending → Drafted → Drafted → Type 0
Extends more (Ok x) old new = new ≡ more old
Extends more (Err reason) old new = (reason ≡ Memory) × (new ≡ old)

-- a call changes the draft, and nothing else
abbrev pub Drafts : (Ending → Drafted → Drafted → Type 0) → Ending → Desk → Desk → Type 0
Drafts Does ending old new = Does ending old.draft new.draft × (new ≡ record old { draft = new.draft })

-- the message of what was put down is answered, or refused for the reason that is defined; what was put down is forgotten
abbrev pub Builds : LineEnding → Multipart → Ending → Desk → Desk → Type 0
Builds eol m (Ok x) old new =
    (refusal_with old.draft.fields old.draft.parts old.draft.messages m ≡ None)
    × (new ≡ record old { draft = no_draft; answer = built_with eol old.draft.fields old.draft.parts old.draft.messages m })
Builds eol m (Err (Build error)) old new = IsRefusedWith old.draft.fields old.draft.parts old.draft.messages m error × (new ≡ record old { draft = no_draft })
Builds eol m (Err other) old new = ⊥
