-- Messages that were put in turn.
use Rattle.std.proofs.Common.{◌≡◌, ◌⊎◌, ◌+◌, ℕ, suc, true, false, List, [], ◌∷◌, ◌++◌, Option, Result, Ok, Err, refl, sym, ap, ◌∙◌, subst, inl, inr, length}
use Rattle.std.proofs.lemmas.List.{append-nil}
use Rattle.mk_mailbox.specs.Devices.{AppendsFront}
use Rattle.mk_transfer.specs.declared.status.Cause.{Cause}
use Rattle.mk_transfer.specs.declared.status.Status.{Status}
use Rattle.mk_transfer.specs.declared.status.Status.TheVariants.{Well, Refused, Usage, Fault, Memory}
use Rattle.mk_transfer.specs.declared.transfer.Stop.{Stop}
use Rattle.mk_transfer.specs.RunClauses.{Held}
use Rattle.mk_transfer.specs.Said.{Said, silence}
use Rattle.mk_messages.specs.Working.{EndsWork, LeavesWork, StopsWork, Effect, WorksOn, WorksOnSome, work_state}
use Rattle.mk_show.specs.Folders.{Files, GetsFront, MayPut, Gets, IsThere, Puts}
use Rattle.mk_show.specs.GivenPieces.{Given, IsLeft, whole_content}
use Rattle.mk_show.specs.Unpacking.{exists_line}
use Rattle.mk_show.specs.UnpackClauses.{written}
use Rattle.mk_split.specs.declared.splitting.SplitOptions.{SplitOptions}
use Rattle.mk_split.specs.Splitting.{IsLeftOut, PutsMessage, Splits, file_text, put_line}
use Rattle.mk_split.specs.SplitClauses.{EndsSplit, PutsNext, PutsPart, SplitSome, SplitsSoFar}
use Rattle.mk_split.specs.Templates.{template_name}

-- what the work on a message does to a folder whose files these are
abbrev pub puts_in : (D : Type 0) → (D → Option Files) → SplitOptions → Effect D
puts_in D files o number m said old new = PutsMessage o number m said (files old) (files new)

abbrev pub puts_part_in : (D : Type 0) → (D → Option Files) → SplitOptions → Effect D
puts_part_in D files o number m said old new = (said ≡ silence) × PutsPart o number m (files old) (files new)

works_split : (D : Type 0) (files : D → Option Files) (o : SplitOptions) (number : ℕ) (ms : List (List ℕ)) (said : Said) (old new : D) → WorksOn D (puts_in D files o) number ms said old new → Splits o number ms said (files old) (files new)
works_split D files o number [] said old new w = (w.0, ap files w.1)
works_split D files o number (m ∷ ms) said old new w = (w.0, w.1, files w.2, w.3, works_split D files o (suc number) ms w.1 w.2 new w.4, w.5)

stops_silent : (D : Type 0) (files : D → Option Files) (o : SplitOptions) (number : ℕ) (ms : List (List ℕ)) (said : Said) (old new : D) → StopsWork D (puts_part_in D files o) number ms said old new → said ≡ silence
stops_silent D files o number [] said old new s = s.0
stops_silent D files o number (m ∷ ms) said old new (inl s) = s.0
stops_silent D files o number (m ∷ ms) said old new (inr s) = s.0

stops_puts : (D : Type 0) (files : D → Option Files) (o : SplitOptions) (number : ℕ) (ms : List (List ℕ)) (said : Said) (old new : D) → StopsWork D (puts_part_in D files o) number ms said old new → PutsNext o number ms (files old) (files new)
stops_puts D files o number [] said old new s = ap files s.1
stops_puts D files o number (m ∷ ms) said old new (inl s) = inl (ap files s.1)
stops_puts D files o number (m ∷ ms) said old new (inr s) = s.1

said_before : (first more : List ℕ) → more ≡ [] → first ++ more ≡ first
said_before first more e = ap (λ l. first ++ l) e ∙ append-nil first

-- a run that ended
ends_split : (D : Type 0) (files : D → Option Files) (o : SplitOptions) (status : Status) (ms : List (List ℕ)) (before after : Held) (old new : D) → EndsWork D (puts_in D files o) status ms before after old new
    → EndsSplit o status ms before after (files old) (files new)
ends_split D files o Well ms before after old new w = record { said = w.said; splits = works_split D files o 1 ms w.said old new w.works; run = w.run }
ends_split D files o Refused ms before after old new w = record { said = w.said; splits = works_split D files o 1 ms w.said old new w.works; run = w.run }
ends_split D files o Usage ms before after old new w = absurd w
ends_split D files o Fault ms before after old new w = absurd w
ends_split D files o Memory ms before after old new w = absurd w

-- a run that was given up
splits_some : (D : Type 0) (files : D → Option Files) (o : SplitOptions) (ms : List (List ℕ)) (before after : Held) (old new : D)
    → WorksOnSome D (puts_in D files o) (puts_part_in D files o) 1 ms (work_state D before.output before.errors old) (work_state D after.output after.errors new)
    → SplitSome o 1 ms (written before.output before.errors (files old)) (written after.output after.errors (files new))
splits_some D files o ms before after old new w =
    let silent = stops_silent D files o (1 + length w.done) w.rest w.more w.between new w.stops in
    record {
      done = w.done;
      rest = w.rest;
      parts = w.parts;
      said = w.said;
      between = files w.between;
      splits = works_split D files o 1 w.done w.said old w.between w.works;
      next = stops_puts D files o (1 + length w.done) w.rest w.more w.between new w.stops;
      output = subst (AppendsFront before.output after.output) (said_before w.said.output w.more.output (ap (λ s. s.output) silent)) w.output;
      errors = subst (AppendsFront before.errors after.errors) (said_before w.said.errors w.more.errors (ap (λ s. s.errors) silent)) w.errors;
    }

-- a run
pub leaves_split : (D : Type 0) (files : D → Option Files) (o : SplitOptions) (result : Result Status Cause) (ms : List (List ℕ)) (before after : Held) (old new : D)
    → LeavesWork D (puts_in D files o) (puts_part_in D files o) result ms before after old new → SplitsSoFar o result ms before after (files old) (files new)
leaves_split D files o (Ok status) ms before after old new w = ends_split D files o status ms before after old new w
leaves_split D files o (Err cause) ms before after old new w = splits_some D files o ms before after old new w

-- a message was put, and that is said; or it was left out
pub says_so : (o : SplitOptions) (number : ℕ) (m : List ℕ) (said : Said) (output errors : List ℕ) (old new : Option Files) → said.output ≡ output → said.errors ≡ errors
    → PutsMessage o number m (record { output = output; errors = errors }) old new → PutsMessage o number m said old new
says_so o number m said output errors old new e f p = subst (λ s. PutsMessage o number m s old new) (λ i. record { output = sym e i; errors = sym f i }) p

-- what a folder did with the file of a message

gives : (given : Given) (bytes text : List ℕ) → given ≡ whole_content bytes → bytes ≡ text → IsLeft given text
gives given bytes text e f = subst (λ g. IsLeft g text) (sym e) (sym f)

pub put_well : (o : SplitOptions) (number : ℕ) (m name : List ℕ) (given : Given) (bytes : List ℕ) (old new : Option Files) → name ≡ template_name o.names.now number → given ≡ whole_content bytes → bytes ≡ file_text o m
    → ((text : List ℕ) → IsLeft given text → Puts (Ok true) o.over old new name text) → PutsMessage o number m (record { output = put_line o.silent (template_name o.names.now number); errors = [] }) old new
put_well o number m name given bytes old new n g b p =
    let put = p (file_text o m) (gives given bytes (file_text o m) g b) in
    inl (record { may = subst (MayPut o.over old) n put.0; gets = subst (λ x. Gets old new x (file_text o m)) n put.1; said_is = refl })

pub put_not : (o : SplitOptions) (number : ℕ) (m name : List ℕ) (given : Given) (bytes : List ℕ) (old new : Option Files) → name ≡ template_name o.names.now number → given ≡ whole_content bytes → bytes ≡ file_text o m
    → ((text : List ℕ) → IsLeft given text → Puts (Ok false) o.over old new name text) → IsLeftOut o (template_name o.names.now number) (record { output = []; errors = exists_line (template_name o.names.now number) }) old new
put_not o number m name given bytes old new n g b p =
    let put = p (file_text o m) (gives given bytes (file_text o m) g b) in
    (record { kept = put.0; there = subst (IsThere old) n put.1; same = put.2; said_is = refl })

pub put_part : (o : SplitOptions) (number : ℕ) (m name : List ℕ) (given : Given) (bytes : List ℕ) (stop : Stop) (old new : Option Files) → name ≡ template_name o.names.now number → given ≡ whole_content bytes → bytes ≡ file_text o m
    → ((text : List ℕ) → IsLeft given text → Puts (Err stop) o.over old new name text) → PutsPart o number m old new
put_part o number m name given bytes stop old new n g b p =
    subst (λ x. (new ≡ old) ⊎ GetsFront old new x (file_text o m)) n (p (file_text o m) (gives given bytes (file_text o m) g b))
