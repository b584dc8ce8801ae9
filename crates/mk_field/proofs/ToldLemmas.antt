-- What is told of one message, and how it goes out.
use Rattle.std.proofs.Common.{◌≡◌, ◌⊎◌, ◌∷◌, ℕ, Bool, true, false, not, Option, is_some, None, Some, Result, Ok, Err, IfOk, IfErr, OnOk, OnErr, List, [], refl, ap, sym, subst, ◌∙◌, inr}
use Rattle.std.specs.Io.KnownBytes.{Appends}
use Rattle.mk_line.specs.Lines.{is_nil}
use Rattle.mk_decide.specs.declared.errors.EditError.{EditError}
use Rattle.std.specs.Option.{option_map_or}
use Rattle.mk_mailbox.specs.declared.places.Place.{Place}
use Rattle.mk_mail.specs.Apart.{section_made}
use Rattle.std.proofs.lemmas.Bool.{eqb-true}
use Rattle.mk_mail.specs.Letters.{is_root, root_path}
use Rattle.mk_mail.specs.Rounds.{Made, PlainRound, rounds_made}
use Rattle.mk_mailbox.specs.Devices.{Rose}
use Rattle.mk_transfer.specs.declared.transfer.Stop.{Stop}
use Rattle.mk_transfer.specs.declared.transfer.Stop.TheVariants.{Fault as Stopped, Memory as Wanting}
use Rattle.mk_transfer.specs.RunClauses.{Sends}
use Rattle.mk_transfer.specs.Said.{Said}
use Rattle.mk_transfer.proofs.Fronts.{AppendsFront-none, AppendsFront-whole}
use Rattle.mk_field.specs.FilterClauses.{IsEdited, IsReason, SaysAll, SaysSome, fitted}
use Rattle.mk_field.specs.Filtering.{PlainFilter, filter_made, given_of, given_said, missing_report, report_of, said_filtered, said_of_made}
use Rattle.mk_field.specs.declared.telling.Told.{Told}
use Rattle.mk_field.specs.inner.Telling.{Gathers, GathersAll, GathersFront, GathersSome, told_line, told_report, told_said}
use Rattle.mk_field.proofs.GatheredLemmas.{front_whole}

-- ---- what is told

-- the reason that is reported is that of the edit that was refused
reported_as : (path : List ℕ) (number : ℕ) (refusal : Option EditError) (m : Made) → IsReason refusal m → told_report path number refusal ≡ report_of path number m
reported_as path number None (Ok made) h = refl
reported_as path number None (Err reason) h = absurd h
reported_as path number (Some error) (Ok made) h = absurd h
reported_as path number (Some error) (Err reason) h = ap (told_line path number) h

pub told_edited : (path : List ℕ) (number : ℕ) (text left : List ℕ) (refusal : Option EditError) (m : Made) → IsEdited m text refusal left → record { output = left; errors = told_report path number refusal } ≡ said_of_made path number text m
told_edited path number text left refusal m e = λ i. record { output = e.left_is i; errors = reported_as path number refusal m e.reason i }

-- all edits were made, or one was refused
pub edited_all : (m : Made) (text left : List ℕ) → m ≡ Ok left → IsEdited m text None left
edited_all m text left e = subst (λ x. IsEdited x text None left) (sym e) (record { left_is = refl; reason = tt })

pub edited_none : (m : Made) (text : List ℕ) (error : EditError) → IsReason (Some error) m → IsEdited m text (Some error) text
edited_none (Ok made) text error h = absurd h
edited_none (Err reason) text error h = record { left_is = refl; reason = h }

-- a message of which nothing is given
pub said_made : (each : Bool) (f : PlainFilter) (number : ℕ) (text : List ℕ) (m : Made) → given_of f.path f.form f.rounds text ≡ None → m ≡ filter_made each f text → said_of_made f.path number text m ≡ said_filtered each f number text
said_made each f number text m n e =
    ap (said_of_made f.path number text) e ∙ ap (λ o. option_map_or (given_said f.path number text) o (said_of_made f.path number text (filter_made each f text))) (sym n)

-- one of which something is
pub said_given : (each : Bool) (f : PlainFilter) (number : ℕ) (text given : List ℕ) → Some given ≡ given_of f.path f.form f.rounds text → missing_report f.path number text ≡ [] → record { output = given; errors = [] } ≡ said_filtered each f number text
said_given each f number text given g m =
    (λ i. record { output = given; errors = sym m i }) ∙ ap (λ o. option_map_or (given_said f.path number text) o (said_of_made f.path number text (filter_made each f text))) g

-- the path of the root
root_alone : (path : List ℕ) → is_root path ≡ true → path ≡ root_path
root_alone [] h = cc
root_alone (k ∷ []) h = ap (λ n. n ∷ []) (eqb-true k 1 h)
root_alone (k ∷ n ∷ ks) h = cc

-- at the root, where no place is kept
pub made_there : (place : Option Place) (rs : List PlainRound) (text : List ℕ) → place ≡ None → rounds_made rs text ≡ fitted place (section_made root_path rs text)
made_there place rs text e = unplaced (rounds_made rs text) ∙ ap (λ o. fitted o (section_made root_path rs text)) (sym e)
  where
    unplaced : (m : Made) → m ≡ fitted None m
    unplaced (Ok made) = refl
    unplaced (Err reason) = refl

-- what the header tells of a message is what a filter says of it
pub said_by_header : (each : Bool) (f : PlainFilter) (number : ℕ) (text : List ℕ) (place : Option Place) (t : Told) → is_root f.path ≡ true → given_of f.path f.form f.rounds text ≡ None → is_some place ≡ false
    → fitted place (section_made f.path f.rounds text) ≡ filter_made each f text → told_said root_path number t ≡ said_of_made root_path number text (rounds_made f.rounds text) → told_said f.path number t ≡ said_filtered each f number text
said_by_header each f number text place t r n p e told =
    let root : f.path ≡ root_path = root_alone f.path r in
    let made : rounds_made f.rounds text ≡ filter_made each f text =
    subst (λ path. rounds_made f.rounds text ≡ fitted place (section_made path f.rounds text)) (sym root) (made_there place f.rounds text (none_there place p)) ∙ e in
    subst (λ path. told_said path number t ≡ said_of_made path number text (rounds_made f.rounds text)) (sym root) told ∙ said_made each f number text (rounds_made f.rounds text) n made
  where
    none_there : (o : Option Place) → is_some o ≡ false → o ≡ None
    none_there None h = refl
    none_there (Some x) h = cc

-- ---- how it goes out

pub says_front : (said : Said) (old new : List ℕ) (out out_after err : Option (List ℕ)) → GathersFront said.output old new out out_after → GathersSome said old new out out_after err err
says_front said old new out out_after err g = record { output = g; errors = AppendsFront-none err said.errors }

-- the report was sent, or a front of it, after the text
pub says_reported : (said : Said) (r : Result Bool Stop) (old new : List ℕ) (out out_after err err_after : Option (List ℕ)) (before after : ℕ) → Gathers said.output old new out out_after
    → Sends r said.errors err err_after before after → IfOk r (λ told. told ≡ not (is_nil said.errors)) → IfOk r (λ refused. GathersAll said refused old new out out_after err err_after)
says_reported said (Ok refused) old new out out_after err err_after before after g s t = record { output = g; errors = s.whole; refused_is = t }
says_reported said (Err stop) old new out out_after err err_after before after g s t = tt

pub says_partly : (said : Said) (r : Result Bool Stop) (old new : List ℕ) (out out_after err err_after : Option (List ℕ)) (before after : ℕ) → Gathers said.output old new out out_after
    → Sends r said.errors err err_after before after → OnErr r (GathersSome said old new out out_after err err_after)
says_partly said (Ok refused) old new out out_after err err_after before after g s = tt
says_partly said (Err stop) old new out out_after err err_after before after g s = record { output = front_whole said.output old new out out_after g; errors = s.front }

-- the same with nothing gathered
pub says_alone : (said : Said) (r : Result Bool Stop) (out out_after err err_after : Option (List ℕ)) (before after : ℕ) → Appends out out_after said.output
    → Sends r said.errors err err_after before after → IfOk r (λ told. told ≡ not (is_nil said.errors)) → IfOk r (λ refused. SaysAll said refused out out_after err err_after)
says_alone said (Ok refused) out out_after err err_after before after o s t = record { output = o; errors = s.whole; refused_is = t }
says_alone said (Err stop) out out_after err err_after before after o s t = tt

pub says_alone_partly : (said : Said) (r : Result Bool Stop) (out out_after err err_after : Option (List ℕ)) (before after : ℕ) → Appends out out_after said.output
    → Sends r said.errors err err_after before after → OnErr r (SaysSome said out out_after err err_after)
says_alone_partly said (Ok refused) out out_after err err_after before after o s = tt
says_alone_partly said (Err stop) out out_after err err_after before after o s = record { output = AppendsFront-whole out out_after said.output o; errors = s.front }

-- failures while a report is sent
pub sent_fault : (r : Result Bool Stop) (bytes : List ℕ) (err err_after : Option (List ℕ)) (more : Type 0) (before after : ℕ) → Sends r bytes err err_after before after → IfErr r (λ stop. stop ≡ Stopped → more ⊎ Rose before after)
sent_fault (Ok refused) bytes err err_after more before after s = tt
sent_fault (Err stop) bytes err err_after more before after s = λ e. inr (s.fault e)

pub sent_memory : (r : Result Bool Stop) (bytes : List ℕ) (err err_after : Option (List ℕ)) (old new before after : ℕ) → new ≡ old → Sends r bytes err err_after before after → IfErr r (λ stop. stop ≡ Wanting → (new ≡ old) × (after ≡ before))
sent_memory (Ok refused) bytes err err_after old new before after same s = tt
sent_memory (Err stop) bytes err err_after old new before after same s = λ e. (same, s.steady e)

pub sent_well : (r : Result Bool Stop) (bytes : List ℕ) (err err_after : Option (List ℕ)) (before after : ℕ) → Sends r bytes err err_after before after → OnOk r (after ≡ before)
sent_well (Ok refused) bytes err err_after before after s = s.well
sent_well (Err stop) bytes err err_after before after s = tt
