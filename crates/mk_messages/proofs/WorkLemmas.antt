-- Messages that were worked on in turn.
use Rattle.std.proofs.Common.{◌≡◌, ◌+◌, ◌||◌, if◌then◌else◌, ℕ, suc, Bool, true, false, not, List, [], ◌∷◌, ◌++◌, Option, refl, sym, ap, ◌∙◌, subst, append_assoc, inl, inr, length, length-append, arith}
use Rattle.std.specs.Prelude.{Result, Ok, Err, OnOk, OnErr}
use Rattle.std.proofs.lemmas.List.{append-nil}
use Rattle.std.specs.Io.KnownBytes.{Appends, IsAtEnd, Keeps}
use Rattle.std.proofs.KnownBytes.{Appends-kept, Appends-nil, Appends-trans}
use Rattle.mk_line.specs.Lines.{is_nil}
use Rattle.mk_mailbox.specs.Devices.{AppendsFront}
use Rattle.mk_transfer.specs.declared.status.Status.{Status}
use Rattle.mk_transfer.specs.declared.status.Status.TheVariants.{Well, Refused}
use Rattle.mk_transfer.specs.declared.transfer.Stop.{Stop}
use Rattle.mk_transfer.specs.RunClauses.{held}
use Rattle.mk_transfer.specs.Said.{Said, silence, said_after, shown}
use Rattle.mk_transfer.proofs.Fronts.{AppendsFront-following, AppendsFront-whole, not-is_nil-append}
use Rattle.mk_messages.specs.Working.{EndsWork, IsWorkedOff, StopsWork, Effect, WorkState, WorksOn, WorksOnSome, work_state}
use Rattle.mk_messages.specs.inner.WorkSteps.{WorksOnAll}

said_alone : (s : Said) → s ≡ said_after s silence
said_alone s = λ i. record { output = sym (append-nil s.output) i; errors = sym (append-nil s.errors) i }

said_following : (a b c : Said) → said_after (said_after a b) c ≡ said_after a (said_after b c)
said_following a b c = λ i. record { output = append_assoc a.output b.output c.output i; errors = append_assoc a.errors b.errors c.errors i }

works_append : (D : Type 0) (P : Effect D) (number : ℕ) (xs ys : List (List ℕ)) (first more : Said) (a b c : D)
    → WorksOn D P number xs first a b → WorksOn D P (number + length xs) ys more b c → WorksOn D P number (xs ++ ys) (said_after first more) a c
works_append D P number [] ys first more a b c u v =
    let here : number + 0 ≡ number = omega arith in
    subst (λ s. WorksOn D P number ys (said_after s more) a c) (sym u.0) (subst (λ f. WorksOn D P number ys more f c) u.1 (subst (λ n. WorksOn D P n ys more b c) here v))
works_append D P number (x ∷ xs) ys first more a b c u v =
    let on : number + suc (length xs) ≡ suc number + length xs = omega arith in (
      u.0,
      said_after u.1 more,
      u.2,
      u.3,
      works_append D P (suc number) xs ys u.1 more u.2 b c u.4 (subst (λ n. WorksOn D P n ys more b c) on v),
      ap (λ s. said_after s more) u.5 ∙ said_following u.0 u.1 more,
    )

works_one : (D : Type 0) (P : Effect D) (number : ℕ) (m : List ℕ) (said : Said) (old new : D) → P number m said old new → WorksOn D P number (m ∷ []) said old new
works_one D P number m said old new p = (said, silence, new, p, (refl, refl), said_alone said)

-- none
pub none_worked : (D : Type 0) (P : Effect D) (number : ℕ) (a : WorkState D) → WorksOnAll D P number [] false a a
none_worked D P number a = record { said = silence; works = (refl, refl); output = Appends-nil a.output; errors = Appends-nil a.errors; refused_is = refl }

-- one
pub one_worked : (D : Type 0) (P : Effect D) (number : ℕ) (m : List ℕ) (said : Said) (refused : Bool) (before after : WorkState D) → P number m said before.device after.device
    → Appends before.output after.output said.output → Appends before.errors after.errors said.errors → refused ≡ not (is_nil said.errors) → WorksOnAll D P number (m ∷ []) refused before after
one_worked D P number m said refused before after p output errors told =
    record { said = said; works = works_one D P number m said before.device after.device p; output = output; errors = errors; refused_is = told }

-- one, and a front went out of what is said of it
pub one_sent : (D : Type 0) (P Q : Effect D) (number : ℕ) (m : List ℕ) (said : Said) (before after : WorkState D) → P number m said before.device after.device
    → AppendsFront before.output after.output said.output → AppendsFront before.errors after.errors said.errors → WorksOnSome D P Q number (m ∷ []) before after
one_sent D P Q number m said before after p output errors = record {
  done = m ∷ [];
  rest = [];
  parts = refl;
  said = said;
  more = silence;
  between = after.device;
  works = works_one D P number m said before.device after.device p;
  stops = (refl, refl);
  output = subst (AppendsFront before.output after.output) (sym (append-nil said.output)) output;
  errors = subst (AppendsFront before.errors after.errors) (sym (append-nil said.errors)) errors;
}

-- the work on one was stopped
pub one_stopped : (D : Type 0) (P Q : Effect D) (number : ℕ) (m : List ℕ) (said : Said) (before after : WorkState D) → Q number m said before.device after.device
    → AppendsFront before.output after.output said.output → AppendsFront before.errors after.errors said.errors → WorksOnSome D P Q number (m ∷ []) before after
one_stopped D P Q number m said before after q output errors =
    let here : number ≡ number + 0 = omega arith in
    record {
      done = [];
      rest = m ∷ [];
      parts = refl;
      said = silence;
      more = said;
      between = before.device;
      works = (refl, refl);
      stops = inr (subst (λ n. Q n m said before.device after.device) here q);
      output = output;
      errors = errors;
    }

-- one, or the work on it was stopped; a front went out of what is said of it
pub one_cut : (D : Type 0) (P Q : Effect D) (number : ℕ) (m : List ℕ) (said : Said) (before after : WorkState D) (X : Type 0) (r : Result X Stop) → OnOk r (P number m said before.device after.device)
    → OnErr r (Q number m said before.device after.device) → AppendsFront before.output after.output said.output → AppendsFront before.errors after.errors said.errors → WorksOnSome D P Q number (m ∷ []) before after
one_cut D P Q number m said before after X (Ok x) p q output errors = one_sent D P Q number m said before after p output errors
one_cut D P Q number m said before after X (Err stop) p q output errors = one_stopped D P Q number m said before after q output errors

-- messages, and then others
more_worked : (D : Type 0) (P : Effect D) (number : ℕ) (xs ys : List (List ℕ)) (refused more : Bool) (a b c : WorkState D) → WorksOnAll D P number xs refused a b → WorksOnAll D P (number + length xs) ys more b c
    → WorksOnAll D P number (xs ++ ys) (refused || more) a c
more_worked D P number xs ys refused more a b c u v = record {
  said = said_after u.said v.said;
  works = works_append D P number xs ys u.said v.said a.device b.device c.device u.works v.works;
  output = Appends-trans a.output b.output c.output u.said.output v.said.output u.output v.output;
  errors = Appends-trans a.errors b.errors c.errors u.said.errors v.said.errors u.errors v.errors;
  refused_is = (λ i. u.refused_is i || v.refused_is i) ∙ sym (not-is_nil-append u.said.errors v.said.errors);
}

stops_more : (D : Type 0) (Q : Effect D) (number : ℕ) (ys more : List (List ℕ)) (said : Said) (old new : D) → StopsWork D Q number ys said old new → StopsWork D Q number (ys ++ more) said old new
stops_more D Q number [] [] said old new h = h
stops_more D Q number [] (m ∷ ms) said old new h = inl h
stops_more D Q number (y ∷ ys) more said old new h = h

stops_none : (D : Type 0) (Q : Effect D) (number : ℕ) (ys : List (List ℕ)) (device : D) → StopsWork D Q number ys silence device device
stops_none D Q number [] device = (refl, refl)
stops_none D Q number (y ∷ ys) device = inl (refl, refl)

apart : (xs done rest more : List (List ℕ)) → xs ++ ((done ++ rest) ++ more) ≡ (xs ++ done) ++ (rest ++ more)
apart xs done rest more = simp append_assoc

-- messages, and then some of others, after which stand more
more_stopped : (D : Type 0) (P Q : Effect D) (number : ℕ) (xs ys more all : List (List ℕ)) (refused : Bool) (a b c : WorkState D) → WorksOnAll D P number xs refused a b → WorksOnSome D P Q (number + length xs) ys b c
    → all ≡ xs ++ (ys ++ more) → WorksOnSome D P Q number all a c
more_stopped D P Q number xs ys more all refused a b c u v e =
    let place : (number + length xs) + length v.done ≡ number + length (xs ++ v.done) = omega (arith, length-append xs v.done) in
    record {
      done = xs ++ v.done;
      rest = v.rest ++ more;
      parts = e ∙ (ap (λ zs. xs ++ (zs ++ more)) v.parts ∙ apart xs v.done v.rest more);
      said = said_after u.said v.said;
      more = v.more;
      between = v.between;
      works = works_append D P number xs v.done u.said v.said a.device b.device v.between u.works v.works;
      stops = subst (λ n. StopsWork D Q n (v.rest ++ more) v.more v.between c.device) place (stops_more D Q _ v.rest more v.more v.between c.device v.stops);
      output = AppendsFront-following a.output b.output c.output u.said.output (v.said.output ++ v.more.output) [] _ u.output v.output
          (append_assoc u.said.output v.said.output v.more.output ∙ ap (λ l. u.said.output ++ l) (sym (append-nil (v.said.output ++ v.more.output))));
      errors = AppendsFront-following a.errors b.errors c.errors u.said.errors (v.said.errors ++ v.more.errors) [] _ u.errors v.errors
          (append_assoc u.said.errors v.said.errors v.more.errors ∙ ap (λ l. u.said.errors ++ l) (sym (append-nil (v.said.errors ++ v.more.errors))));
    }

-- messages, and of the others none
pub worked_between : (D : Type 0) (P Q : Effect D) (number : ℕ) (done rest all : List (List ℕ)) (refused : Bool) (a b : WorkState D) → WorksOnAll D P number done refused a b → all ≡ done ++ rest → WorksOnSome D P Q number all a b
worked_between D P Q number done rest all refused a b u e = record {
  done = done;
  rest = rest;
  parts = e;
  said = u.said;
  more = silence;
  between = b.device;
  works = u.works;
  stops = stops_none D Q (number + length done) rest b.device;
  output = AppendsFront-whole _ _ _ (subst (Appends a.output b.output) (sym (append-nil u.said.output)) u.output);
  errors = AppendsFront-whole _ _ _ (subst (Appends a.errors b.errors) (sym (append-nil u.said.errors)) u.errors);
}

-- the same from a number that is known otherwise
pub more_worked_at : (D : Type 0) (P : Effect D) (number place : ℕ) (xs ys : List (List ℕ)) (refused more : Bool) (a b c : WorkState D) → place ≡ number + length xs → WorksOnAll D P number xs refused a b → WorksOnAll D P place ys more b c
    → WorksOnAll D P number (xs ++ ys) (refused || more) a c
more_worked_at D P number place xs ys refused more a b c e u v = more_worked D P number xs ys refused more a b c u (subst (λ n. WorksOnAll D P n ys more b c) e v)

pub more_stopped_at : (D : Type 0) (P Q : Effect D) (number place : ℕ) (xs ys more all : List (List ℕ)) (refused : Bool) (a b c : WorkState D) → place ≡ number + length xs → WorksOnAll D P number xs refused a b → WorksOnSome D P Q place ys b c
    → all ≡ xs ++ (ys ++ more) → WorksOnSome D P Q number all a c
more_stopped_at D P Q number place xs ys more all refused a b c e u v f = more_stopped D P Q number xs ys more all refused a b c u (subst (λ n. WorksOnSome D P Q n ys b c) e v) f

pub these_worked : (D : Type 0) (P : Effect D) (number : ℕ) (ms all : List (List ℕ)) (refused : Bool) (a b : WorkState D) → all ≡ ms → WorksOnAll D P number ms refused a b → WorksOnAll D P number all refused a b
these_worked D P number ms all refused a b e u = subst (λ xs. WorksOnAll D P number xs refused a b) (sym e) u

-- a call that wrote nothing came after
pub kept_worked : (D : Type 0) (P : Effect D) (number : ℕ) (ms : List (List ℕ)) (refused : Bool) (out sent last err told : Option (List ℕ)) (old new : D) → WorksOnAll D P number ms refused (work_state D out err old) (work_state D sent told new)
    → Keeps sent last → WorksOnAll D P number ms refused (work_state D out err old) (work_state D last told new)
kept_worked D P number ms refused out sent last err told old new u k =
    record { said = u.said; works = u.works; output = Appends-kept _ _ _ _ u.output k; errors = u.errors; refused_is = u.refused_is }

shown_status : (output errors : List ℕ) (b : Bool) → b ≡ not (is_nil errors) → (shown output errors).status ≡ (if b then Refused else Well)
shown_status output [] b h = sym (ap (λ (c : Bool). if c then Refused else Well) h)
shown_status output (byte ∷ bytes) b h = sym (ap (λ (c : Bool). if c then Refused else Well) h)

all_worked : (D : Type 0) (P : Effect D) (ms : List (List ℕ)) (refused : Bool) (input left out last err told : Option (List ℕ)) (old new : D) → WorksOnAll D P 1 ms refused (work_state D out err old) (work_state D last told new) → IsAtEnd left
    → IsWorkedOff D P (if refused then Refused else Well) ms (held input out err) (held left last told) old new
all_worked D P ms refused input left out last err told old new u end = record {
  said = u.said;
  works = u.works;
  run = record { status_is = shown_status u.said.output u.said.errors refused u.refused_is; written = record { output = u.output; errors = u.errors }; read = end };
}

-- all were worked on, and the output was finished
pub ends_work : (D : Type 0) (P : Effect D) (ms : List (List ℕ)) (refused : Bool) (status : Status) (input left out sent last err told : Option (List ℕ)) (old new : D) → WorksOnAll D P 1 ms refused (work_state D out err old) (work_state D sent told new)
    → Keeps sent last → status ≡ (if refused then Refused else Well) → IsAtEnd left → EndsWork D P status ms (held input out err) (held left last told) old new
ends_work D P ms true status input left out sent last err told old new u k e end =
    subst (λ s. EndsWork D P s ms (held input out err) (held left last told) old new) (sym e) (all_worked D P ms true input left out last err told old new (kept_worked D P 1 ms true out sent last err told old new u k) end)
ends_work D P ms false status input left out sent last err told old new u k e end =
    subst (λ s. EndsWork D P s ms (held input out err) (held left last told) old new) (sym e) (all_worked D P ms false input left out last err told old new (kept_worked D P 1 ms false out sent last err told old new u k) end)
