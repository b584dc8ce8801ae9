-- Runs of rounds with a journal, and what they do without one.
use Rattle.std.proofs.Common.{◌≡◌, ◌++◌, ◌∙◌, ℕ, List, [], ◌∷◌, Result, Ok, Err, refl, sym, ap, inl, inr}
use Rattle.std.proofs.lemmas.Bool.{cases_Bool}
use Rattle.std.specs.Result.{result_unwrap_or}
use Rattle.mk_line.specs.Results.{made_of}
use Rattle.mk_tree.specs.Documents.{printed, tree}
use Rattle.mk_tree.proofs.Kept.{text_kept}
use Rattle.mk_splice.specs.Splices.{Splice}
use Rattle.mk_decide.specs.Edits.{Group, NoSuchSection, PlainEdit, Refusal}
use Rattle.mk_edit.specs.Groups.{Together, together}
use Rattle.mk_edit.specs.History.{History}
use Rattle.mk_edit.specs.Histories.{grouped_by, started, step, text_now, with_step}
use Rattle.mk_edit.proofs.GroupFacts.{groups_read_back_lem}
use Rattle.mk_field.specs.Filtering.{report_of}
use Rattle.mk_mail.specs.Apart.{has_section, section_made}
use Rattle.mk_mail.specs.Rounds.{Made, PlainRound, made_text, round_edits, round_outcome, rounds_made_at}
use Rattle.mk_transfer.specs.Said.{shown}
use Rattle.mk_run.specs.RoundLaws.{JournalsChangeNothing, RoundsAreGroups}
use Rattle.mk_run.specs.RoundSteps.{Led, led_after, led_on, led_step, round_lines, rounds_led, rounds_step}
use Rattle.mk_run.proofs.WordsMade.{together_append}

-- the text alone
abbrev text_led : Led → Made
text_led (Ok p) = Ok p.0
text_led (Err reason) = Err reason

after_led : (ss : List Splice) (m : Led) → text_led (led_after ss m) ≡ text_led m
after_led ss (Ok p) = refl
after_led ss (Err reason) = refl

led_made : (o : Together) (f : List ℕ → Led) (g : List ℕ → Made) → ((x : List ℕ) → text_led (f x) ≡ g x) → text_led (led_on o f) ≡ made_of g (made_text o)
led_made (Ok p) f g same = after_led p.1 (f (printed p.0)) ∙ same (printed p.0)
led_made (Err q) f g same = refl

rounds_same : (path : List ℕ) (rs : List PlainRound) (text : List ℕ) → text_led (rounds_led path rs text) ≡ rounds_made_at path rs text
rounds_same path [] text = refl
rounds_same path (r ∷ rs) text = led_made (round_outcome path text r) (rounds_led path rs) (rounds_made_at path rs) (rounds_same path rs)

-- a text that was made stands, and nothing is reported; else all is as it was
output_same : (text : List ℕ) (m : Led) → text_now (result_unwrap_or (led_step (started text) m) (started text)) ≡ result_unwrap_or (text_led m) text
output_same text (Ok p) = refl
output_same text (Err reason) = refl

lines_same : (path text : List ℕ) (m : Led) → round_lines path (led_step (started text) m) ≡ report_of path 1 (text_led m)
lines_same path text (Ok p) = refl
lines_same path text (Err reason) = refl

output_is : (path : List ℕ) (rs : List PlainRound) (text : List ℕ) → text_now (result_unwrap_or (rounds_step path rs (started text)) (started text)) ≡ result_unwrap_or (section_made path rs text) text
output_is path rs text = elim (cases_Bool (has_section path text)) [
  | inl t ↦ rw t (output_same text (rounds_led path rs text) ∙ ap (λ m. result_unwrap_or m text) (rounds_same path rs text))
  | inr f ↦ rw f refl
]

lines_are : (path : List ℕ) (rs : List PlainRound) (text : List ℕ) → round_lines path (rounds_step path rs (started text)) ≡ report_of path 1 (section_made path rs text)
lines_are path rs text = elim (cases_Bool (has_section path text)) [
  | inl t ↦ rw t (lines_same path text (rounds_led path rs text) ∙ ap (report_of path 1) (rounds_same path rs text))
  | inr f ↦ rw f refl
]

pub journals_change_nothing_lem : JournalsChangeNothing
journals_change_nothing_lem = λ path rounds message.
    ap (λ output. shown output (round_lines path (rounds_step path rounds (started message)))) (output_is path rounds message) ∙ ap (shown (result_unwrap_or (section_made path rounds message) message)) (lines_are path rounds message)

-- ---- rounds as one group

after_ok : (ss : List Splice) (m : Led) (p : List ℕ × List Splice) → led_after ss m ≡ Ok p → (q : List ℕ × List Splice) × (m ≡ Ok q) × (p ≡ (q.0, ss ++ q.1))
after_ok ss (Ok q) p e = (q, refl, let same : p ≡ (q.0, ss ++ q.1) = cc in same)
after_ok ss (Err reason) p e = absurd (let bad : ◌≡◌ {A = Led} (Err reason) (Ok p) = e in cc)

-- a group that leads from a text to another
pub record IsGroup (text : List ℕ) (p : List ℕ × List Splice) : Type 0 where
  pub edits : List PlainEdit
  pub made : together edits (tree text) ≡ Ok (tree p.0, p.1)

group_on : (es : List PlainEdit) (o : Together) (f : List ℕ → Led) (text : List ℕ) (p : List ℕ × List Splice) → together es (tree text) ≡ o → led_on o f ≡ Ok p
    → ((x : List ℕ) (q : List ℕ × List Splice) → f x ≡ Ok q → IsGroup x q) → IsGroup text p
group_on es (Err q) f text p made e rest = absurd (let bad : ◌≡◌ {A = Led} (Err q.1) (Ok p) = e in cc)
group_on es (Ok d) f text p made e rest =
    let b = after_ok d.1 (f (printed d.0)) p e in
    let more = rest (printed d.0) b.0 b.1 in
    let read : tree (printed d.0) ≡ d.0 = groups_read_back_lem es text d.0 d.1 made in
    record {
      edits = es ++ more.edits;
      made = together_append es more.edits (tree text) d (tree b.0.0, b.0.1) made (ap (together more.edits) (sym read) ∙ more.made) ∙ ap (λ (q : List ℕ × List Splice). Ok (tree q.0, q.1)) (sym b.2);
    }

rounds_group : (path : List ℕ) (rs : List PlainRound) (text : List ℕ) (p : List ℕ × List Splice) → rounds_led path rs text ≡ Ok p → IsGroup text p
rounds_group path [] text p e = let same : (text, []) ≡ p = cc in record { edits = []; made = ap (λ (q : List ℕ × List Splice). Ok (tree q.0, q.1)) same }
rounds_group path (r ∷ rs) text p e = group_on (round_edits path text r) (round_outcome path text r) (rounds_led path rs) text p refl e (rounds_group path rs)

step_group : (m : Led) (old new : History) → ((p : List ℕ × List Splice) → m ≡ Ok p → IsGroup (text_now old) p) → led_step old m ≡ Ok new → (edits : List PlainEdit) × (step (Group edits) old ≡ Ok new)
step_group (Err reason) old new group e = absurd (let bad : ◌≡◌ {A = Result History Refusal} (Err reason) (Ok new) = e in cc)
step_group (Ok p) old new group e =
    let g = group p refl in
    let same : with_step old p.0 p.1 ≡ new = cc in
    (g.edits, ap (grouped_by old) g.made ∙ (ap (λ x. Ok (with_step old x p.1)) (text_kept p.0) ∙ ap (λ h. Ok h) same))

pub rounds_are_groups_lem : RoundsAreGroups
rounds_are_groups_lem = λ path rounds old new e. elim (cases_Bool (has_section path (text_now old))) [
  | inl t ↦ step_group (rounds_led path rounds (text_now old)) old new (rounds_group path rounds (text_now old)) (rw t at e)
  | inr f ↦ absurd (let bad : ◌≡◌ {A = Result History Refusal} (Err NoSuchSection) (Ok new) = rw f at e in cc)
]
