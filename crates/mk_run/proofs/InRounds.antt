-- Rounds made in turn as a group.
use Rattle.std.proofs.Common.{◌≡◌, ◌≤◌, ◌<◌, ◌++◌, ◌∙◌, ℕ, true, List, [], ◌∷◌, Option, None, Some, IfSome, Result, Ok, Err, arith, get_or, length, refl, sym, ap, append_assoc, append-nil, subst}
use Rattle.mk_tree.specs.Documents.{Document, tree, printed}
use Rattle.mk_splice.specs.Splices.{Splice}
use Rattle.mk_decide.specs.Answers.{IsRefusedBy, refusal_of}
use Rattle.mk_decide.specs.Edits.{PlainEdit, Refusal}
use Rattle.mk_decide.specs.declared.errors.EditError.{EditError}
use Rattle.mk_edit.specs.Answers.{Does}
use Rattle.mk_edit.specs.Groups.{Together, together}
use Rattle.mk_edit.specs.History.{History}
use Rattle.mk_edit.specs.Histories.{IsHistory, done_splices, first_text, started, text_now, with_step}
use Rattle.mk_edit.proofs.GroupsKept.{done_more, first_stays, text_after}
use Rattle.mk_edit.proofs.Leading.{texts_start_lem}
use Rattle.mk_mail.specs.Apart.{has_section}
use Rattle.mk_mail.specs.Rounds.{PlainRound, made_text, round_edits, round_outcome}
use Rattle.mk_run.specs.RoundSteps.{Led, led_after, led_on, led_step, rounds_led, rounds_step}
use Rattle.mk_run.specs.inner.Making.{MadeRound, MakesRound}
use Rattle.mk_run.proofs.WordsMade.{left_valid}

-- some rounds were made in a group, and the rest is still to be made
pub record InRounds (path : List ℕ) (all rest : List PlainRound) (session group : History) : Type 0 where
  pub rest_is : rounds_led path all (text_now session) ≡ led_after (done_splices group) (rounds_led path rest (text_now group))
  pub first : first_text group ≡ text_now session
  pub valid : IsHistory group

led_none : (m : Led) → led_after [] m ≡ m
led_none (Ok p) = refl
led_none (Err reason) = refl

led_led : (ss rs : List Splice) (m : Led) → led_after ss (led_after rs m) ≡ led_after (ss ++ rs) m
led_led ss rs (Ok p) = ap (λ qs. Ok (p.0, qs)) (sym (append_assoc ss rs p.1))
led_led ss rs (Err reason) = refl

-- at first none was made
pub in_rounds_begun : (path : List ℕ) (all : List PlainRound) (session group : History) → group ≡ started (text_now session) → InRounds path all all session group
in_rounds_begun path all session group begun =
    subst (InRounds path all all session) (sym begun) (record {
      rest_is = sym (led_none _);
      first = refl;
      valid = (texts_start_lem (text_now session)).0;
    })

-- what is made of a text of which a round was made
round_done : (path : List ℕ) (r : PlainRound) (rs : List PlainRound) (text : List ℕ) (es : List PlainEdit) (d : Document) (ss : List Splice)
    → es ≡ round_edits path text r → together es (tree text) ≡ Ok (d, ss) → rounds_led path (r ∷ rs) text ≡ led_after ss (rounds_led path rs (printed d))
round_done path r rs text es d ss is made =
    ap (λ xs. led_on (together xs (tree text)) (rounds_led path rs)) (sym is) ∙ ap (λ o. led_on o (rounds_led path rs)) made

-- one round more
pub in_rounds_next : (path : List ℕ) (all rest later : List PlainRound) (r : PlainRound) (es : List PlainEdit) (session group next : History)
    → InRounds path all rest session group → rest ≡ r ∷ later → MadeRound path r es group next → InRounds path all later session next
in_rounds_next path all rest later r es session group next t here m =
    let ss = m.done.splices in
    let stands : text_now next ≡ printed m.done.document = ap text_now m.done.left ∙ text_after group (printed m.done.document) ss t.valid in
    let step_is : rounds_led path rest (text_now group) ≡ led_after ss (rounds_led path later (printed m.done.document)) =
    ap (λ rs. rounds_led path rs (text_now group)) here ∙ round_done path r later (text_now group) es m.done.document ss m.edits m.done.made in
    let more : done_splices next ≡ done_splices group ++ ss = ap done_splices m.done.left ∙ done_more group (printed m.done.document) ss t.valid in
    record {
      rest_is = t.rest_is ∙ (ap (led_after (done_splices group)) step_is ∙ (led_led (done_splices group) ss (rounds_led path later (printed m.done.document))
          ∙ (ap (λ qs. led_after qs (rounds_led path later (printed m.done.document))) (sym more) ∙ ap (λ x. led_after (done_splices next) (rounds_led path later x)) (sym stands))));
      first = ap first_text m.done.left ∙ (first_stays group (printed m.done.document) ss t.valid ∙ t.first);
      valid = left_valid es group next t.valid m.done;
    }

led_refused : (o : Together) (f : List ℕ → Led) (reason : Refusal) → made_text o ≡ Err reason → led_on o f ≡ Err reason
led_refused (Ok p) f reason e = absurd (cc)
led_refused (Err q) f reason e = let same : q.1 ≡ reason = cc in ap (λ x. Err x) same

-- rounds at a section that is there
there : (path : List ℕ) (rs : List PlainRound) (h : History) → has_section path (text_now h) ≡ true → rounds_step path rs h ≡ led_step h (rounds_led path rs (text_now h))
there path rs h section = rw section refl

-- a round that is refused refuses all
pub in_rounds_refused : (path : List ℕ) (all rest later : List PlainRound) (r : PlainRound) (session group : History) (o : Option Refusal)
    → InRounds path all rest session group → rest ≡ r ∷ later → has_section path (text_now session) ≡ true
    → IfSome o (λ reason. made_text (round_outcome path (text_now group) r) ≡ Err reason) → IsRefusedBy o (rounds_step path all session)
in_rounds_refused path all rest later r session group None t here section e = tt
in_rounds_refused path all rest later r session group (Some reason) t here section e =
    there path all session section
    ∙ ap (led_step session) (t.rest_is ∙ ap (led_after (done_splices group)) (ap (λ rs. rounds_led path rs (text_now group)) here ∙ led_refused (round_outcome path (text_now group) r) (rounds_led path later) reason e))

-- once all are made, the group is one step
pub in_rounds_done : (path : List ℕ) (all rest : List PlainRound) (session group new : History)
    → InRounds path all rest session group → rest ≡ [] → has_section path (text_now session) ≡ true → new ≡ with_step session (text_now group) (done_splices group) → rounds_step path all session ≡ Ok new
in_rounds_done path all rest session group new t here section done =
    let whole : rounds_led path all (text_now session) ≡ Ok (text_now group, done_splices group ++ []) = t.rest_is ∙ ap (λ rs. led_after (done_splices group) (rounds_led path rs (text_now group))) here in
    there path all session section
    ∙ (ap (led_step session) whole
    ∙ (ap (λ ss. Ok (with_step session (text_now group) ss)) (append-nil (done_splices group)) ∙ ap (λ h. Ok h) (sym done)))

-- a round alone is a step
round_alone : (path : List ℕ) (rs : List PlainRound) (r : PlainRound) (es : List PlainEdit) (old new : History) → rs ≡ r ∷ [] → has_section path (text_now old) ≡ true
    → MadeRound path r es old new → rounds_step path rs old ≡ Ok new
round_alone path rs r es old new one section m =
    there path rs old section
    ∙ (ap (λ xs. led_step old (rounds_led path xs (text_now old))) one
    ∙ (ap (led_step old) (round_done path r [] (text_now old) es m.done.document m.done.splices m.edits m.done.made)
    ∙ (ap (λ ss. Ok (with_step old (printed m.done.document) ss)) (append-nil m.done.splices) ∙ ap (λ h. Ok h) (sym m.done.left))))

round_alone_refused : (path : List ℕ) (rs : List PlainRound) (r : PlainRound) (old : History) (o : Option Refusal) → rs ≡ r ∷ [] → has_section path (text_now old) ≡ true
    → IfSome o (λ reason. made_text (round_outcome path (text_now old) r) ≡ Err reason) → IsRefusedBy o (rounds_step path rs old)
round_alone_refused path rs r old None one section e = tt
round_alone_refused path rs r old (Some reason) one section e =
    there path rs old section
    ∙ (ap (λ xs. led_step old (rounds_led path xs (text_now old))) one
    ∙ ap (led_step old) (led_refused (round_outcome path (text_now old) r) (rounds_led path []) reason e))

pub round_does : {X : Type 0} (result : Result X EditError) (path : List ℕ) (rs : List PlainRound) (r : PlainRound) (old new : History) → rs ≡ r ∷ [] → has_section path (text_now old) ≡ true
    → MakesRound result path r old new → Does result (rounds_step path rs old) old new
round_does (Ok x) path rs r old new one section m = round_alone path rs r m.0 old new one section m.1
round_does (Err e) path rs r old new one section m = (m.0, round_alone_refused path rs r old (refusal_of e) one section m.1)

-- the reason against an edit of a round is that against the round
pub round_told : (path : List ℕ) (r : PlainRound) (text : List ℕ) (es : List PlainEdit) (index : ℕ) (o : Option Refusal) → es ≡ round_edits path text r
    → IfSome o (λ reason. together es (tree text) ≡ Err (index, reason)) → IfSome o (λ reason. made_text (round_outcome path text r) ≡ Err reason)
round_told path r text es index None is told = tt
round_told path r text es index (Some reason) is told = ap (λ xs. made_text (together xs (tree text))) (sym is) ∙ ap made_text told

-- the only item of a list
pub only_item : {X : Type 0} (xs : List X) (x : X) → 1 ≤ length xs → length xs < 2 → x ≡ get_or xs 0 x → xs ≡ x ∷ []
only_item [] x some few found = absurd (omega (arith, some))
only_item (y ∷ []) x some few found = ap (λ z. z ∷ []) (sym found)
only_item (y ∷ z ∷ zs) x some few found = absurd (omega (arith, few))
