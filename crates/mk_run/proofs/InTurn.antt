-- Words made in turn as a group.
use Rattle.std.proofs.Common.{◌≡◌, ◌++◌, ℕ, List, [], ◌∷◌, Option, None, Some, IfSome, Result, Ok, Err, refl, sym, ap, ◌∙◌, subst}
use Rattle.mk_line.specs.declared.cutting.Ending.{Ending}
use Rattle.mk_line.specs.Lines.{cut, eol_of}
use Rattle.mk_tree.specs.Documents.{tree, printed}
use Rattle.mk_splice.specs.Splices.{Splice}
use Rattle.mk_decide.specs.Edits.{PlainEdit}
use Rattle.mk_edit.specs.History.{History}
use Rattle.mk_edit.specs.Histories.{IsHistory, done_splices, first_text, started, text_now, with_step}
use Rattle.mk_edit.proofs.GroupsKept.{done_more, first_stays}
use Rattle.mk_edit.proofs.Leading.{texts_start_lem}
use Rattle.mk_tree.proofs.Kept.{text_kept}
use Rattle.mk_expand.specs.Words.{meaning_of}
use Rattle.mk_script.specs.Script.{ScriptWord}
use Rattle.mk_expand.specs.Pieces.{Pieces}
use Rattle.mk_run.specs.WordSteps.{StepRefusal, Made, made_by, after_splices, words_made, words_step, stepped}
use Rattle.mk_run.specs.inner.Making.{DoesStep, MadeWord, MakesWord, refusal_in}
use Rattle.mk_run.specs.declared.making.StepError.{StepError}
use Rattle.mk_run.proofs.WordsMade.{after_after, left_read, left_valid, stepped_nil, word_done, word_refused}

-- some words were made in a group, and the rest is still to be made
pub record InTurn (pieces : Pieces) (eol : Ending) (all rest : List (ℕ × ScriptWord)) (session group : History) : Type 0 where
  pub rest_is : words_made pieces eol all (tree (text_now session)) ≡ after_splices (done_splices group) (words_made pieces eol rest (tree (text_now group)))
  pub first : first_text group ≡ text_now session
  pub valid : IsHistory group

after_none : (m : Made) → after_splices [] m ≡ m
after_none (Ok p) = refl
after_none (Err r) = refl

-- at first none was made
pub in_turn_begun : (pieces : Pieces) (eol : Ending) (all rest : List (ℕ × ScriptWord)) (session group : History) → group ≡ started (text_now session) → rest ≡ all → InTurn pieces eol all rest session group
in_turn_begun pieces eol all rest session group begun same =
    subst (InTurn pieces eol all rest session) (sym begun) (record {
      rest_is = sym (ap (λ ws. after_splices [] (words_made pieces eol ws (tree (text_now session)))) same ∙ after_none _);
      first = refl;
      valid = (texts_start_lem (text_now session)).0;
    })

-- one word more
pub in_turn_next : (pieces : Pieces) (eol : Ending) (all rest later : List (ℕ × ScriptWord)) (es : List PlainEdit) (session group next : History) (number : ℕ) (word : ScriptWord)
    → InTurn pieces eol all rest session group → rest ≡ (number, word) ∷ later → MadeWord (meaning_of pieces eol (tree (text_now group)) word) es group next → InTurn pieces eol all later session next
in_turn_next pieces eol all rest later es session group next number word t here m =
    let ss = m.done.splices in
    let read : tree (text_now next) ≡ m.done.document = left_read es group next t.valid m.done in
    let step_is : words_made pieces eol rest (tree (text_now group)) ≡ after_splices ss (words_made pieces eol later m.done.document) =
    ap (λ ws. words_made pieces eol ws (tree (text_now group))) here ∙ word_done pieces eol number word later (tree (text_now group)) es m.done.document ss m.means m.done.made in
    let more : done_splices next ≡ done_splices group ++ ss = ap done_splices m.done.left ∙ done_more group (printed m.done.document) ss t.valid in
    record {
      rest_is = t.rest_is ∙ (ap (after_splices (done_splices group)) step_is ∙ (after_after (done_splices group) ss (words_made pieces eol later m.done.document)
          ∙ (ap (λ rs. after_splices rs (words_made pieces eol later m.done.document)) (sym more) ∙ ap (λ d. after_splices (done_splices next) (words_made pieces eol later d)) (sym read))));
      first = ap first_text m.done.left ∙ (first_stays group (printed m.done.document) ss t.valid ∙ t.first);
      valid = left_valid es group next t.valid m.done;
    }

refused_after : (ss : List Splice) (m : Made) (r : StepRefusal) → m ≡ Err r → after_splices ss m ≡ Err r
refused_after ss m r e = ap (after_splices ss) e

-- a word that is refused refuses all
pub in_turn_refused : (pieces : Pieces) (eol : Ending) (all rest later : List (ℕ × ScriptWord)) (session group : History) (number : ℕ) (word : ScriptWord) (o : Option StepRefusal)
    → InTurn pieces eol all rest session group → rest ≡ (number, word) ∷ later → eol ≡ eol_of (cut (text_now session))
    → IfSome o (λ r. made_by number (tree (text_now group)) (meaning_of pieces eol (tree (text_now group)) word) ≡ Err r) → IfSome o (λ r. words_step pieces all session ≡ Err r)
in_turn_refused pieces eol all rest later session group number word None t here ends e = tt
in_turn_refused pieces eol all rest later session group number word (Some r) t here ends e =
    ap (λ x. stepped session (words_made pieces x all (tree (text_now session)))) (sym ends)
    ∙ ap (stepped session) (t.rest_is ∙ refused_after (done_splices group) _ r (ap (λ ws. words_made pieces eol ws (tree (text_now group))) here ∙ word_refused pieces eol number word later (tree (text_now group)) r e))

-- once all are made, the group is one step
pub in_turn_done : (pieces : Pieces) (eol : Ending) (all rest : List (ℕ × ScriptWord)) (session group new : History)
    → InTurn pieces eol all rest session group → rest ≡ [] → eol ≡ eol_of (cut (text_now session)) → new ≡ with_step session (text_now group) (done_splices group) → words_step pieces all session ≡ Ok new
in_turn_done pieces eol all rest session group new t here ends done =
    let whole : words_made pieces eol all (tree (text_now session)) ≡ Ok (tree (text_now group), done_splices group ++ []) =
    t.rest_is ∙ ap (λ ws. after_splices (done_splices group) (words_made pieces eol ws (tree (text_now group)))) here in
    ap (λ x. stepped session (words_made pieces x all (tree (text_now session)))) (sym ends)
    ∙ (ap (stepped session) whole
    ∙ (stepped_nil session (tree (text_now group)) (done_splices group)
    ∙ (ap (λ x. Ok (with_step session x (done_splices group))) (text_kept (text_now group)) ∙ ap (λ h. Ok h) (sym done))))

-- a word alone is a step
word_alone : (pieces : Pieces) (number : ℕ) (word : ScriptWord) (eol : Ending) (old new : History) (es : List PlainEdit) → eol ≡ eol_of (cut (text_now old))
    → MadeWord (meaning_of pieces eol (tree (text_now old)) word) es old new → words_step pieces ((number, word) ∷ []) old ≡ Ok new
word_alone pieces number word eol old new es ends m =
    ap (λ x. stepped old (words_made pieces x ((number, word) ∷ []) (tree (text_now old)))) (sym ends)
    ∙ (ap (stepped old) (word_done pieces eol number word [] (tree (text_now old)) es m.done.document m.done.splices m.means m.done.made)
    ∙ (stepped_nil old m.done.document m.done.splices ∙ ap (λ h. Ok h) (sym m.done.left)))

word_alone_refused : (pieces : Pieces) (number : ℕ) (word : ScriptWord) (eol : Ending) (old : History) (o : Option StepRefusal) → eol ≡ eol_of (cut (text_now old))
    → IfSome o (λ r. made_by number (tree (text_now old)) (meaning_of pieces eol (tree (text_now old)) word) ≡ Err r) → IfSome o (λ r. words_step pieces ((number, word) ∷ []) old ≡ Err r)
word_alone_refused pieces number word eol old None ends e = tt
word_alone_refused pieces number word eol old (Some r) ends e =
    ap (λ x. stepped old (words_made pieces x ((number, word) ∷ []) (tree (text_now old)))) (sym ends) ∙ ap (stepped old) (word_refused pieces eol number word [] (tree (text_now old)) r e)

pub word_does : {X : Type 0} (result : Result X StepError) (pieces : Pieces) (number : ℕ) (word : ScriptWord) (eol : Ending) (old new : History) → eol ≡ eol_of (cut (text_now old))
    → MakesWord result number (meaning_of pieces eol (tree (text_now old)) word) old new → DoesStep result (words_step pieces ((number, word) ∷ []) old) old new
word_does (Ok x) pieces number word eol old new ends m = word_alone pieces number word eol old new m.0 ends m.1
word_does (Err e) pieces number word eol old new ends m = (m.0, word_alone_refused pieces number word eol old (refusal_in e) ends m.1)
