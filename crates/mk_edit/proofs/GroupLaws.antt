-- What is done in a group is one step, which its edits give.
use Rattle.std.proofs.Common.{◌≡◌, ◌+◌, ◌-◌, ◌++◌, ◌∙◌, ◌∷◌, [], ℕ, Bool, true, false, nat_lt, if◌then◌else◌, length, List, Option, None, Some, option_and_then, Result, Ok, Err, refl, ap, sym, subst, append-nil, append_assoc}
use Rattle.std.specs.Result.{result_ok, result_unwrap_or}
use Rattle.mk_tree.specs.Documents.{Document, printed, tree}
use Rattle.mk_tree.proofs.Kept.{text_kept}
use Rattle.mk_decide.specs.Edits.{Do, Group, NothingToRedo, NothingToUndo, Order, PlainEdit, Redo, Refusal, Undo}
use Rattle.mk_decide.specs.EditSplices.{splices_of}
use Rattle.mk_decide.specs.Outcomes.{edited}
use Rattle.mk_decide.proofs.EditsLead.{edits_read_back_lem, splices_lead_lem}
use Rattle.mk_splice.specs.Splices.{Splice}
use Rattle.mk_edit.specs.Groups.{Together, following, made_on, together}
use Rattle.mk_edit.specs.History.{History}
use Rattle.mk_edit.specs.Histories.{IsHistory, after_all, done_splices, edited_by, first_text, grouped_by, started, step, text_now, with_step}
use Rattle.mk_edit.specs.Laws.{EditsInTurnAreGroups, FirstTextsStay, made_in_turn}
use Rattle.mk_edit.proofs.GroupsKept.{done_more, first_stays, text_after}
use Rattle.mk_edit.proofs.HistoryNames.{after}
use Rattle.mk_edit.proofs.Leading.{stays_after, stays_step, texts_start_lem}

-- ---- the first text

first_edit : (h : History) (ss : List Splice) (r : Result Document Refusal) → IsHistory h → first_text (result_unwrap_or (edited_by h ss r) h) ≡ first_text h
first_edit h ss (Ok t) v = first_stays h (printed t) ss v
first_edit h ss (Err e) v = refl

first_group : (h : History) (r : Together) → IsHistory h → first_text (result_unwrap_or (grouped_by h r) h) ≡ first_text h
first_group h (Ok p) v = first_stays h (printed p.0) p.1 v
first_group h (Err q) v = refl

first_undo : (h : History) (t : Bool) → first_text (result_unwrap_or (if t then Ok (record h { place = h.place - 1 }) else Err NothingToUndo) h) ≡ first_text h
first_undo h true = refl
first_undo h false = refl

first_redo : (h : History) (t : Bool) → first_text (result_unwrap_or (if t then Ok (record h { place = h.place + 1 }) else Err NothingToRedo) h) ≡ first_text h
first_redo h true = refl
first_redo h false = refl

first_after : (o : Order) (h : History) → IsHistory h → first_text (after o h) ≡ first_text h
first_after (Do e) h v = first_edit h (splices_of e (tree (text_now h))) (edited e (tree (text_now h))) v
first_after (Group es) h v = first_group h (together es (tree (text_now h))) v
first_after Undo h v = first_undo h (nat_lt 0 h.place)
first_after Redo h v = first_redo h (nat_lt h.place (length h.steps))

first_of_all : (orders : List Order) (h : History) → IsHistory h → first_text (after_all orders h) ≡ first_text h
first_of_all [] h v = refl
first_of_all (o ∷ orders) h v = first_of_all orders (after o h) (stays_after o h v) ∙ first_after o h v

pub first_texts_stay_lem : FirstTextsStay
first_texts_stay_lem h orders v = first_of_all orders h v

-- ---- edits in turn

-- they give a document and splices, which are done after those before
record InTurn (es : List PlainEdit) (h done : History) : Type 0 where
  pub splices : List Splice
  pub made : together es (tree (text_now h)) ≡ Ok (tree (text_now done), splices)
  pub more : done_splices done ≡ done_splices h ++ splices

-- one edit before others
turn : (e : PlainEdit) (es : List PlainEdit) (h done : History) (r : Result Document Refusal) → edited e (tree (text_now h)) ≡ r → IsHistory h
    → ((g : History) → IsHistory g → made_in_turn es g ≡ Some done → InTurn es g done)
    → option_and_then (made_in_turn es) (result_ok (edited_by h (splices_of e (tree (text_now h))) r)) ≡ Some done → InTurn (e ∷ es) h done
turn e es h done (Err x) is v others all = absurd (let none : ◌≡◌ {A = Option History} None (Some done) = all in cc)
turn e es h done (Ok t) is v others all =
    let ss = splices_of e (tree (text_now h)) in
    let next = with_step h (printed t) ss in
    let later = others next (stays_step h (printed t) ss v (splices_lead_lem e (text_now h) t is)) all in
    let stands : tree (text_now next) ≡ t = ap tree (text_after h (printed t) ss v) ∙ edits_read_back_lem e (text_now h) t is in
    record {
      splices = ss ++ later.splices;
      made = ap (made_on ss (together es)) is ∙ (ap (λ d. following 1 ss (together es d)) (sym stands) ∙ ap (following 1 ss) later.made);
      more = later.more ∙ (ap (λ xs. xs ++ later.splices) (done_more h (printed t) ss v) ∙ append_assoc (done_splices h) ss later.splices);
    }

in_turn : (es : List PlainEdit) (h done : History) → IsHistory h → made_in_turn es h ≡ Some done → InTurn es h done
in_turn [] h done v all =
    let same : h ≡ done = cc in
    record { splices = []; made = ap (λ g. Ok (tree (text_now g), [])) same; more = sym (append-nil (done_splices h) ∙ ap done_splices same) }
in_turn (e ∷ es) h done v all = turn e es h done (edited e (tree (text_now h))) refl v (λ g w a. in_turn es g done w a) all

pub in_turn_lem : EditsInTurnAreGroups
in_turn_lem es h done all =
    let begun = started (text_now h) in
    let t = in_turn es begun done (texts_start_lem (text_now h)).0 all in
    ap (grouped_by h) t.made ∙ (ap (λ x. Ok (with_step h x t.splices)) (text_kept (text_now done)) ∙ ap (λ ss. Ok (with_step h (text_now done) ss)) (sym t.more))
