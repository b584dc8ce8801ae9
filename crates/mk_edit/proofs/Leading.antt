-- The splices of an accepted edit lead from text to text, so histories stay histories.
use Rattle.std.proofs.Common.{◌≡◌, ◌+◌, ◌-◌, ◌≤◌, ◌++◌, ℕ, suc, zero, Bool, true, false, nat_lt, if◌then◌else◌, Result, Ok, Err, List, [], ◌∷◌, refl, ap, subst, ◌∙◌, length, take, get_or, arith, length-append}
use Rattle.std.proofs.lemmas.Bool.{ltb-true}
use Rattle.std.proofs.lemmas.List.{length-take-le}
use Rattle.mk_tree.specs.Documents.{Document, tree, printed}
use Rattle.mk_decide.specs.Edits.{PlainEdit, Order, Do, Group, Undo, Redo, Refusal, NothingToUndo, NothingToRedo}
use Rattle.mk_decide.specs.Outcomes.{edited}
use Rattle.mk_decide.specs.EditSplices.{splices_of}
use Rattle.mk_splice.specs.Splices.{Splice, LeadsTo}
use Rattle.mk_edit.specs.Groups.{Together, together}
use Rattle.mk_edit.specs.History.{History}
use Rattle.mk_edit.specs.Histories.{AreLinked, IsHistory, text_now, with_step, edited_by, grouped_by, after_all}
use Rattle.mk_edit.proofs.HistoryNames.{after}
use Rattle.std.specs.Result.{result_unwrap_or}
use Rattle.mk_edit.specs.Laws.{HistoriesStay, TextsStart}
use Rattle.mk_decide.proofs.EditsLead.{splices_lead_lem}
use Rattle.mk_edit.proofs.GroupFacts.{LeadsFrom, together_leads}

-- a step that leads from the text at a place to a new one
linked_more : (first : List ℕ) (others : List (List ℕ)) (steps : List (List Splice)) (n : ℕ) (y : List ℕ) (s : List Splice) → AreLinked first others steps → n ≤ length steps → LeadsTo s (get_or (first ∷ others) n []) y → AreLinked first (take n others ++ y ∷ []) (take n steps ++ s ∷ [])
linked_more first others steps zero y s h l p = (p, tt)
linked_more first [] [] (suc n) y s h l p = absurd (omega (arith, l))
linked_more first [] (r ∷ rs) (suc n) y s h l p = absurd h
linked_more first (z ∷ zs) [] (suc n) y s h l p = absurd h
linked_more first (z ∷ zs) (r ∷ rs) (suc n) y s h l p = (h.0, linked_more z zs rs n y s h.1 (omega (arith, l)) p)

more_place : (n : ℕ) → n + 1 ≡ suc n
more_place n = omega arith

pub stays_step : (h : History) (y : List ℕ) (s : List Splice) → IsHistory h → LeadsTo s (text_now h) y → IsHistory (with_step h y s)
stays_step h y s b p = record {
  first = b.first;
  others = take h.place b.others ++ y ∷ [];
  texts = ap (λ ts. take (h.place + 1) ts ++ y ∷ []) b.texts ∙ ap (λ n. take n (b.first ∷ b.others) ++ y ∷ []) (more_place h.place);
  linked = linked_more b.first b.others h.steps h.place y s b.linked b.within (subst (λ ts. LeadsTo s (get_or ts h.place []) y) b.texts p);
  within = omega (arith, length-append (take h.place h.steps) (s ∷ []), length-take-le h.place h.steps b.within);
}

stays_edit : (h : History) (e : PlainEdit) (r : Result Document Refusal) → edited e (tree (text_now h)) ≡ r → IsHistory h → IsHistory (result_unwrap_or (edited_by h (splices_of e (tree (text_now h))) r) h)
stays_edit h e (Ok t) o b = stays_step h (printed t) (splices_of e (tree (text_now h))) b (splices_lead_lem e (text_now h) t o)
stays_edit h e (Err f) o b = b

stays_group : (h : History) (r : Together) → LeadsFrom (text_now h) r → IsHistory h → IsHistory (result_unwrap_or (grouped_by h r) h)
stays_group h (Ok p) l b = stays_step h (printed p.0) p.1 b l.0
stays_group h (Err q) l b = b

stays_undo : (h : History) (t : Bool) → IsHistory h → IsHistory (result_unwrap_or (if t then Ok (record h { place = h.place - 1 }) else Err NothingToUndo) h)
stays_undo h true b = record { first = b.first; others = b.others; texts = b.texts; linked = b.linked; within = omega (arith, b.within) }
stays_undo h false b = b

stays_redo : (h : History) (t : Bool) → nat_lt h.place (length h.steps) ≡ t → IsHistory h → IsHistory (result_unwrap_or (if t then Ok (record h { place = h.place + 1 }) else Err NothingToRedo) h)
stays_redo h true e b = record { first = b.first; others = b.others; texts = b.texts; linked = b.linked; within = omega (arith, ltb-true h.place (length h.steps) e) }
stays_redo h false e b = b

pub stays_after : (o : Order) (h : History) → IsHistory h → IsHistory (after o h)
stays_after (Do e) h b = stays_edit h e (edited e (tree (text_now h))) refl b
stays_after (Group es) h b = stays_group h (together es (tree (text_now h))) (together_leads es (text_now h)) b
stays_after Undo h b = stays_undo h (nat_lt 0 h.place) b
stays_after Redo h b = stays_redo h (nat_lt h.place (length h.steps)) refl b

stays_all : (orders : List Order) (h : History) → IsHistory h → IsHistory (after_all orders h)
stays_all [] h b = b
stays_all (o ∷ orders) h b = stays_all orders (after o h) (stays_after o h b)

pub histories_stay_lem : HistoriesStay
histories_stay_lem h orders b = stays_all orders h b

pub texts_start_lem : TextsStart
texts_start_lem text = (record { first = text; others = []; texts = refl; linked = tt; within = omega arith }, refl)
