-- Undoing all that is done, and redoing all of it.
use Rattle.std.proofs.Common.{option_and_then, ◌≡◌, ◌+◌, ◌-◌, ◌≤◌, ◌<◌, ◌++◌, ℕ, suc, zero, Bool, true, false, nat_lt, if◌then◌else◌, Some, Result, Ok, Err, List, [], ◌∷◌, refl, ap, sym, ◌∙◌, length, take, get_or, arith, length-append}
use Rattle.std.proofs.lemmas.Bool.{lt-ltb, ltb-true}
use Rattle.std.proofs.lemmas.List.{length-take-le}
use Rattle.mk_tree.specs.Documents.{Document, tree, printed}
use Rattle.mk_decide.specs.Edits.{Order, Do, Group, Undo, Redo, Refusal, NothingToUndo, NothingToRedo}
use Rattle.mk_decide.specs.Outcomes.{edited}
use Rattle.mk_decide.specs.EditSplices.{splices_of}
use Rattle.mk_edit.specs.Groups.{Together, together}
use Rattle.mk_splice.specs.Splices.{Splice}
use Rattle.mk_edit.specs.History.{History}
use Rattle.mk_edit.specs.Histories.{AreLinked, IsHistory, first_text, text_now, with_step, edited_by, grouped_by, step, after_all, repeated}
use Rattle.mk_edit.proofs.HistoryNames.{after}
use Rattle.std.specs.Result.{result_ok, result_unwrap_or}
use Rattle.mk_edit.specs.Laws.{Restores, UndoingRestores}

-- a history at another place
abbrev pub at : List (List ℕ) → List (List Splice) → ℕ → History
at texts steps place = record { texts = texts; steps = steps; place = place }

less : (n : ℕ) → suc n - 1 ≡ n
less n = omega arith

undo_one : (texts : List (List ℕ)) (steps : List (List Splice)) (n : ℕ) → step Undo (at texts steps (suc n)) ≡ Ok (at texts steps n)
undo_one texts steps n = rw (lt-ltb 0 (suc n) (omega arith)) (ap (λ p. Ok (at texts steps p)) (less n))

pub undo_all : (texts : List (List ℕ)) (steps : List (List Splice)) (n : ℕ) → repeated n Undo (at texts steps n) ≡ Some (at texts steps 0)
undo_all texts steps zero = refl
undo_all texts steps (suc n) = ap (λ r. option_and_then (repeated n Undo) (result_ok r)) (undo_one texts steps n) ∙ undo_all texts steps n

redo_one : (texts : List (List ℕ)) (steps : List (List Splice)) (k : ℕ) → k < length steps → step Redo (at texts steps k) ≡ Ok (at texts steps (k + 1))
redo_one texts steps k h = rw (lt-ltb k (length steps) h) refl

same_place : (k m : ℕ) → m ≡ 0 + k → k ≡ m
same_place k m e = omega (arith, e)

pub redo_all : (texts : List (List ℕ)) (steps : List (List Splice)) (n k m : ℕ) → m ≡ n + k → m ≤ length steps → repeated n Redo (at texts steps k) ≡ Some (at texts steps m)
redo_all texts steps zero k m e h = ap (λ p. Some (at texts steps p)) (same_place k m e)
redo_all texts steps (suc n) k m e h = ap (λ r. option_and_then (repeated n Redo) (result_ok r)) (redo_one texts steps k (omega (arith, e, h))) ∙ redo_all texts steps n (k + 1) m (omega (arith, e)) h

-- what every history keeps that begins with a text
pub record Begun (text : List ℕ) (h : History) : Type 0 where
  pub others : List (List ℕ)
  pub texts : h.texts ≡ text ∷ others
  pub size : length others ≡ length h.steps
  pub within : h.place ≤ length h.steps

more_place : (n : ℕ) → n + 1 ≡ suc n
more_place n = omega arith

begun_step : (text : List ℕ) (h : History) (y : List ℕ) (s : List Splice) → Begun text h → Begun text (with_step h y s)
begun_step text h y s b = record {
  others = take h.place b.others ++ y ∷ [];
  texts = ap (λ ts. take (h.place + 1) ts ++ y ∷ []) b.texts ∙ ap (λ n. take n (text ∷ b.others) ++ y ∷ []) (more_place h.place);
  size = omega (arith, length-append (take h.place b.others) (y ∷ []), length-append (take h.place h.steps) (s ∷ []), length-take-le h.place b.others (omega (arith, b.size, b.within)), length-take-le h.place h.steps b.within);
  within = omega (arith, length-append (take h.place h.steps) (s ∷ []), length-take-le h.place h.steps b.within);
}

begun_edit : (text : List ℕ) (h : History) (s : List Splice) (r : Result Document Refusal) → Begun text h → Begun text (result_unwrap_or (edited_by h s r) h)
begun_edit text h s (Ok t) b = begun_step text h (printed t) s b
begun_edit text h s (Err e) b = b

begun_group : (text : List ℕ) (h : History) (r : Together) → Begun text h → Begun text (result_unwrap_or (grouped_by h r) h)
begun_group text h (Ok p) b = begun_step text h (printed p.0) p.1 b
begun_group text h (Err q) b = b

begun_undo : (text : List ℕ) (h : History) (t : Bool) → Begun text h → Begun text (result_unwrap_or (if t then Ok (record h { place = h.place - 1 }) else Err NothingToUndo) h)
begun_undo text h true b = record { others = b.others; texts = b.texts; size = b.size; within = omega (arith, b.within) }
begun_undo text h false b = b

begun_redo : (text : List ℕ) (h : History) (t : Bool) → nat_lt h.place (length h.steps) ≡ t → Begun text h → Begun text (result_unwrap_or (if t then Ok (record h { place = h.place + 1 }) else Err NothingToRedo) h)
begun_redo text h true e b = record { others = b.others; texts = b.texts; size = b.size; within = omega (arith, ltb-true h.place (length h.steps) e) }
begun_redo text h false e b = b

begun_after : (text : List ℕ) (o : Order) (h : History) → Begun text h → Begun text (after o h)
begun_after text (Do e) h b = begun_edit text h (splices_of e (tree (text_now h))) (edited e (tree (text_now h))) b
begun_after text (Group es) h b = begun_group text h (together es (tree (text_now h))) b
begun_after text Undo h b = begun_undo text h (nat_lt 0 h.place) b
begun_after text Redo h b = begun_redo text h (nat_lt h.place (length h.steps)) refl b

begun_all : (text : List ℕ) (orders : List Order) (h : History) → Begun text h → Begun text (after_all orders h)
begun_all text [] h b = b
begun_all text (o ∷ orders) h b = begun_all text orders (after o h) (begun_after text o h b)

begun_restores : (text : List ℕ) (h : History) → Begun text h → Restores text h
begun_restores text h b = record {
  first = at h.texts h.steps 0;
  undone = undo_all h.texts h.steps h.place;
  is_first = ap (λ ts. get_or ts 0 []) b.texts;
  redone = redo_all h.texts h.steps h.place 0 h.place (omega arith) b.within;
}

-- as many steps lead on as there are other texts
linked_size : (x : List ℕ) (ys : List (List ℕ)) (ss : List (List Splice)) → AreLinked x ys ss → length ys ≡ length ss
linked_size x [] [] h = refl
linked_size x [] (s ∷ ss) h = absurd h
linked_size x (y ∷ ys) [] h = absurd h
linked_size x (y ∷ ys) (s ∷ ss) h = ap (λ n. suc n) (linked_size y ys ss h.1)

begun : (h : History) → IsHistory h → Begun (first_text h) h
begun h b = record {
  others = b.others;
  texts = b.texts ∙ ap (λ ts. get_or ts 0 [] ∷ b.others) (sym b.texts);
  size = linked_size b.first b.others h.steps b.linked;
  within = b.within;
}

pub undoing_restores_lem : UndoingRestores
undoing_restores_lem h orders b = begun_restores (first_text h) (after_all orders h) (begun_all (first_text h) orders h (begun h b))
