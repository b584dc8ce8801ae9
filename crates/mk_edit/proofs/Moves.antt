-- Steps in memory: what a session's fields are when it goes back, forth, or takes one more.
use Rattle.std.proofs.Common.{IsOk, ◌≡◌, ◌+◌, ◌-◌, ◌≤◌, ◌<◌, ◌++◌, ℕ, suc, zero, Option, None, Some, Result, Ok, Err, List, [], ◌∷◌, refl, ap, sym, ◌∙◌, subst, length, take, drop, map, get_or, arith}
use Rattle.std.proofs.lemmas.List.{length-map, map-append}
use Rattle.std.proofs.lemmas.Bool.{lt-ltb}
use Rattle.std.specs.Global.{Vec}
use Rattle.mk_splice.specs.declared.splicing.Splice.{Splice as SpliceIn}
use Rattle.mk_tree.specs.Documents.{Document, tree, printed}
use Rattle.mk_decide.specs.Answers.{IsRefusedBy}
use Rattle.mk_decide.specs.Counts.{edit_lines}
use Rattle.mk_decide.specs.LocalAnswers.{IsDecided, PlainSplice}
use Rattle.mk_decide.specs.Edits.{PlainEdit, Refusal, Do, Undo, Redo}
use Rattle.mk_decide.specs.EditSplices.{splices_of}
use Rattle.mk_decide.specs.Outcomes.{edited}
use Rattle.mk_splice.specs.Splices.{Splice, Stands, back_step, forth_step, GoesBack, GoesForth, spliced}
use Rattle.mk_edit.specs.History.{History, history_of}
use Rattle.mk_edit.specs.Histories.{step, edited_by, text_now, with_step}
use Rattle.mk_splice.specs.Fits.{Fit}
use Rattle.mk_splice.specs.Views.{splice_of, steps_of}
use Rattle.mk_splice.proofs.Bytes.{copied_stands}
use Rattle.mk_edit.proofs.Steps.{Moved, Stepped, undo_can, undo_is, redo_can, redo_is, edit_is, fit_text}

-- the step at a place
at_place : (vs : List (Vec SpliceIn)) (n : ℕ) (v : Vec SpliceIn) → get_or (steps_of vs) n (map splice_of v.items) ≡ map splice_of (get_or vs n v).items
at_place [] n v = refl
at_place (w ∷ vs) zero v = refl
at_place (w ∷ vs) (suc n) v = at_place vs n v

step_at : (vs : List (Vec SpliceIn)) (n : ℕ) (v : Vec SpliceIn) (s : List SpliceIn) → v ≡ get_or vs n v → s ≡ v.items → map splice_of s ≡ get_or (steps_of vs) n (map splice_of s)
step_at vs n v s e q =
    let own : map splice_of s ≡ map splice_of v.items = ap (map splice_of) q in
    own ∙ (ap (λ w. map splice_of w.items) e ∙ (sym (at_place vs n v) ∙ ap (get_or (steps_of vs) n) (sym own)))

some_less : (n : ℕ) → (n ≡ 0 → ⊥) → n ≡ n - 1 + 1
some_less n h = omega (arith, h)

pub undo_ready : (x : List ℕ) (vs : List (Vec SpliceIn)) (n : ℕ) (v : Vec SpliceIn) (s : List SpliceIn) → Fit x (steps_of vs) n → (n ≡ 0 → ⊥) → v ≡ get_or vs (n - 1) v → s ≡ v.items → GoesBack (map splice_of s) x
undo_ready x vs n v s f h e q = undo_can x (steps_of vs) n (n - 1) (map splice_of s) f (some_less n h) (step_at vs (n - 1) v s e q)

pub undo_moves : (x : List ℕ) (vs : List (Vec SpliceIn)) (n : ℕ) (v : Vec SpliceIn) (s : List SpliceIn) (y : List ℕ) → Fit x (steps_of vs) n → (n ≡ 0 → ⊥) → v ≡ get_or vs (n - 1) v → s ≡ v.items → y ≡ back_step (map splice_of s) x → Moved x (steps_of vs) n (n - 1) y
undo_moves x vs n v s y f h e q p = undo_is x (steps_of vs) n (n - 1) (map splice_of s) y f (some_less n h) (step_at vs (n - 1) v s e q) p

pub undo_steps : (h : History) (x y : List ℕ) (ss : List (List Splice)) (n : ℕ) → history_of x ss n ≡ h → (n ≡ 0 → ⊥) → Moved x ss n (n - 1) y → step Undo h ≡ Ok (history_of y ss (n - 1))
undo_steps h x y ss n e o m = ap (step Undo) (sym e) ∙ (rw (lt-ltb 0 n (omega (arith, o))) (ap (λ g. Ok g) (sym m.history)))

below : (n m : ℕ) → n ≤ m → (n ≡ m → ⊥) → n < m
below n m h o = omega (arith, h, o)

size_of : (vs : List (Vec SpliceIn)) → length (steps_of vs) ≡ length vs
size_of vs = length-map vs (λ v. map splice_of v.items)

pub redo_less : (x : List ℕ) (vs : List (Vec SpliceIn)) (n size : ℕ) → Fit x (steps_of vs) n → size ≡ length vs → (n ≡ size → ⊥) → n < length (steps_of vs)
redo_less x vs n size f e o = omega (arith, f.within, size_of vs, below n size (omega (arith, f.within, size_of vs, e)) o, e)

pub redo_ready : (x : List ℕ) (vs : List (Vec SpliceIn)) (n : ℕ) (v : Vec SpliceIn) (s : List SpliceIn) → Fit x (steps_of vs) n → n < length (steps_of vs) → v ≡ get_or vs n v → s ≡ v.items → GoesForth (map splice_of s) x
redo_ready x vs n v s f h e q = redo_can x (steps_of vs) n (map splice_of s) f h (step_at vs n v s e q)

pub redo_moves : (x : List ℕ) (vs : List (Vec SpliceIn)) (n : ℕ) (v : Vec SpliceIn) (s : List SpliceIn) (y : List ℕ) → Fit x (steps_of vs) n → n < length (steps_of vs) → v ≡ get_or vs n v → s ≡ v.items → y ≡ forth_step (map splice_of s) x → Moved x (steps_of vs) n (n + 1) y
redo_moves x vs n v s y f h e q p = redo_is x (steps_of vs) n (map splice_of s) y f h (step_at vs n v s e q) p

pub redo_steps : (h : History) (x y : List ℕ) (ss : List (List Splice)) (n : ℕ) → history_of x ss n ≡ h → n < length ss → Moved x ss n (n + 1) y → step Redo h ≡ Ok (history_of y ss (n + 1))
redo_steps h x y ss n e o m = ap (step Redo) (sym e) ∙ (rw (lt-ltb n (length ss) o) (ap (λ g. Ok g) (sym m.history)))

-- the steps with one more in the place of what was undone
taken_steps : (vs : List (Vec SpliceIn)) (n : ℕ) → steps_of (take n vs) ≡ take n (steps_of vs)
taken_steps [] zero = refl
taken_steps [] (suc n) = refl
taken_steps (v ∷ vs) zero = refl
taken_steps (v ∷ vs) (suc n) = ap (λ ss. map splice_of v.items ∷ ss) (taken_steps vs n)

pub more_steps : (vs ws : List (Vec SpliceIn)) (v : Vec SpliceIn) (n : ℕ) → ws ≡ take n vs ++ v ∷ [] → steps_of ws ≡ take n (steps_of vs) ++ map splice_of v.items ∷ []
more_steps vs ws v n e =
    ap steps_of e ∙ (map-append (λ w. map splice_of w.items) (take n vs) (v ∷ []) ∙ ap (λ ss. ss ++ map splice_of v.items ∷ []) (taken_steps vs n))

pub put_moves : (x : List ℕ) (vs ws : List (Vec SpliceIn)) (n place count : ℕ) (v : Vec SpliceIn) (s : SpliceIn) (y new : List ℕ) → Fit x (steps_of vs) n → place + count ≤ length x
    → ws ≡ take n vs ++ v ∷ [] → v.items ≡ s ∷ [] → s.place ≡ place → s.old.items ≡ take count (drop place x) → s.new.items ≡ new → y ≡ spliced place count new x
    → Stepped x (steps_of vs) n (record { place = place; old = take count (drop place x); new = new } ∷ []) y (steps_of ws)
put_moves x vs ws n place count v s y new f h w i p o e q =
    let old : List ℕ = take count (drop place x) in
    let at : Stands place old x × (length old ≡ count) = copied_stands place count x old h refl in
    let made : map splice_of v.items ≡ record { place = place; old = old; new = new } ∷ [] = ap (map splice_of) i ∙ (λ j. record { place = p j; old = o j; new = e j } ∷ []) in
    edit_is x (steps_of vs) n (record { place = place; old = old; new = new } ∷ []) y (steps_of ws) f (at.0, tt)
    (q ∙ ap (λ k. spliced place k new x) (sym at.1))
    (more_steps vs ws v n w ∙ ap (λ ss. take n (steps_of vs) ++ ss ∷ []) made)

-- what a session sees of the text, and of one step more
pub put_text : (h : History) (x : List ℕ) (ss : List (List Splice)) (n : ℕ) → Fit x ss n → history_of x ss n ≡ h → x ≡ text_now h
put_text h x ss n f e = sym (fit_text x ss n f) ∙ ap text_now e

pub put_within : (h : History) (x : List ℕ) (ss : List (List Splice)) (n m : ℕ) → Fit x ss n → history_of x ss n ≡ h → m ≤ length (text_now h) → m ≤ length x
put_within h x ss n m f e l = omega (arith, l, ap length (put_text h x ss n f e))

pub put_steps : (h : History) (x y new : List ℕ) (ss rs : List (List Splice)) (n place count : ℕ) → Fit x ss n → history_of x ss n ≡ h → y ≡ spliced place count new x
    → Stepped x ss n (record { place = place; old = take count (drop place x); new = new } ∷ []) y rs
    → history_of y rs (n + 1) ≡ with_step h (spliced place count new (text_now h)) (record { place = place; old = take count (drop place (text_now h)); new = new } ∷ [])
put_steps h x y new ss rs n place count f e q m =
    m.history
    ∙ (ap (λ z. with_step (history_of x ss n) z (record { place = place; old = take count (drop place x); new = new } ∷ [])) q
    ∙ (ap (λ g. with_step g (spliced place count new x) (record { place = place; old = take count (drop place x); new = new } ∷ [])) e
    ∙ ap (λ z. with_step h (spliced place count new z) (record { place = place; old = take count (drop place z); new = new } ∷ [])) (put_text h x ss n f e)))

-- a refusal of the edit is one of the order
pub step_refused : (e : PlainEdit) (h : History) (x : List ℕ) (o : Option Refusal) → x ≡ text_now h → IsRefusedBy o (edited e (tree x)) → IsRefusedBy o (step (Do e) h)
step_refused e h x None q r = tt
step_refused e h x (Some f) q r = ap (edited_by h (splices_of e (tree (text_now h)))) (ap (λ y. edited e (tree y)) (sym q) ∙ r)

-- an edit that is accepted is a step
pub step_accepted : (e : PlainEdit) (h g : History) (r : PlainSplice) → IsDecided e (text_now h) r
    → g ≡ with_step h (spliced r.place r.count r.new (text_now h)) (record { place = r.place; old = take r.count (drop r.place (text_now h)); new = r.new } ∷ []) → step (Do e) h ≡ Ok g
step_accepted e h g r d m =
    ap (edited_by h (splices_of e (tree (text_now h)))) d.accepted
    ∙ (ap (λ ss. Ok (with_step h (printed d.document) ss)) d.splices
    ∙ (ap (λ y. Ok (with_step h y (record { place = r.place; old = take r.count (drop r.place (text_now h)); new = r.new } ∷ []))) d.printed_so ∙ ap (λ k. Ok k) (sym m)))

-- what a decision says of the answer
pub is_accepted : (r : Result Document Refusal) (t : Document) → r ≡ Ok t → IsOk r
is_accepted (Ok s) t h = refl
is_accepted (Err f) t h = cc

pub refused_at : (e : PlainEdit) (x y : List ℕ) (o : Option Refusal) → x ≡ y → IsRefusedBy o (edited e (tree x)) → IsRefusedBy o (edited e (tree y))
refused_at e x y o q r = subst (λ z. IsRefusedBy o (edited e (tree z))) q r

pub decided_with : (e : PlainEdit) (x y : List ℕ) (place count : ℕ) (new text : List ℕ) → x ≡ y → text ≡ new → IsDecided e y (record { place = place; count = count; new = new }) → IsDecided e x (record { place = place; count = count; new = text })
decided_with e x y place count new text q t h = subst (λ b. IsDecided e x (record { place = place; count = count; new = b })) (sym t) (subst (λ z. IsDecided e z (record { place = place; count = count; new = new })) (sym q) h)

pub lines_same : (e : PlainEdit) (x y : List ℕ) → x ≡ y → edit_lines e (tree x) ≡ edit_lines e (tree y)
lines_same e x y q = ap (λ z. edit_lines e (tree z)) q

pub decided_at : (e : PlainEdit) (x y : List ℕ) (r : PlainSplice) → x ≡ y → IsDecided e x r → IsDecided e y r
decided_at e x y r q d = subst (λ z. IsDecided e z r) q d
