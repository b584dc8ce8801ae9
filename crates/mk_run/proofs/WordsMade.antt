-- Words made one after another, as edits made one after another.
use Rattle.std.proofs.Common.{◌≡◌, ◌+◌, ◌++◌, ◌<◌, ◌≤◌, ℕ, zero, suc, true, List, [], ◌∷◌, Option, None, Some, IfSome, Result, Ok, Err, length, map, get_or, nat_lt, slice_index_or, refl, sym, ap, ◌∙◌, subst, append_assoc, append-nil, arith, IfOk}
use Rattle.std.proofs.lemmas.Bool.{ltb-true}
use Rattle.std.specs.Option.{option_map}
use Rattle.mk_line.specs.declared.cutting.Ending.{Ending}
use Rattle.mk_line.specs.declared.cutting.Ending.TheVariants.{Crlf, Lf, Missing}
use Rattle.mk_line.specs.Lines.{TextLine, closed, eol_of}
use Rattle.mk_tree.specs.Documents.{Document, tree, printed}
use Rattle.mk_splice.specs.Splices.{Splice}
use Rattle.mk_decide.specs.Answers.{IsRefusedBy}
use Rattle.mk_decide.specs.Edits.{PlainEdit, path_of, Refusal, Do, Group}
use Rattle.mk_decide.specs.EditSplices.{splices_of}
use Rattle.mk_decide.specs.Outcomes.{edited}
use Rattle.mk_edit.specs.Groups.{Together, following, made_on, together}
use Rattle.mk_edit.specs.History.{History}
use Rattle.mk_edit.specs.Histories.{IsHistory, edited_by, grouped_by, step, text_now, with_step}
use Rattle.std.specs.Result.{result_unwrap_or}
use Rattle.mk_edit.proofs.GroupFacts.{groups_read_back_lem}
use Rattle.mk_edit.proofs.GroupsKept.{text_after}
use Rattle.mk_edit.proofs.Leading.{histories_stay_lem}
use Rattle.mk_expand.specs.declared.errors.WordError.{WordError}
use Rattle.mk_expand.specs.declared.errors.WordError.TheVariants as error
use Rattle.mk_expand.specs.Meanings.{Meaning, WordFault}
use Rattle.mk_expand.specs.Views.{IsFault}
use Rattle.mk_expand.specs.Words.{meaning_of}
use Rattle.mk_script.specs.Script.{ScriptWord}
use Rattle.mk_expand.specs.Pieces.{Pieces}
use Rattle.std.specs.Global.{Vec}
use Rattle.mk_run.specs.Faults.{fault_line, fault_name, named_line}
use Rattle.mk_run.specs.Runs.{refusal_line, report_of}
use Rattle.mk_run.specs.WordSteps.{StepRefusal, EditRefused, WordRefused, Made, edits_made, made_by, after_splices, then_make, words_made, stepped}
use Rattle.mk_run.specs.inner.Making.{MadeSo, fault_in, path_in}

-- ---- edits after edits

after_ok : (ss : List Splice) (r : Together) (p : Document × List Splice) → following 1 ss r ≡ Ok p → (q : Document × List Splice) × (r ≡ Ok q) × (p ≡ (q.0, ss ++ q.1))
after_ok ss (Ok q) p e = (q, refl, let same : p ≡ (q.0, ss ++ q.1) = cc in same)
after_ok ss (Err q) p e = absurd (let bad : ◌≡◌ {A = Together} (Err (1 + q.0, q.1)) (Ok p) = e in cc)

made_append : (ss : List Splice) (es fs : List PlainEdit) (r : Result Document Refusal) (p q : Document × List Splice)
    → ((u : Document) (s : Document × List Splice) → together es u ≡ Ok s → together fs s.0 ≡ Ok q → together (es ++ fs) u ≡ Ok (q.0, s.1 ++ q.1))
    → made_on ss (together es) r ≡ Ok p → together fs p.0 ≡ Ok q → made_on ss (together (es ++ fs)) r ≡ Ok (q.0, p.1 ++ q.1)
made_append ss es fs (Err x) p q ih one two = absurd (let bad : ◌≡◌ {A = Together} (Err (0, x)) (Ok p) = one in cc)
made_append ss es fs (Ok u) p q ih one two =
    let b = after_ok ss (together es u) p one in
    let next : together fs b.0.0 ≡ Ok q = subst (λ (r : Document × List Splice). together fs r.0 ≡ Ok q) b.2 two in
    ap (following 1 ss) (ih u b.0 b.1 next) ∙ (ap (λ l. Ok (q.0, l)) (sym (append_assoc ss b.0.1 q.1)) ∙ ap (λ (r : Document × List Splice). Ok (q.0, r.1 ++ q.1)) (sym b.2))

-- edits that are made after others are made with them
pub together_append : (es fs : List PlainEdit) (t : Document) (p q : Document × List Splice) → together es t ≡ Ok p → together fs p.0 ≡ Ok q → together (es ++ fs) t ≡ Ok (q.0, p.1 ++ q.1)
together_append [] fs t p q one two =
    let same : (t, []) ≡ p = cc in
    subst (λ (r : Document × List Splice). together fs r.0 ≡ Ok q → together fs t ≡ Ok (q.0, r.1 ++ q.1)) same (λ h. h) two
together_append (e ∷ es) fs t p q one two = made_append (splices_of e t) es fs (edited e t) p q (λ u s. together_append es fs u s q) one two

-- ---- words after words

pub after_after : (ss rs : List Splice) (m : Made) → after_splices ss (after_splices rs m) ≡ after_splices (ss ++ rs) m
after_after ss rs (Ok p) = ap (λ qs. Ok (p.0, qs)) (sym (append_assoc ss rs p.1))
after_after ss rs (Err r) = refl

-- nothing is left out of what was made last
pub stepped_nil : (h : History) (d : Document) (ss : List Splice) → stepped h (Ok (d, ss ++ [])) ≡ Ok (with_step h (printed d) ss)
stepped_nil h d ss = ap (λ rs. Ok (with_step h (printed d) rs)) (append-nil ss)

-- a word is made
pub word_done : (pieces : Pieces) (eol : Ending) (number : ℕ) (word : ScriptWord) (ws : List (ℕ × ScriptWord)) (t : Document) (es : List PlainEdit) (d : Document) (ss : List Splice)
    → meaning_of pieces eol t word ≡ Ok es → together es t ≡ Ok (d, ss) → words_made pieces eol ((number, word) ∷ ws) t ≡ after_splices ss (words_made pieces eol ws d)
word_done pieces eol number word ws t es d ss means made =
    ap (λ m. then_make (made_by number t m) (words_made pieces eol ws)) means ∙ ap (λ r. then_make (edits_made number es r) (words_made pieces eol ws)) made

-- a word is refused
pub word_refused : (pieces : Pieces) (eol : Ending) (number : ℕ) (word : ScriptWord) (ws : List (ℕ × ScriptWord)) (t : Document) (r : StepRefusal)
    → made_by number t (meaning_of pieces eol t word) ≡ Err r → words_made pieces eol ((number, word) ∷ ws) t ≡ Err r
word_refused pieces eol number word ws t r e = ap (λ m. then_make m (words_made pieces eol ws)) e

-- ---- a history after edits

-- edits that were made leave a history, and its text is read as their document
pub left_read : (es : List PlainEdit) (old new : History) → IsHistory old → (m : MadeSo es old new) → tree (text_now new) ≡ m.document
left_read es old new v m =
    ap (λ h. tree (text_now h)) m.left
    ∙ (ap tree (text_after old (printed m.document) m.splices v) ∙ groups_read_back_lem es (text_now old) m.document m.splices m.made)

pub left_valid : (es : List PlainEdit) (old new : History) → IsHistory old → MadeSo es old new → IsHistory new
left_valid es old new v m =
    let done : step (Group es) old ≡ Ok new = ap (grouped_by old) m.made ∙ ap (λ h. Ok h) (sym m.left) in
    subst IsHistory (ap (λ (r : Result History Refusal). result_unwrap_or r old) done) (histories_stay_lem old (Group es ∷ []) v)

-- ---- edits of a word

one_at : (e : PlainEdit) (old new : History) (r : Result Document Refusal) → edited e (tree (text_now old)) ≡ r → edited_by old (splices_of e (tree (text_now old))) r ≡ Ok new → MadeSo (e ∷ []) old new
one_at e old new (Err x) o d = absurd (let bad : ◌≡◌ {A = Result History Refusal} (Err x) (Ok new) = d in cc)
one_at e old new (Ok u) o d =
    let ss = splices_of e (tree (text_now old)) in
    let left : new ≡ with_step old (printed u) ss = cc in
    record {
      document = u;
      splices = ss ++ [];
      made = ap (made_on ss (together [])) o;
      left = left ∙ ap (with_step old (printed u)) (sym (append-nil ss));
    }

-- one edit that was made alone
pub one_made : (es : List PlainEdit) (e : PlainEdit) (old new : History) → es ≡ e ∷ [] → step (Do e) old ≡ Ok new → MadeSo es old new
one_made es e old new one d = subst (λ l. MadeSo l old new) (sym one) (one_at e old new (edited e (tree (text_now old))) refl d)

one_refused_at : (e : PlainEdit) (old : History) (r : Result Document Refusal) (reason : Refusal) → edited_by old (splices_of e (tree (text_now old))) r ≡ Err reason
    → made_on (splices_of e (tree (text_now old))) (together []) r ≡ Err (0, reason)
one_refused_at e old (Ok u) reason d = absurd (let bad : ◌≡◌ {A = Result History Refusal} (Ok (with_step old (printed u) (splices_of e (tree (text_now old))))) (Err reason) = d in cc)
one_refused_at e old (Err x) reason d = let same : x ≡ reason = cc in ap (λ y. Err (0, y)) same

-- one edit that was refused alone
pub one_refused : (es : List PlainEdit) (e : PlainEdit) (old : History) (o : Option Refusal) → es ≡ e ∷ [] → IsRefusedBy o (step (Do e) old) → IfSome o (λ reason. together es (tree (text_now old)) ≡ Err (0, reason))
one_refused es e old None one d = tt
one_refused es e old (Some reason) one d = ap (λ l. together l (tree (text_now old))) one ∙ one_refused_at e old (edited e (tree (text_now old))) reason d

-- the edit of a list of one
pub only_edit : {X : Type 0} (f : X → PlainEdit) (xs : List X) (x : X) → 1 ≤ length xs → length xs < 2 → x ≡ get_or xs 0 x → map f xs ≡ f x ∷ []
only_edit f [] x some few found = absurd (omega (arith, some))
only_edit f (y ∷ []) x some few found = ap (λ z. f z ∷ []) (sym found)
only_edit f (y ∷ z ∷ zs) x some few found = absurd (omega (arith, few))

path_in_list : {X : Type 0} (f : X → PlainEdit) (xs : List X) (index : ℕ) (x : X) → index < length xs → x ≡ get_or xs index x → path_of (f x) ≡ slice_index_or (map path_of (map f xs)) index []
path_in_list f [] index x less found = absurd (omega (arith, less))
path_in_list f (y ∷ ys) zero x less found = ap (λ z. path_of (f z)) found
path_in_list f (y ∷ ys) (suc index) x less found = path_in_list f ys index x (omega (arith, less)) found

-- the path of an edit of a list
pub path_found : {X : Type 0} (f : X → PlainEdit) (xs : List X) (index : ℕ) (x : X) → true ≡ nat_lt index (length xs) → x ≡ get_or xs index x → path_of (f x) ≡ path_in (map f xs) index
path_found f xs index x less found = path_in_list f xs index x (ltb-true index (length xs) (sym less)) found

-- a refused edit is reported at the line of its word
pub edit_told : (o : Option Refusal) (number : ℕ) (path : List ℕ) (t : Document) (m : Meaning) (es : List PlainEdit) (index : ℕ) → m ≡ Ok es → path ≡ path_in es index
    → IfSome o (λ reason. together es t ≡ Err (index, reason)) → IfSome (option_map (λ r. EditRefused number path r) o) (λ r. made_by number t m ≡ Err r)
edit_told None number path t m es index means at told = tt
edit_told (Some reason) number path t m es index means at told = ap (made_by number t) means ∙ (ap (edits_made number es) told ∙ ap (λ p. Err (EditRefused number p reason)) (sym at))

ends_by : (ending : Ending) → closed ending ≡ Missing → ⊥
ends_by Crlf e = cc
ends_by Lf e = cc
ends_by Missing e = cc

-- made lines have an ending
pub ends_so : (ls : List TextLine) → eol_of ls ≡ Missing → ⊥
ends_so [] e = cc
ends_so (l ∷ ls) e = ends_by l.ending e

-- the reason of a refused step is what is reported
pub told_reason : (P : List ℕ → Type 0) (o : Option StepRefusal) (r : Result History StepRefusal) → IfSome o (λ x. r ≡ Err x) → IfSome o (λ x. P (refusal_line x)) → (o ≡ None → P (report_of r)) → P (report_of r)
told_reason P None r refused line unknown = unknown refl
told_reason P (Some x) r refused line unknown = subst P (sym (ap report_of refused)) line

-- a word that stands for no edits is refused with its fault
pub fault_refused : (number : ℕ) (t : Document) (fault : WordError) (meaning : Meaning) → IsFault fault meaning → IfSome (option_map (λ f. WordRefused number f) (fault_in fault)) (λ r. made_by number t meaning ≡ Err r)
fault_refused number t error.UnknownEncoding meaning h = ap (made_by number t) h
fault_refused number t error.BadBase64 meaning h = ap (made_by number t) h
fault_refused number t error.BadType meaning h = ap (made_by number t) h
fault_refused number t error.BadName meaning h = ap (made_by number t) h
fault_refused number t error.BadCharset meaning h = ap (made_by number t) h
fault_refused number t error.BinaryContent meaning h = ap (made_by number t) h
fault_refused number t error.Memory meaning h = tt

some_name : (m n : List ℕ) → ◌≡◌ {A = Option (List ℕ)} (Some m) (Some n) → m ≡ n
some_name m n e = cc

-- the line of a fault that has a name
pub line_named : {E : Type 0} (number : ℕ) (o : Option WordFault) (name : List ℕ) (line : Result (Vec ℕ) E) → ◌≡◌ {A = Option (List ℕ)} (Some name) (option_map fault_name o) → IfOk line (λ l. l.items ≡ named_line number name)
    → IfOk line (λ l. IfSome o (λ fault. l.items ≡ fault_line number fault))
line_named number o name (Err e) named is = tt
line_named number None name (Ok l) named is = tt
line_named number (Some fault) name (Ok l) named is = is ∙ ap (named_line number) (some_name name (fault_name fault) named)
