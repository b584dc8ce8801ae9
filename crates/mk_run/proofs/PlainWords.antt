-- Words that stand for one edit each.
use Rattle.std.proofs.Common.{◌≡◌, ◌+◌, ◌++◌, ℕ, suc, true, false, List, [], ◌∷◌, Option, None, Some, IfSome, Result, Ok, Err, map, slice_index_or, option_to_list, refl, sym, ap, ◌∙◌, append_assoc, append-nil, arith}
use Rattle.std.specs.List.{list_all}
use Rattle.std.specs.Option.{option_map}
use Rattle.std.proofs.lemmas.Bool.{and_parts}
use Rattle.mk_line.specs.declared.cutting.Ending.{Ending}
use Rattle.mk_line.specs.Lines.{cut, eol_of}
use Rattle.mk_tree.specs.Documents.{Document, tree}
use Rattle.mk_splice.specs.Splices.{Splice}
use Rattle.mk_decide.specs.Edits.{PlainEdit, AddField, RemoveField, RenameField, SetField, SetBody, SetSection, InsertPart, RemovePart, Wrap, Refusal}
use Rattle.mk_decide.specs.EditSplices.{splices_of}
use Rattle.mk_decide.specs.Outcomes.{edited}
use Rattle.mk_edit.specs.Groups.{Together, following, made_on, together}
use Rattle.mk_edit.specs.History.{History}
use Rattle.mk_edit.specs.Histories.{text_now}
use Rattle.mk_expand.specs.Meanings.{Meaning}
use Rattle.mk_expand.specs.Pieces.{Pieces, piece_lines}
use Rattle.mk_expand.specs.Words.{field_text, is_plain, meaning_of}
use Rattle.mk_script.specs.Script.{ScriptWord, Adds, Deletes, Renames, Sets, Bodies, Replaces, Inserts, Removes, Wraps, SetsContent, SetsText, Encodes, Puts, PutsPiece, DropsAll, Appends, AppendsText, Attaches, AttachesText}
use Rattle.mk_run.specs.WordSteps.{EditRefused, Made, edits_made, made_by, after_splices, then_make, words_made, words_step, stepped}
use Rattle.mk_run.specs.inner.Making.{MadeSo, path_in}

-- the path that is removed
abbrev first_path : List (List ℕ) → List ℕ
first_path [] = []
first_path (path ∷ paths) = path

-- the edit that a word stands for in every document
abbrev pub edit_in : Pieces → Ending → ScriptWord → PlainEdit
edit_in pieces eol (Adds path top field) = AddField path top (field_text eol field)
edit_in pieces eol (Deletes target) = RemoveField target.path target.name target.k
edit_in pieces eol (Renames target to) = RenameField target.path target.name target.k to
edit_in pieces eol (Sets target field) = SetField target.path target.name target.k (field_text eol field)
edit_in pieces eol (Bodies path piece) = SetBody path (piece_lines pieces eol piece)
edit_in pieces eol (Replaces path piece) = SetSection path (piece_lines pieces eol piece)
edit_in pieces eol (Inserts path place piece) = InsertPart path place (piece_lines pieces eol piece)
edit_in pieces eol (Removes paths) = RemovePart (first_path paths)
edit_in pieces eol (Wraps path subtype boundary) = Wrap path subtype boundary
edit_in pieces eol word = RemovePart []

-- it stands for that alone
pub means_one : (pieces : Pieces) (eol : Ending) (t : Document) (word : ScriptWord) → is_plain word ≡ true → meaning_of pieces eol t word ≡ Ok (edit_in pieces eol word ∷ [])
means_one pieces eol t (Adds path top field) p = refl
means_one pieces eol t (Deletes target) p = refl
means_one pieces eol t (Renames target to) p = refl
means_one pieces eol t (Sets target field) p = refl
means_one pieces eol t (Bodies path piece) p = refl
means_one pieces eol t (Replaces path piece) p = refl
means_one pieces eol t (Inserts path place piece) p = refl
means_one pieces eol t (Removes []) p = absurd (let bad : false ≡ true = p in cc)
means_one pieces eol t (Removes (path ∷ [])) p = refl
means_one pieces eol t (Removes (path ∷ other ∷ others)) p = absurd (let bad : false ≡ true = p in cc)
means_one pieces eol t (Wraps path subtype boundary) p = refl
means_one pieces eol t (SetsContent path piece) p = absurd (let bad : false ≡ true = p in cc)
means_one pieces eol t (SetsText charset path piece) p = absurd (let bad : false ≡ true = p in cc)
means_one pieces eol t (Encodes path to) p = absurd (let bad : false ≡ true = p in cc)
means_one pieces eol t (Puts path field) p = absurd (let bad : false ≡ true = p in cc)
means_one pieces eol t (PutsPiece path piece) p = absurd (let bad : false ≡ true = p in cc)
means_one pieces eol t (DropsAll path name) p = absurd (let bad : false ≡ true = p in cc)
means_one pieces eol t (Appends path piece) p = absurd (let bad : false ≡ true = p in cc)
means_one pieces eol t (AppendsText path piece) p = absurd (let bad : false ≡ true = p in cc)
means_one pieces eol t (Attaches path media name piece) p = absurd (let bad : false ≡ true = p in cc)
means_one pieces eol t (AttachesText path media piece) p = absurd (let bad : false ≡ true = p in cc)

-- the edits of words
abbrev pub edits_in : Pieces → Ending → List (ℕ × ScriptWord) → List PlainEdit
edits_in pieces eol ws = map (λ w. edit_in pieces eol w.1) ws

-- the numbers of their lines
abbrev pub numbers_in : List (ℕ × ScriptWord) → List ℕ
numbers_in ws = map (λ w. w.0) ws

-- what their edits made is told of words
abbrev told : List ℕ → List PlainEdit → Together → Made
told numbers es (Ok p) = Ok p
told numbers es (Err q) = Err (EditRefused (slice_index_or numbers q.0 0) (path_in es q.0) q.1)

one_more : (k : ℕ) → 1 + k ≡ suc k
one_more k = omega arith

told_after : (ss : List Splice) (number : ℕ) (numbers : List ℕ) (e : PlainEdit) (es : List PlainEdit) (r : Together) → after_splices (ss ++ []) (told numbers es r) ≡ told (number ∷ numbers) (e ∷ es) (following 1 ss r)
told_after ss number numbers e es (Ok p) = ap (λ rs. Ok (p.0, rs ++ p.1)) (append-nil ss)
told_after ss number numbers e es (Err q) = sym (ap (λ k. Err (EditRefused (slice_index_or (number ∷ numbers) k 0) (path_in (e ∷ es) k) q.1)) (one_more q.0))

told_next : (ss : List Splice) (number : ℕ) (numbers : List ℕ) (e : PlainEdit) (es : List PlainEdit) (f : Document → Made) (r : Result Document Refusal) → ((u : Document) → f u ≡ told numbers es (together es u))
    → then_make (edits_made number (e ∷ []) (made_on ss (together []) r)) f ≡ told (number ∷ numbers) (e ∷ es) (made_on ss (together es) r)
told_next ss number numbers e es f (Ok u) later = ap (after_splices (ss ++ [])) (later u) ∙ told_after ss number numbers e es (together es u)
told_next ss number numbers e es f (Err x) later = refl

-- words that stand for one edit each make what these edits make
pub plain_made : (pieces : Pieces) (eol : Ending) (ws : List (ℕ × ScriptWord)) (t : Document) → list_all (λ w. is_plain w.1) ws ≡ true
    → words_made pieces eol ws t ≡ told (numbers_in ws) (edits_in pieces eol ws) (together (edits_in pieces eol ws) t)
plain_made pieces eol [] t p = refl
plain_made pieces eol (w ∷ ws) t p =
    let parts = and_parts (is_plain w.1) (list_all (λ w. is_plain w.1) ws) p in
    let e = edit_in pieces eol w.1 in
    ap (λ m. then_make (made_by w.0 t m) (words_made pieces eol ws)) (means_one pieces eol t w.1 parts.0)
    ∙ told_next (splices_of e t) w.0 (numbers_in ws) e (edits_in pieces eol ws) (words_made pieces eol ws) (edited e t) (λ u. plain_made pieces eol ws u parts.1)

-- the step of such words, where their edits were made
pub plain_done : (pieces : Pieces) (eol : Ending) (ws : List (ℕ × ScriptWord)) (es : List PlainEdit) (old new : History) → list_all (λ w. is_plain w.1) ws ≡ true → eol ≡ eol_of (cut (text_now old)) → es ≡ edits_in pieces eol ws
    → MadeSo es old new → words_step pieces ws old ≡ Ok new
plain_done pieces eol ws es old new p ends is m =
    ap (λ x. stepped old (words_made pieces x ws (tree (text_now old)))) (sym ends)
    ∙ (ap (stepped old) (plain_made pieces eol ws (tree (text_now old)) p)
    ∙ (ap (λ l. stepped old (told (numbers_in ws) (edits_in pieces eol ws) (together l (tree (text_now old))))) (sym is)
    ∙ (ap (λ r. stepped old (told (numbers_in ws) (edits_in pieces eol ws) r)) m.made ∙ ap (λ h. Ok h) (sym m.left))))

-- the same, where one was refused
pub plain_refused : (pieces : Pieces) (eol : Ending) (ws : List (ℕ × ScriptWord)) (es : List PlainEdit) (old : History) (o : Option Refusal) (number index : ℕ) (path : List ℕ) → list_all (λ w. is_plain w.1) ws ≡ true → eol ≡ eol_of (cut (text_now old))
    → es ≡ edits_in pieces eol ws → number ≡ slice_index_or (numbers_in ws) index 0 → path ≡ path_in es index → IfSome o (λ reason. together es (tree (text_now old)) ≡ Err (index, reason))
    → IfSome (option_map (λ r. EditRefused number path r) o) (λ r. words_step pieces ws old ≡ Err r)
plain_refused pieces eol ws es old None number index path p ends is line at e = tt
plain_refused pieces eol ws es old (Some reason) number index path p ends is line at e =
    ap (λ x. stepped old (words_made pieces x ws (tree (text_now old)))) (sym ends)
    ∙ (ap (stepped old) (plain_made pieces eol ws (tree (text_now old)) p)
    ∙ (ap (λ l. stepped old (told (numbers_in ws) l (together l (tree (text_now old))))) (sym is)
    ∙ (ap (λ r. stepped old (told (numbers_in ws) es r)) e
    ∙ ((λ i. Err (EditRefused (sym line i) (path_in es index) reason)) ∙ ap (λ x. Err (EditRefused number x reason)) (sym at)))))

-- what it stands for is that edit
pub plain_is : (pieces : Pieces) (eol : Ending) (t : Document) (word : ScriptWord) (e : PlainEdit) → is_plain word ≡ true → meaning_of pieces eol t word ≡ Ok (e ∷ []) → e ≡ edit_in pieces eol word
plain_is pieces eol t word e p m =
    let one = means_one pieces eol t word p in
    let same : ◌≡◌ {A = Meaning} (Ok (e ∷ [])) (Ok (edit_in pieces eol word ∷ [])) = sym m ∙ one in
    cc

-- a list that stands for one edit has it last
last_of_one : {X : Type 0} (f : X → PlainEdit) (xs front : List X) (o : Option X) (e : PlainEdit) → map f xs ≡ e ∷ [] → xs ≡ front ++ option_to_list o → (x : X) → o ≡ Some x → f x ≡ e
last_of_one f [] front o e m is x s = absurd (cc)
last_of_one f (y ∷ z ∷ zs) front o e m is x s = absurd (cc)
last_of_one f (y ∷ []) [] o e m is x s =
    let whole : y ∷ [] ≡ x ∷ [] = is ∙ ap option_to_list s in
    let same : y ≡ x = cc in
    let here : f y ≡ e = cc in
    ap f (sym same) ∙ here
last_of_one f (y ∷ []) (z ∷ []) o e m is x s = absurd (let bad : y ∷ [] ≡ z ∷ (x ∷ []) = is ∙ ap (λ p. z ∷ option_to_list p) s in cc)
last_of_one f (y ∷ []) (z ∷ w ∷ zs) o e m is x s = absurd (let bad : y ∷ [] ≡ z ∷ (w ∷ (zs ++ option_to_list o)) = is in cc)

-- the edit that is popped off what such a word stands for
pub popped : {X : Type 0} (f : X → PlainEdit) (pieces : Pieces) (eol : Ending) (t : Document) (word : ScriptWord) (xs front : List X) (o : Option X) (x : X) → is_plain word ≡ true
    → meaning_of pieces eol t word ≡ Ok (map f xs) → xs ≡ front ++ option_to_list o → o ≡ Some x → meaning_of pieces eol t word ≡ Ok (f x ∷ [])
popped f pieces eol t word xs front o x p m is s =
    let one = means_one pieces eol t word p in
    let same : ◌≡◌ {A = Meaning} (Ok (map f xs)) (Ok (edit_in pieces eol word ∷ [])) = sym m ∙ one in
    let list : map f xs ≡ edit_in pieces eol word ∷ [] = cc in
    one ∙ ap (λ e. Ok (e ∷ [])) (sym (last_of_one f xs front o (edit_in pieces eol word) list is x s))

-- one such word more
pub plain_next : (pieces : Pieces) (eol : Ending) (rest later : List (ℕ × ScriptWord)) (number : ℕ) (word : ScriptWord) (edits more all : List PlainEdit) (e : PlainEdit)
    → rest ≡ (number, word) ∷ later → edits ++ edits_in pieces eol rest ≡ all → more ≡ edits ++ e ∷ [] → e ≡ edit_in pieces eol word → more ++ edits_in pieces eol later ≡ all
plain_next pieces eol rest later number word edits more all e here so grown is =
    ap (λ l. l ++ edits_in pieces eol later) (grown ∙ ap (λ x. edits ++ x ∷ []) is)
    ∙ (append_assoc edits (edit_in pieces eol word ∷ []) (edits_in pieces eol later)
    ∙ (sym (ap (λ ws. edits ++ edits_in pieces eol ws) here) ∙ so))

pub numbers_next : (rest later : List (ℕ × ScriptWord)) (number : ℕ) (word : ScriptWord) (numbers more all : List ℕ) → rest ≡ (number, word) ∷ later → numbers ++ numbers_in rest ≡ all → more ≡ numbers ++ number ∷ []
    → more ++ numbers_in later ≡ all
numbers_next rest later number word numbers more all here so grown =
    ap (λ l. l ++ numbers_in later) grown ∙ (append_assoc numbers (number ∷ []) (numbers_in later) ∙ (sym (ap (λ ws. numbers ++ numbers_in ws) here) ∙ so))

-- of plain words the first is one, and the others are
pub plain_parts : (rest later : List (ℕ × ScriptWord)) (number : ℕ) (word : ScriptWord) → list_all (λ w. is_plain w.1) rest ≡ true → rest ≡ (number, word) ∷ later → (is_plain word ≡ true) × (list_all (λ w. is_plain w.1) later ≡ true)
plain_parts rest later number word p here = and_parts (is_plain word) (list_all (λ w. is_plain w.1) later) (sym (ap (list_all (λ w. is_plain w.1)) here) ∙ p)

-- once none is left
pub all_edits : (pieces : Pieces) (eol : Ending) (rest : List (ℕ × ScriptWord)) (edits all : List PlainEdit) → edits ++ edits_in pieces eol rest ≡ all → rest ≡ [] → edits ≡ all
all_edits pieces eol rest edits all so none = sym (append-nil edits) ∙ (sym (ap (λ ws. edits ++ edits_in pieces eol ws) none) ∙ so)

pub all_numbers : (rest : List (ℕ × ScriptWord)) (numbers all : List ℕ) → numbers ++ numbers_in rest ≡ all → rest ≡ [] → numbers ≡ all
all_numbers rest numbers all so none = sym (append-nil numbers) ∙ (sym (ap (λ ws. numbers ++ numbers_in ws) none) ∙ so)
