-- What is said of a message, and kept of it, by whether it comes again.
use Rattle.std.proofs.Common.{◌≡◌, ◌∙◌, ◌++◌, ◌∷◌, if◌then◌else◌, ◌==◌, [], ℕ, suc, arith, length, List, Some, Bool, Result, Ok, Err, IfOk, OnOk, true, false, not, refl, sym, ap, append_assoc, append-nil}
use Rattle.std.specs.FinSet as set
use Rattle.std.specs.declared.alloc.AllocError.{AllocError}
use Rattle.std.proofs.lemmas.Bool.{ne_eqb}
use Rattle.mk_line.specs.Ascii.{line_feed}
use Rattle.mk_line.specs.Lines.{is_nil}
use Rattle.mk_field.specs.Filtering.{PlainFilter, said_of}
use Rattle.mk_transfer.specs.Said.{Said, silence}
use Rattle.mk_seen.specs.Firsts.{said_once}
use Rattle.mk_seen.specs.SeenIds.{Seen, id_line, is_repeated, message_id, new_line}

-- no byte
pub nil_is : (xs : List ℕ) → (length xs == 0) ≡ is_nil xs
nil_is [] = refl
nil_is (x ∷ xs) = ne_eqb (suc (length xs)) 0 (λ e. absurd (omega (arith, e)))

not_false : (b : Bool) → true ≡ not b → b ≡ false
not_false true e = cc
not_false false e = refl

not_true : (b : Bool) → false ≡ not b → b ≡ true
not_true true e = refl
not_true false e = cc

-- whether a message with an identifier comes again
repeated_by : (seen : Seen) (message id : List ℕ) → message_id message ≡ Some id → is_repeated seen message ≡ set.contains seen id
repeated_by seen message id is = rw is refl

-- the line of a message that is the first with its identifier
pub line_of_first : (seen : Seen) (message id : List ℕ) (first : Bool) (old : List ℕ) → message_id message ≡ Some id → first ≡ not (set.contains seen id) → first ≡ true
    → (old ++ id) ++ line_feed ∷ [] ≡ old ++ new_line seen message
line_of_first seen message id first old is new is_first =
    let fresh : is_repeated seen message ≡ false = repeated_by seen message id is ∙ not_false (set.contains seen id) (sym is_first ∙ new) in
    append_assoc old id (line_feed ∷ []) ∙ ap (λ l. old ++ l) (sym (line_is fresh))
  where
    line_is : is_repeated seen message ≡ false → new_line seen message ≡ id_line id
    line_is fresh = rw fresh (rw is refl)

-- and of one that isn't
pub line_of_repeated : (seen : Seen) (message id : List ℕ) (first : Bool) (old : List ℕ) → message_id message ≡ Some id → first ≡ not (set.contains seen id) → first ≡ false
    → old ≡ old ++ new_line seen message
line_of_repeated seen message id first old is new is_later =
    let again : is_repeated seen message ≡ true = repeated_by seen message id is ∙ not_true (set.contains seen id) (sym is_later ∙ new) in
    sym (append-nil old) ∙ ap (λ l. old ++ l) (sym (line_is again))
  where
    line_is : is_repeated seen message ≡ true → new_line seen message ≡ []
    line_is again = rw again refl

pub said_first : (f : PlainFilter) (seen : Seen) (number : ℕ) (message : List ℕ) (first : Bool) → first ≡ not (is_repeated seen message) → first ≡ true → said_once f seen number message ≡ said_of true f number message
said_first f seen number message first new is_first = let fresh : is_repeated seen message ≡ false = not_false (is_repeated seen message) (sym is_first ∙ new) in rw fresh refl

pub said_repeated : (f : PlainFilter) (seen : Seen) (number : ℕ) (message : List ℕ) (first : Bool) → first ≡ not (is_repeated seen message) → first ≡ false → said_once f seen number message ≡ silence
said_repeated f seen number message first new is_later = let again : is_repeated seen message ≡ true = not_true (is_repeated seen message) (sym is_later ∙ new) in rw again refl

-- what is listed of it
pub listed_first : (seen : Seen) (message line : List ℕ) (first : Bool) → first ≡ not (is_repeated seen message) → first ≡ true → (if is_repeated seen message then [] else line) ≡ line
listed_first seen message line first new is_first = let fresh : is_repeated seen message ≡ false = not_false (is_repeated seen message) (sym is_first ∙ new) in rw fresh refl

pub listed_repeated : (seen : Seen) (message line : List ℕ) (first : Bool) → first ≡ not (is_repeated seen message) → first ≡ false → (if is_repeated seen message then [] else line) ≡ []
listed_repeated seen message line first new is_later = let again : is_repeated seen message ≡ true = not_true (is_repeated seen message) (sym is_later ∙ new) in rw again refl

-- what went to an answer that said nothing is what it says
pub said_all : (o e out err : List ℕ) (s : Said) → ◌≡◌ {A = Said} (record { output = o; errors = e }) silence → out ≡ o ++ s.output → err ≡ e ++ s.errors → ◌≡◌ {A = Said} (record { output = out; errors = err }) s
said_all o e out err s none out_is err_is =
    let output_is : out ≡ s.output = out_is ∙ ap (λ (t : Said). t.output ++ s.output) none in
    let errors_is : err ≡ s.errors = err_is ∙ ap (λ (t : Said). t.errors ++ s.errors) none in
    ap (λ x. record { output = x; errors = err }) output_is ∙ ap (λ y. record { output = s.output; errors = y }) errors_is

-- a line in the place of what said nothing
pub said_line : (e line left : List ℕ) → e ≡ [] → left ≡ line → ◌≡◌ {A = Said} (record { output = line; errors = e }) (record { output = left; errors = [] })
said_line e line left none is = ap (λ y. record { output = line; errors = y }) none ∙ ap (λ x. record { output = x; errors = [] }) (sym is)

-- the lines of a file once an identifier was kept, where memory sufficed
pub lines_kept : (r : Result Bool AllocError) (lines old : List ℕ) (seen : Seen) (message id : List ℕ) → message_id message ≡ Some id
    → IfOk r (λ first. first ≡ not (set.contains seen id)) → IfOk r (λ first. lines ≡ old ++ (if first then id_line id else []))
    → OnOk r (lines ≡ old ++ new_line seen message)
lines_kept (Ok true) lines old seen message id is first kept = kept ∙ (sym (append_assoc old id (line_feed ∷ [])) ∙ line_of_first seen message id true old is first refl)
lines_kept (Ok false) lines old seen message id is first kept = kept ∙ (append-nil old ∙ line_of_repeated seen message id false old is first refl)
lines_kept (Err error) lines old seen message id is first kept = tt
