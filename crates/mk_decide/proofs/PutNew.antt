-- What an edit of fields puts among lines: lines of a text, which with those around are a run of fields.
use Rattle.std.proofs.Common.{◌≡◌, ◌++◌, ℕ, zero, suc, Bool, true, false, not, Option, None, Some, Result, Ok, Err, List, [], ◌∷◌, refl, ap, sym, ◌∙◌, subst}
use Rattle.mk_line.specs.Lines.{TextLine, cut, text_of, AreLines}
use Rattle.mk_line.proofs.Cuts.{lines_cut}
use Rattle.mk_head.specs.Fields.{is_one_field}
use Rattle.mk_tree.specs.Tree.{Entity, field_lines}
use Rattle.mk_tree.specs.Spans.{size}
use Rattle.mk_splice.specs.Splices.{spliced}
use Rattle.mk_tree.proofs.Plugs.{lines_end}
use Rattle.mk_decide.specs.declared.field_edits.FieldEdit.{FieldEdit}
use Rattle.mk_decide.specs.declared.field_edits.FieldEdit.TheVariants.{Add, Remove, Rename, Set}
use Rattle.mk_decide.specs.Edits.{Refusal, BadField, BadName}
use Rattle.mk_line.specs.Kinds.{is_name}
use Rattle.mk_decide.specs.FieldEdits.{Found, field_at, renamed}
use Rattle.mk_decide.specs.FieldPuts.{LinePut, add_put, set_put, name_put, puts}
use Rattle.mk_decide.proofs.PlanNames.{put_unless, with_field}
use Rattle.mk_decide.proofs.Openings.{Each}
use Rattle.mk_decide.proofs.Runs.{IsFound, FoundIn, field_is}
use Rattle.mk_decide.proofs.Renaming.{renamed_line}
use Rattle.mk_decide.proofs.FieldChanges.{AreNew, add_new, drop_new, change_new, rename_new, following_each, not_true}
use Rattle.mk_decide.proofs.PutPlans.{lines_put}
use Rattle.mk_splice.proofs.Bytes.{spliced_there}
use Rattle.mk_decide.proofs.PutTexts.{apart}

-- of what is put
abbrev pub OfPut : (LinePut → Type 0) → Result LinePut Refusal → Type 0
OfPut P (Ok q) = P q
OfPut P (Err e) = Unit {0}

pub unless_put : (P : LinePut → Type 0) (t : Bool) (e : Refusal) (q : LinePut) → (t ≡ false → P q) → OfPut P (put_unless t e q)
unless_put P true e q h = tt
unless_put P false e q h = h refl

found_put : (P : LinePut → Type 0) (ls : List TextLine) (o : Option Found) (g : Found → Result LinePut Refusal) → FoundIn ls o → ((f : Found) → IsFound ls f → OfPut P (g f)) → OfPut P (with_field o g)
found_put P ls None g h k = tt
found_put P ls (Some f) g h k = k f h

-- the given lines are lines of a text
one_line : (ls : List TextLine) (f : Found) (to : List ℕ) → Each ls → is_name to ≡ true → IsFound ls f → AreLines (renamed to f.start ∷ [])
one_line ls f to e n h = (renamed_line to f.start n h.start (following_each ls f h e).0, (λ m. refl), tt)

add_lines : (top : Bool) (text : List ℕ) (ls : List TextLine) → AreLines (add_put top (cut text) ls).given
add_lines true text ls = lines_cut text
add_lines false text ls = lines_cut text

pub given_lines : (edit : FieldEdit) (ls : List TextLine) → Each ls → OfPut (λ q. AreLines q.given) (puts edit ls)
given_lines (Add top text) ls e = unless_put (λ q. AreLines q.given) (not (is_one_field (cut text.now))) BadField (add_put top (cut text.now) ls) (λ h. add_lines top text.now ls)
given_lines (Remove name k) ls e = found_put (λ q. AreLines q.given) ls (field_at name.now k ls) (λ f. Ok (set_put [] f)) (field_is name.now k ls) (λ f h. tt)
given_lines (Rename name k to) ls e =
    found_put (λ q. AreLines q.given) ls (field_at name.now k ls) (λ f. put_unless (not (is_name to.now)) BadName (name_put to.now f)) (field_is name.now k ls)
    (λ f h. unless_put (λ q. AreLines q.given) (not (is_name to.now)) BadName (name_put to.now f) (λ n. one_line ls f to.now e (not_true (is_name to.now) n) h))
given_lines (Set name k text) ls e =
    found_put (λ q. AreLines q.given) ls (field_at name.now k ls) (λ f. put_unless (not (is_one_field (cut text.now))) BadField (set_put (cut text.now) f)) (field_is name.now k ls)
    (λ f h. unless_put (λ q. AreLines q.given) (not (is_one_field (cut text.now))) BadField (set_put (cut text.now) f) (λ n. lines_cut text.now))

-- the new fields of a section
abbrev pub NewOf : Entity → LinePut → Type 0
NewOf s q = AreNew s (lines_put q) q.given

added_new : (s : Entity) (top : Bool) (text : List ℕ) → is_one_field (cut text) ≡ true → NewOf s (add_put top (cut text) (field_lines s))
added_new s true text h = add_new s true text h
added_new s false text h = subst (λ ls. AreNew s (field_lines s ++ ls) (cut text)) (sym (lines_end (cut text))) (add_new s false text h)

pub puts_new : (edit : FieldEdit) (s : Entity) → OfPut (NewOf s) (puts edit (field_lines s))
puts_new (Add top text) s = unless_put (NewOf s) (not (is_one_field (cut text.now))) BadField (add_put top (cut text.now) (field_lines s)) (λ h. added_new s top text.now (not_true (is_one_field (cut text.now)) h))
puts_new (Remove name k) s = found_put (NewOf s) (field_lines s) (field_at name.now k (field_lines s)) (λ f. Ok (set_put [] f)) (field_is name.now k (field_lines s)) (λ f h. drop_new s f h)
puts_new (Rename name k to) s =
    found_put (NewOf s) (field_lines s) (field_at name.now k (field_lines s)) (λ f. put_unless (not (is_name to.now)) BadName (name_put to.now f)) (field_is name.now k (field_lines s))
    (λ f h. unless_put (NewOf s) (not (is_name to.now)) BadName (name_put to.now f) (λ n. rename_new s f to.now (not_true (is_name to.now) n) h))
puts_new (Set name k text) s =
    found_put (NewOf s) (field_lines s) (field_at name.now k (field_lines s)) (λ f. put_unless (not (is_one_field (cut text.now))) BadField (set_put (cut text.now) f)) (field_is name.now k (field_lines s))
    (λ f h. unless_put (NewOf s) (not (is_one_field (cut text.now))) BadField (set_put (cut text.now) f) (λ n. change_new s f text.now (not_true (is_one_field (cut text.now)) n) h))

-- where no field was, one is
abbrev pub IsSome : LinePut → Type 0
IsSome q = lines_put q ≡ [] → ⊥

some_added : (top : Bool) (given : List TextLine) → is_one_field given ≡ true → IsSome (add_put top given [])
some_added top [] h = λ e. cc
some_added true (l ∷ ls) h = λ e. cc
some_added false (l ∷ ls) h = λ e. cc

none_found : (name : List ℕ) (k : ℕ) → field_at name k [] ≡ None
none_found name zero = refl
none_found name (suc k) = refl

none_put : (P : LinePut → Type 0) (o : Option Found) (g : Found → Result LinePut Refusal) → o ≡ None → OfPut P (with_field o g)
none_put P o g e = subst (λ x. OfPut P (with_field x g)) (sym e) tt

pub some_new : (edit : FieldEdit) → OfPut IsSome (puts edit [])
some_new (Add top text) = unless_put IsSome (not (is_one_field (cut text.now))) BadField (add_put top (cut text.now) []) (λ h. some_added top (cut text.now) (not_true (is_one_field (cut text.now)) h))
some_new (Remove name k) = none_put IsSome (field_at name.now k []) (λ f. Ok (set_put [] f)) (none_found name.now k)
some_new (Rename name k to) = none_put IsSome (field_at name.now k []) (λ f. put_unless (not (is_name to.now)) BadName (name_put to.now f)) (none_found name.now k)
some_new (Set name k text) = none_put IsSome (field_at name.now k []) (λ f. put_unless (not (is_one_field (cut text.now))) BadField (set_put (cut text.now) f)) (none_found name.now k)

-- the text of a head with lines put among its own
pub put_text : (head : List ℕ) (q : LinePut) → head ≡ text_of (q.before ++ (q.old ++ q.after)) → spliced (size q.before) (size q.old) (text_of q.given) head ≡ text_of (lines_put q)
put_text head q h =
    ap (spliced (size q.before) (size q.old) (text_of q.given)) (h ∙ apart q.before q.old q.after)
    ∙ (spliced_there (text_of q.before) (text_of q.old) (text_of q.after) (text_of q.given) ∙ sym (apart q.before q.given q.after))
