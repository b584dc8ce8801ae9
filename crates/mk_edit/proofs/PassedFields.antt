-- Fields after others: the k-th of a name, what an edit puts in its place, and where the search goes on after it.
use Rattle.std.proofs.Common.{◌≡◌, ◌+◌, ◌-◌, ◌<◌, ◌≤◌, ◌++◌, if◌then◌else◌, ℕ, zero, suc, Bool, true, false, not, Option, None, Some, Result, Ok, Err, List, [], ◌∷◌, Bor, IfSome, refl, ap, sym, ◌∙◌, subst, filter, length, drop, arith, inl, inr}
use Rattle.std.proofs.lemmas.Bool.{cases_Bool}
use Rattle.std.specs.Option.{option_map}
use Rattle.mk_line.specs.Lines.{TextLine, cut}
use Rattle.mk_line.proofs.Cuts.{text_cut, cut_rest}
use Rattle.mk_head.specs.Fields.{continuations, after_more}
use Rattle.mk_head.specs.Splits.{IsRun}
use Rattle.mk_tree.specs.Spans.{size}
use Rattle.mk_tree.proofs.Descent.{size_append}
use Rattle.mk_decide.specs.declared.field_edits.FieldEdit.{FieldEdit}
use Rattle.mk_decide.specs.declared.field_edits.FieldEdit.TheVariants.{Remove, Rename}
use Rattle.mk_decide.specs.declared.field_edits.Put.{Put}
use Rattle.mk_edit.specs.declared.silent_edits.SilentEdit.{SilentEdit}
use Rattle.mk_decide.specs.Answers.{IsRefusedBy}
use Rattle.mk_decide.specs.Edits.{Refusal, BadName}
use Rattle.mk_line.specs.Kinds.{is_name}
use Rattle.mk_decide.specs.FieldEdits.{starts_named, Found, found_after, find, field_at, renamed}
use Rattle.mk_decide.specs.FieldPuts.{LinePut, IsPut, name_put, puts}
use Rattle.mk_decide.proofs.PlanNames.{put_unless}
use Rattle.mk_edit.proofs.PutNames.{removes, renames}
use Rattle.mk_edit.specs.RootFields.{IsBehind}
use Rattle.mk_edit.specs.SilentEdits.{by_option, numbered}
use Rattle.mk_decide.proofs.FieldPutFacts.{puts_is, puts_fit}
use Rattle.mk_decide.proofs.Renaming.{renamed_start}
use Rattle.mk_decide.proofs.Runs.{IsFound, FoundIn, field_is, run_after, run_following, run_start}
use Rattle.mk_edit.proofs.SilentFields.{not_false}

-- a field with more lines before it
abbrev later_found : List TextLine → Found → Found
later_found before f = record { before = before ++ f.before; start = f.start; more = f.more; after = f.after }

none_before : (o : Option Found) → o ≡ option_map (later_found []) o
none_before None = refl
none_before (Some f) = refl

one_before : (l : TextLine) (before : List TextLine) (o : Option Found) → found_after l (option_map (later_found before) o) ≡ option_map (later_found (l ∷ before)) o
one_before l before None = refl
one_before l before (Some f) = refl

find_zero : (test : TextLine → Bool) (l : TextLine) (ls : List TextLine) → test l ≡ false → find test zero (l ∷ ls) ≡ found_after l (find test zero ls)
find_zero test l ls h = rw h refl

find_same : (test : TextLine → Bool) (n : ℕ) (l : TextLine) (ls : List TextLine) → test l ≡ false → find test n (l ∷ ls) ≡ found_after l (find test n ls)
find_same test zero l ls h = find_zero test l ls h
find_same test (suc n) l ls h = rw h refl

find_less : (test : TextLine → Bool) (n : ℕ) (l : TextLine) (ls : List TextLine) → test l ≡ true → find test (suc n) (l ∷ ls) ≡ found_after l (find test n ls)
find_less test n l ls h = rw h refl

less : (m n c k : ℕ) → n ≡ suc c + k → n ≡ suc m → m ≡ c + k
less m n c k e f = omega (arith, e, f)

no_number : {A : Type 0} (c k : ℕ) → zero ≡ suc c + k → A
no_number c k e = let none : 0 < 0 = omega (arith, e) in absurd (omega (arith, none))

find_named : (test : TextLine → Bool) (l : TextLine) (before following : List TextLine) (n k : ℕ) → test l ≡ true → n ≡ suc (length (filter test before)) + k
    → ((m : ℕ) → m ≡ length (filter test before) + k → find test m (before ++ following) ≡ option_map (later_found before) (find test k following)) → find test n (l ∷ (before ++ following)) ≡ option_map (later_found (l ∷ before)) (find test k following)
find_named test l before following zero k t e f = no_number (length (filter test before)) k e
find_named test l before following (suc m) k t e f =
    find_less test m l (before ++ following) t ∙ (ap (found_after l) (f m (less m (suc m) (length (filter test before)) k e refl)) ∙ one_before l before (find test k following))

find_later : (test : TextLine → Bool) (before following : List TextLine) (n k : ℕ) → n ≡ length (filter test before) + k → find test n (before ++ following) ≡ option_map (later_found before) (find test k following)
find_later test [] following n k e = ap (λ i. find test i following) (omega (arith, e)) ∙ none_before (find test k following)
find_later test (l ∷ before) following n k e =
    elim (cases_Bool (test l)) [
      | inl t ↦ find_named test l before following n k t (rw t at e) (λ m. find_later test before following m k)
      | inr t ↦ find_same test n l (before ++ following) t ∙ (ap (found_after l) (find_later test before following n k (rw t at e)) ∙ one_before l before (find test k following))
    ]

no_first : {A : Type 0} (c j : ℕ) → zero ≡ c + suc j → A
no_first c j e = let none : 0 < 0 = omega (arith, e) in absurd (omega (arith, none))

none_less : {A : Type 0} → 0 < 0 → A
none_less h = absurd (omega (arith, h))

field_later : (name : List ℕ) (before following : List TextLine) (k j : ℕ) → k ≡ length (filter (starts_named name) before) + j → 0 < j → field_at name k (before ++ following) ≡ option_map (later_found before) (field_at name j following)
field_later name before following k zero e h = none_less h
field_later name before following zero (suc j) e h = no_first (length (filter (starts_named name) before)) j e
field_later name before following (suc k) (suc j) e h = find_later (starts_named name) before following k j (omega (arith, e))

-- what is put there
abbrev later_put : List TextLine → LinePut → LinePut
later_put before q = record { before = before ++ q.before; old = q.old; given = q.given; after = q.after; kept = q.kept }

abbrev later_puts : List TextLine → Result LinePut Refusal → Result LinePut Refusal
later_puts before (Ok q) = Ok (later_put before q)
later_puts before (Err e) = Err e

removes_later : (before : List TextLine) (o : Option Found) → removes (option_map (later_found before) o) ≡ later_puts before (removes o)
removes_later before None = refl
removes_later before (Some f) = refl

unless_later : (before : List TextLine) (bad : Bool) (e : Refusal) (q : LinePut) → put_unless bad e (later_put before q) ≡ later_puts before (put_unless bad e q)
unless_later before true e q = refl
unless_later before false e q = refl

renames_later : (before : List TextLine) (to : List ℕ) (o : Option Found) → renames to (option_map (later_found before) o) ≡ later_puts before (renames to o)
renames_later before to None = refl
renames_later before to (Some f) = unless_later before (not (is_name to)) BadName (name_put to f)

puts_later : (name : Bor (List ℕ)) (o : Option (Bor (List ℕ))) (before following : List TextLine) (k j : ℕ) → k ≡ length (filter (starts_named name.now) before) + j → 0 < j
    → puts (by_option o (Remove name k) (λ to. Rename name k to)) (before ++ following) ≡ later_puts before (puts (by_option o (Remove name j) (λ to. Rename name j to)) following)
puts_later name None before following k j e h = ap removes (field_later name.now before following k j e h) ∙ removes_later before (field_at name.now j following)
puts_later name (Some to) before following k j e h = ap (renames to.now) (field_later name.now before following k j e h) ∙ renames_later before to.now (field_at name.now j following)

puts_after : (edit : SilentEdit) (ls : List TextLine) (bytes k : ℕ) → (b : IsBehind ls bytes edit k) → puts (numbered edit edit.k) ls ≡ later_puts b.before (puts (numbered edit k) b.following)
puts_after edit ls bytes k b = ap (puts (numbered edit edit.k)) (sym b.whole) ∙ puts_later edit.name edit.to b.before b.following edit.k k b.number b.some

-- in memory
later_is_put : (before : List TextLine) (bytes : ℕ) (r s : Put) (x : Result LinePut Refusal) → size before ≡ bytes → s.from ≡ bytes + r.from → s.count ≡ r.count → s.lines ≡ r.lines → s.kept ≡ r.kept → IsPut r x → IsPut s (later_puts before x)
later_is_put before bytes r s (Err e) t from count lines kept m = m
later_is_put before bytes r s (Ok q) t from count lines kept m = record {
  from = from ∙ (ap (λ n. n + r.from) (sym t) ∙ (ap (λ n. size before + n) m.from ∙ sym (size_append before q.before)));
  count = count ∙ m.count;
  lines = ap (λ v. v.items) lines ∙ m.lines;
  kept = kept ∙ m.kept;
}

pub put_later : (edit : SilentEdit) (ls : List TextLine) (bytes k : ℕ) (r s : Put) → (b : IsBehind ls bytes edit k) → s.from ≡ bytes + r.from → s.count ≡ r.count → s.lines ≡ r.lines → s.kept ≡ r.kept
    → IsPut r (puts (numbered edit k) b.following) → IsPut s (puts (numbered edit edit.k) ls)
put_later edit ls bytes k r s b from count lines kept m = subst (IsPut s) (sym (puts_after edit ls bytes k b)) (later_is_put b.before bytes r s (puts (numbered edit k) b.following) b.takes from count lines kept m)

later_refused : (before : List TextLine) (o : Option Refusal) (x : Result LinePut Refusal) → IsRefusedBy o x → IsRefusedBy o (later_puts before x)
later_refused before None x h = tt
later_refused before (Some e) x h = ap (later_puts before) h

pub refused_later : (edit : SilentEdit) (ls : List TextLine) (bytes k : ℕ) (o : Option Refusal) → (b : IsBehind ls bytes edit k) → IsRefusedBy o (puts (numbered edit k) b.following) → IsRefusedBy o (puts (numbered edit edit.k) ls)
refused_later edit ls bytes k o b r = subst (IsRefusedBy o) (sym (puts_after edit ls bytes k b)) (later_refused b.before o (puts (numbered edit k) b.following) r)

-- the text after the fields that were passed over
pub following_is : (text : List ℕ) (bytes k : ℕ) (edit : SilentEdit) → (b : IsBehind (cut text) bytes edit k) → cut (drop bytes text) ≡ b.following
following_is text bytes k edit b = ap (λ n. cut (drop n text)) (sym b.takes) ∙ cut_rest text b.before b.following (sym b.whole)

-- where the search goes on
counted_after : (test : TextLine → Bool) (l : TextLine) (n k : ℕ) (o : Option Found) → (t : Bool) → test l ≡ t → k ≡ (if t then suc n else n) → IfSome o (λ f. length (filter test f.before) ≡ n) → IfSome (found_after l o) (λ f. length (filter test f.before) ≡ k)
counted_after test l n k None t e m h = tt
counted_after test l n k (Some f) true e m h = rw e (ap suc h ∙ sym m)
counted_after test l n k (Some f) false e m h = rw e (h ∙ sym m)

counted_here : (test : TextLine → Bool) (l : TextLine) (ls : List TextLine) (t : Bool) → test l ≡ t → IfSome (find test zero ls) (λ f. length (filter test f.before) ≡ zero)
    → IfSome (if t then Some (record { before = []; start = l; more = continuations ls; after = after_more ls }) else found_after l (find test zero ls)) (λ f. length (filter test f.before) ≡ zero)
counted_here test l ls true e h = refl
counted_here test l ls false e h = counted_after test l zero zero (find test zero ls) false e refl h

counted_next : (test : TextLine → Bool) (k : ℕ) (l : TextLine) (ls : List TextLine) (t : Bool) → test l ≡ t → IfSome (find test (if t then k else suc k) ls) (λ f. length (filter test f.before) ≡ (if t then k else suc k))
    → IfSome (found_after l (find test (if t then k else suc k) ls)) (λ f. length (filter test f.before) ≡ suc k)
counted_next test k l ls true e h = counted_after test l k (suc k) (find test k ls) true e refl h
counted_next test k l ls false e h = counted_after test l (suc k) (suc k) (find test (suc k) ls) false e refl h

counted : (test : TextLine → Bool) (k : ℕ) (ls : List TextLine) → IfSome (find test k ls) (λ f. length (filter test f.before) ≡ k)
counted test k [] = tt
counted test zero (l ∷ ls) = counted_here test l ls (test l) refl (counted test zero ls)
counted test (suc k) (l ∷ ls) = counted_next test k l ls (test l) refl (counted test (if test l then k else suc k) ls)

-- an edit leaves the lines before the field, and a run of fields after them
pub record GoesOn (name : List ℕ) (k : ℕ) (q : LinePut) : Type 0 where
  pub some : 1 ≤ k
  pub holds : length (filter (starts_named name) q.before) ≡ k - 1
  pub run : IsRun false (q.given ++ q.after)

abbrev GoOn : List ℕ → ℕ → Result LinePut Refusal → Type 0
GoOn name k (Ok q) = GoesOn name k q
GoOn name k (Err e) = Unit {0}

some_counted : (name : List ℕ) (k : ℕ) (o : Option Found) → IfSome o (λ f. length (filter (starts_named name) f.before) ≡ k) → IfSome o (λ f. (1 ≤ suc k) × (length (filter (starts_named name) f.before) ≡ suc k - 1))
some_counted name k None h = tt
some_counted name k (Some f) h = (omega arith, h ∙ omega arith)

pub found_counted : (name : List ℕ) (k : ℕ) (ls : List TextLine) → IfSome (field_at name k ls) (λ f. (1 ≤ k) × (length (filter (starts_named name) f.before) ≡ k - 1))
found_counted name zero ls = tt
found_counted name (suc k) ls = some_counted name k (find (starts_named name) k ls) (counted (starts_named name) k ls)

removal_goes : (name : List ℕ) (k : ℕ) (ls : List TextLine) (o : Option Found) → IsRun false ls → FoundIn ls o → IfSome o (λ f. (1 ≤ k) × (length (filter (starts_named name) f.before) ≡ k - 1)) → GoOn name k (removes o)
removal_goes name k ls None r i h = tt
removal_goes name k ls (Some f) r i h = record { some = h.0; holds = h.1; run = run_after ls f i r }

renamed_goes : (name : List ℕ) (k : ℕ) (ls : List TextLine) (to : List ℕ) (f : Found) → IsRun false ls → IsFound ls f → (1 ≤ k) × (length (filter (starts_named name) f.before) ≡ k - 1) → (bad : Bool) → not (is_name to) ≡ bad → GoOn name k (put_unless bad BadName (name_put to f))
renamed_goes name k ls to f r i h true e = tt
renamed_goes name k ls to f r i h false e = record { some = h.0; holds = h.1; run = run_start (renamed to f.start) (f.more ++ f.after) (renamed_start to f.start (not_false (is_name to) e) i.start) (run_following ls f i r) }

renaming_goes : (name : List ℕ) (k : ℕ) (ls : List TextLine) (to : List ℕ) (o : Option Found) → IsRun false ls → FoundIn ls o → IfSome o (λ f. (1 ≤ k) × (length (filter (starts_named name) f.before) ≡ k - 1)) → GoOn name k (renames to o)
renaming_goes name k ls to None r i h = tt
renaming_goes name k ls to (Some f) r i h = renamed_goes name k ls to f r i h (not (is_name to)) refl

goes_on : (name : Bor (List ℕ)) (k : ℕ) (o : Option (Bor (List ℕ))) (ls : List TextLine) → IsRun false ls → GoOn name.now k (puts (by_option o (Remove name k) (λ to. Rename name k to)) ls)
goes_on name k None ls r = removal_goes name.now k ls (field_at name.now k ls) r (field_is name.now k ls) (found_counted name.now k ls)
goes_on name k (Some to) ls r = renaming_goes name.now k ls to.now (field_at name.now k ls) r (field_is name.now k ls) (found_counted name.now k ls)

pub put_goes_on : (edit : SilentEdit) (ls : List TextLine) (q : LinePut) → IsRun false ls → puts (numbered edit edit.k) ls ≡ Ok q → GoesOn edit.name.now edit.k q
put_goes_on edit ls q r h = subst (GoOn edit.name.now edit.k) h (goes_on edit.name edit.k edit.to ls r)

-- where it begins
pub put_inside : (text : List ℕ) (put : FieldEdit) (r : Put) → IsPut r (puts put (cut text)) → r.from ≤ length text
put_inside text put r m =
    let fit = puts_fit (cut text) r (puts put (cut text)) (puts_is put (cut text)) m in
    omega (arith, fit.within, ap length (text_cut text))
