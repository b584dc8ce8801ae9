-- What is left of leaves that are unpacked in turn.
use Rattle.std.proofs.Common.{◌≡◌, ◌⊎◌, ◌||◌, if◌then◌else◌, ℕ, Bool, true, false, not, List, [], ◌∷◌, ◌++◌, Option, Ok, Err, refl, sym, ap, ◌∙◌, subst, append_assoc, inl, inr, map}
use Rattle.std.proofs.lemmas.List.{append-nil}
use Rattle.std.specs.Io.KnownBytes.{Appends, IsAtEnd, Keeps}
use Rattle.std.proofs.KnownBytes.{Appends-kept, Appends-trans}
use Rattle.mk_line.specs.Lines.{is_nil}
use Rattle.mk_tree.specs.Documents.{Document}
use Rattle.mk_tree.specs.Sections.{section_at}
use Rattle.mk_view.specs.declared.extracting.ExtractError.{ExtractError}
use Rattle.mk_view.specs.Extracts.{IsExtractRefused}
use Rattle.mk_mailbox.specs.Devices.{AppendsFront}
use Rattle.mk_view.specs.FileNames.{Named}
use Rattle.mk_transfer.specs.declared.status.Cause.{Cause}
use Rattle.mk_transfer.specs.declared.status.Cause.TheVariants.{Read, Write, Memory as NoMemory}
use Rattle.mk_transfer.specs.declared.status.Status.{Status}
use Rattle.mk_transfer.specs.declared.status.Status.TheVariants.{Well, Refused, Usage, Fault, Memory}
use Rattle.mk_show.specs.declared.placing.Clash.{Clash}
use Rattle.mk_show.specs.declared.unpacking.Manner.{Manner}
use Rattle.mk_show.specs.Folders.{Files}
use Rattle.mk_transfer.specs.RunClauses.{Held, held, Reason, status_of}
use Rattle.mk_show.specs.Chosen.{Asked, AreAsked, missing_lines}
use Rattle.mk_show.specs.Unpacking.{IsNotCut, IsPutOf, Task, Unpacks, UnpacksLeaf, exists_line, report_line, task_clash, task_name, task_of, tasks_of}
use Rattle.mk_transfer.specs.Said.{Said, silence, said_after, shown}
use Rattle.mk_show.specs.Shown.{extract_line, is_wanting}
use Rattle.mk_show.specs.UnpackClauses.{Written, written, GetsNext, PutsText, PutsNone, PutsFront, UnpackedAll, UnpackedAllAfter, UnpackedSome, UnpackedSomeAfter, IsUnpacked, IsBrokenOff, EndsStored, Stores, StoresSoFar}
use Rattle.mk_transfer.proofs.Fronts.{AppendsFront-following, not-is_nil-append, AppendsFront-none, AppendsFront-whole}

pub following-silence : (s : Said) → s ≡ said_after s silence
following-silence s = rw (append-nil s.output, append-nil s.errors) refl

pub following-following : (a b c : Said) → said_after (said_after a b) c ≡ said_after a (said_after b c)
following-following a b c = rw (append_assoc a.output b.output c.output, append_assoc a.errors b.errors c.errors) refl

Unpacks-append : (manner : Manner) (t : Document) (xs ys : List Task) (first more : Said) (a b c : Option Files)
    → Unpacks manner t xs first a b → Unpacks manner t ys more b c → Unpacks manner t (xs ++ ys) (said_after first more) a c
Unpacks-append manner t [] ys first more a b c u v = rw u.0 (subst (λ o. Unpacks manner t ys more o c) u.1 v)
Unpacks-append manner t (x ∷ xs) ys first more a b c u v = (
  u.0,
  said_after u.1 more,
  u.2,
  u.3,
  Unpacks-append manner t xs ys u.1 more u.2 b c u.4 v,
  ap (λ s. said_after s more) u.5 ∙ following-following u.0 u.1 more,
)

Unpacks-one : (manner : Manner) (t : Document) (leaf : Task) (said : Said) (old new : Option Files) → UnpacksLeaf manner t leaf said old new
    → Unpacks manner t (leaf ∷ []) said old new
Unpacks-one manner t leaf said old new u = (said, silence, new, u, (refl, refl), following-silence said)

-- no leaf was unpacked, and all is as it was
pub UnpackedAll-none : (manner : Manner) (t : Document) (out err : Option (List ℕ)) (files : Option Files) → Appends out out [] → Appends err err []
    → UnpackedAll manner t [] (not (is_nil silence.errors)) (written out err files) (written out err files)
UnpackedAll-none manner t out err files o e = record { said = silence; unpacks = (refl, refl); output = o; errors = e; refused_is = refl }

-- one leaf was unpacked, and all went out that is said of it
pub UnpackedAll-one : (manner : Manner) (t : Document) (leaf : Task) (said : Said) (refused : Bool) (before after : Written)
    → UnpacksLeaf manner t leaf said before.files after.files
    → Appends before.output after.output said.output → Appends before.errors after.errors said.errors → refused ≡ not (is_nil said.errors)
    → UnpackedAll manner t (leaf ∷ []) refused before after
UnpackedAll-one manner t leaf said refused before after u output errors told =
    record { said = said; unpacks = Unpacks-one manner t leaf said before.files after.files u; output = output; errors = errors; refused_is = told }

-- one leaf was unpacked, and a front went out of what is said of it
pub UnpackedSome-one : (manner : Manner) (t : Document) (leaf : Task) (said : Said) (before after : Written)
    → UnpacksLeaf manner t leaf said before.files after.files
    → AppendsFront before.output after.output said.output → AppendsFront before.errors after.errors said.errors
    → UnpackedSome manner t (leaf ∷ []) before after
UnpackedSome-one manner t leaf said before after u output errors = record {
  done = leaf ∷ [];
  rest = [];
  tasks_are = refl;
  said = said;
  between = after.files;
  unpacks = Unpacks-one manner t leaf said before.files after.files u;
  next = refl;
  output = output;
  errors = errors;
}

-- of one leaf at most a front was put, and nothing was said
pub UnpackedSome-none : (manner : Manner) (t : Document) (leaf : Task) (out err : Option (List ℕ)) (old new : Option Files) → GetsNext manner.clash t (leaf ∷ []) old new
    → UnpackedSome manner t (leaf ∷ []) (written out err old) (written out err new)
UnpackedSome-none manner t leaf out err old new next = record {
  done = [];
  rest = leaf ∷ [];
  tasks_are = refl;
  said = silence;
  between = old;
  unpacks = (refl, refl);
  next = next;
  output = AppendsFront-none out [];
  errors = AppendsFront-none err [];
}

-- leaves were unpacked, and then others
pub UnpackedAll-following : (manner : Manner) (t : Document) (xs ys : List Task) (refused more : Bool) (a b c : Written) → UnpackedAll manner t xs refused a b
    → UnpackedAll manner t ys more b c → UnpackedAll manner t (xs ++ ys) (refused || more) a c
UnpackedAll-following manner t xs ys refused more a b c u v = record {
  said = said_after u.said v.said;
  unpacks = Unpacks-append manner t xs ys u.said v.said a.files b.files c.files u.unpacks v.unpacks;
  output = Appends-trans a.output b.output c.output u.said.output v.said.output u.output v.output;
  errors = Appends-trans a.errors b.errors c.errors u.said.errors v.said.errors u.errors v.errors;
  refused_is = rw (u.refused_is, v.refused_is) (sym (not-is_nil-append u.said.errors v.said.errors));
}

GetsNext-more : (clash : Clash) (t : Document) (ys more : List Task) (old new : Option Files) → GetsNext clash t ys old new → GetsNext clash t (ys ++ more) old new
GetsNext-more clash t [] [] old new h = h
GetsNext-more clash t [] (m ∷ ms) old new h = inl h
GetsNext-more clash t (y ∷ ys) more old new h = h

leaves_apart : (xs done rest more : List Task) → xs ++ ((done ++ rest) ++ more) ≡ (xs ++ done) ++ (rest ++ more)
leaves_apart xs done rest more = simp append_assoc

-- leaves were unpacked, and then some of others, after which stand more
pub UnpackedSome-following : (manner : Manner) (t : Document) (xs ys more leaves : List Task) (refused : Bool) (a b c : Written) → UnpackedAll manner t xs refused a b
    → UnpackedSome manner t ys b c → leaves ≡ xs ++ (ys ++ more) → UnpackedSome manner t leaves a c
UnpackedSome-following manner t xs ys more leaves refused a b c u v e = record {
  done = xs ++ v.done;
  rest = v.rest ++ more;
  tasks_are = e ∙ ap (λ zs. xs ++ (zs ++ more)) v.tasks_are ∙ leaves_apart xs v.done v.rest more;
  said = said_after u.said v.said;
  between = v.between;
  unpacks = Unpacks-append manner t xs v.done u.said v.said a.files b.files v.between u.unpacks v.unpacks;
  next = GetsNext-more manner.clash t v.rest more v.between c.files v.next;
  output = AppendsFront-following a.output b.output c.output u.said.output v.said.output [] _ u.output v.output (ap (λ l. u.said.output ++ l) (sym (append-nil v.said.output)));
  errors = AppendsFront-following a.errors b.errors c.errors u.said.errors v.said.errors [] _ u.errors v.errors (ap (λ l. u.said.errors ++ l) (sym (append-nil v.said.errors)));
}

-- some of leaves were unpacked, after which stand more
pub UnpackedSome-front : (manner : Manner) (t : Document) (ys more leaves : List Task) (a b : Written) → UnpackedSome manner t ys a b → leaves ≡ ys ++ more → UnpackedSome manner t leaves a b
UnpackedSome-front manner t ys more leaves a b v e = record {
  done = v.done;
  rest = v.rest ++ more;
  tasks_are = e ∙ ap (λ zs. zs ++ more) v.tasks_are ∙ append_assoc v.done v.rest more;
  said = v.said;
  between = v.between;
  unpacks = v.unpacks;
  next = GetsNext-more manner.clash t v.rest more v.between b.files v.next;
  output = v.output;
  errors = v.errors;
}

-- what is done after all leaves were unpacked
abbrev pub second_round : Bool → List Named → List Task
second_round false leaves = []
second_round true leaves = map (task_of true) leaves

pub rounds_are : (prefix : Bool) (leaves : List Named) → tasks_of prefix leaves ≡ map (task_of false) leaves ++ second_round prefix leaves
rounds_are false leaves = sym (append-nil (map (task_of false) leaves))
rounds_are true leaves = refl

-- lines went out, and then leaves were unpacked
pub UnpackedAll-after : (lines : List ℕ) (manner : Manner) (t : Document) (leaves : List Task) (refused all_refused : Bool) (out err between out_after err_after : Option (List ℕ)) (old new : Option Files)
    → Appends err between lines → UnpackedAll manner t leaves refused (written out between old) (written out_after err_after new) → all_refused ≡ (not (is_nil lines) || refused)
    → UnpackedAllAfter lines manner t leaves all_refused (written out err old) (written out_after err_after new)
UnpackedAll-after lines manner t leaves refused all_refused out err between out_after err_after old new sent u e = record {
  said = u.said;
  unpacks = u.unpacks;
  output = u.output;
  errors = Appends-trans err between err_after lines u.said.errors sent u.errors;
  refused_is = e ∙ ap (λ (b : Bool). not (is_nil lines) || b) u.refused_is ∙ sym (not-is_nil-append lines u.said.errors);
}

-- lines went out, and then some leaves were unpacked
pub UnpackedSome-after : (lines : List ℕ) (manner : Manner) (t : Document) (leaves : List Task) (out err between out_after err_after : Option (List ℕ)) (old new : Option Files)
    → Appends err between lines → UnpackedSome manner t leaves (written out between old) (written out_after err_after new)
    → UnpackedSomeAfter lines manner t leaves (written out err old) (written out_after err_after new)
UnpackedSome-after lines manner t leaves out err between out_after err_after old new sent u = record {
  done = u.done;
  rest = u.rest;
  tasks_are = u.tasks_are;
  said = u.said;
  between = u.between;
  unpacks = u.unpacks;
  next = u.next;
  output = u.output;
  errors = AppendsFront-following err between err_after lines u.said.errors [] _ sent u.errors (ap (λ l. lines ++ l) (sym (append-nil u.said.errors)));
}

GetsNext-none : (clash : Clash) (t : Document) (leaves : List Task) (files : Option Files) → GetsNext clash t leaves files files
GetsNext-none clash t [] files = refl
GetsNext-none clash t (leaf ∷ leaves) files = inl refl

-- a front of the lines went out
pub UnpackedSome-before : (lines : List ℕ) (manner : Manner) (t : Document) (leaves : List Task) (out err err_after : Option (List ℕ)) (files : Option Files)
    → AppendsFront err err_after lines → UnpackedSomeAfter lines manner t leaves (written out err files) (written out err_after files)
UnpackedSome-before lines manner t leaves out err err_after files sent = record {
  done = [];
  rest = leaves;
  tasks_are = refl;
  said = silence;
  between = files;
  unpacks = (refl, refl);
  next = GetsNext-none manner.clash t leaves files;
  output = AppendsFront-none out [];
  errors = rw append-nil sent;
}

-- a line that ends is not empty
pub line_told : (xs : List ℕ) (y : ℕ) (ys : List ℕ) → true ≡ not (is_nil (xs ++ y ∷ ys))
line_told [] y ys = refl
line_told (x ∷ xs) y ys = refl

-- the bytes of a leaf were put
pub stored-leaf : (manner : Manner) (t : Document) (task : Task) (bytes target : List ℕ) (old new : Option Files) → IsPutOf task.cut (section_at task.leaf.0 t) bytes
    → PutsText (task_clash task.cut manner.clash) old new (task_name task.cut task.leaf.1) bytes target
    → UnpacksLeaf manner t task (record { output = report_line manner.report task.leaf.0 (section_at task.leaf.0 t) target; errors = [] }) old new
stored-leaf manner t task bytes target old new content put = inl (record {
  bytes = bytes;
  content = content;
  target = target;
  target_is = put.target_is;
  gets = put.gets;
  said_is = refl;
})

-- all its names are those of files
pub crowded-leaf : (manner : Manner) (t : Document) (task : Task) (bytes : List ℕ) (old new : Option Files) → IsPutOf task.cut (section_at task.leaf.0 t) bytes
    → PutsNone (task_clash task.cut manner.clash) old new (task_name task.cut task.leaf.1) → UnpacksLeaf manner t task (record { output = []; errors = exists_line (task_name task.cut task.leaf.1) }) old new
crowded-leaf manner t task bytes old new content none = inr (inl (record {
  bytes = bytes;
  content = content;
  kept = none.kept;
  there = none.there;
  same = none.same;
  said_is = refl;
}))

-- its content can't be decoded
pub undecoded-leaf : (manner : Manner) (t : Document) (leaf : Named) (error : ExtractError) (files : Option Files) → IsExtractRefused (section_at leaf.0 t) error
    → is_wanting error ≡ false → UnpacksLeaf manner t (task_of false leaf) (record { output = []; errors = extract_line leaf.0 error }) files files
undecoded-leaf manner t leaf error files reason known = inr (inr (inl (record { whole = refl; error = error; reason = reason; known = known; same = refl; said_is = refl })))

-- its content wasn't cut off
pub passed-leaf : (manner : Manner) (t : Document) (leaf : Named) (files : Option Files) → IsNotCut (section_at leaf.0 t) → UnpacksLeaf manner t (task_of true leaf) silence files files
passed-leaf manner t leaf files other = inr (inr (inr (record { cut = refl; other = other; same = refl; said_is = refl })))

-- a front of its bytes was put
pub front-leaf : (clash : Clash) (t : Document) (task : Task) (bytes : List ℕ) (old new : Option Files) → IsPutOf task.cut (section_at task.leaf.0 t) bytes
    → (new ≡ old) ⊎ PutsFront (task_clash task.cut clash) old new (task_name task.cut task.leaf.1) bytes → GetsNext clash t (task ∷ []) old new
front-leaf clash t task bytes old new content h = elim h [
  | inl same ↦ inl same
  | inr put ↦ inr (record { bytes = bytes; content = content; put = put })
]

shown_status : (output errors : List ℕ) (b : Bool) (status : Status) → b ≡ not (is_nil errors) → status ≡ (if b then Refused else Well) → (shown output errors).status ≡ status
shown_status output [] b status h e = sym (e ∙ ap (λ (c : Bool). if c then Refused else Well) h)
shown_status output (byte ∷ bytes) b status h e = sym (e ∙ ap (λ (c : Bool). if c then Refused else Well) h)

-- all leaves were unpacked, and the run ended by itself
pub IsUnpacked-all : (asked : Asked) (t : Document) (leaves : List Named) (refused : Bool) (status : Status) (input left out sent err told : Option (List ℕ)) (old new : Option Files)
    → AreAsked asked t leaves → UnpackedAllAfter (missing_lines t asked.sections) asked.manner t (tasks_of asked.prefix leaves) refused (written out err old) (written sent told new) → status ≡ (if refused then Refused else Well) → IsAtEnd left
    → IsUnpacked asked t status (held input out err) (held left sent told) old new
IsUnpacked-all asked t leaves refused status input left out sent err told old new are u e end = record {
  leaves = leaves;
  are_leaves = are;
  said = u.said;
  unpacks = u.unpacks;
  run = record { status_is = shown_status u.said.output (missing_lines t asked.sections ++ u.said.errors) refused status u.refused_is e; written = record { output = u.output; errors = u.errors }; read = end };
}

-- a run that ended by itself
pub Stores-ended : (why : Reason) (asked : Asked) (t : Document) (status : Status) (before after : Held) (old new : Option Files)
    → StoresSoFar asked t (Ok status) before after old new → Stores why asked t status before after old new
Stores-ended why asked t Well before after old new s = s
Stores-ended why asked t Refused before after old new s = s
Stores-ended why asked t Usage before after old new s = s
Stores-ended why asked t Fault before after old new s = absurd s
Stores-ended why asked t Memory before after old new s = absurd s

-- some leaves were unpacked, and the run was given up
IsBrokenOff-some : (why : Reason) (asked : Asked) (t : Document) (leaves : List Named) (cause : Cause) (status : Status) (input left out sent err between told : Option (List ℕ)) (old new : Option Files)
    → AreAsked asked t leaves → UnpackedSomeAfter (missing_lines t asked.sections) asked.manner t (tasks_of asked.prefix leaves) (written out err old) (written sent between new) → status_of cause ≡ status → (cause ≡ Read → Keeps out sent) → why cause between told
    → IsBrokenOff why asked t status (held input out err) (held left sent told) old new
IsBrokenOff-some why asked t leaves cause status input left out sent err between told old new are u e silent line = record {
  leaves = leaves;
  are_leaves = are;
  done = u.done;
  rest = u.rest;
  tasks_are = u.tasks_are;
  said = u.said;
  between = u.between;
  unpacks = u.unpacks;
  next = u.next;
  run = record { output = u.output; cause = cause; status_is = e; between = between; errors = u.errors; line = line; silent = silent };
}

not_read : {A : Type 0} → Write ≡ Read → A
not_read e = absurd cc

not_read_either : {A : Type 0} → NoMemory ≡ Read → A
not_read_either e = absurd cc

-- what was left when a run stopped, and the line that says why
pub Stores-given_up : (why : Reason) (asked : Asked) (t : Document) (cause : Cause) (input left out sent err between told : Option (List ℕ)) (old new : Option Files)
    → StoresSoFar asked t (Err cause) (held input out err) (held left sent between) old new → why cause between told
    → Stores why asked t (status_of cause) (held input out err) (held left sent told) old new
Stores-given_up why asked t Read input left out sent err between told old new w line = elim w [
  | inl u ↦ inl (record { cause = Read; status_is = refl; output = u.output; between = between; errors = u.errors; line = line }, u.files)
  | inr h ↦ absurd (h.writing refl)
]
Stores-given_up why asked t Write input left out sent err between told old new w line = elim w [
  | inl u ↦ inl (record { cause = Write; status_is = refl; output = u.output; between = between; errors = u.errors; line = line }, u.files)
  | inr h ↦ inr (IsBrokenOff-some why asked t h.leaves Write Fault input left out sent err between told old new h.are_leaves h.some refl (λ r. not_read r) line)
]
Stores-given_up why asked t NoMemory input left out sent err between told old new w line = elim w [
  | inl u ↦ inl (record { cause = NoMemory; status_is = refl; output = u.output; between = between; errors = u.errors; line = line }, u.files)
  | inr h ↦ inr (IsBrokenOff-some why asked t h.leaves NoMemory Memory input left out sent err between told old new h.are_leaves h.some refl (λ r. not_read_either r) line)
]

-- all leaves were unpacked, and then a device failed
pub UnpackedAll-halted : (lines : List ℕ) (manner : Manner) (t : Document) (leaves : List Task) (refused : Bool) (out sent left err told : Option (List ℕ)) (old new : Option Files)
    → UnpackedAllAfter lines manner t leaves refused (written out err old) (written sent told new) → Keeps sent left → UnpackedSomeAfter lines manner t leaves (written out err old) (written left told new)
UnpackedAll-halted lines manner t leaves refused out sent left err told old new u k = record {
  done = leaves;
  rest = [];
  tasks_are = sym (append-nil leaves);
  said = u.said;
  between = new;
  unpacks = u.unpacks;
  next = refl;
  output = AppendsFront-whole _ _ _ (Appends-kept _ _ _ _ u.output k);
  errors = AppendsFront-whole _ _ _ u.errors;
}

-- all leaves were unpacked, and then a call wrote nothing
pub UnpackedAll-kept : (lines : List ℕ) (manner : Manner) (t : Document) (leaves : List Task) (refused : Bool) (out sent left err told : Option (List ℕ)) (old new : Option Files)
    → UnpackedAllAfter lines manner t leaves refused (written out err old) (written sent told new) → Keeps sent left → UnpackedAllAfter lines manner t leaves refused (written out err old) (written left told new)
UnpackedAll-kept lines manner t leaves refused out sent left err told old new u k =
    record { said = u.said; unpacks = u.unpacks; output = Appends-kept _ _ _ _ u.output k; errors = u.errors; refused_is = u.refused_is }

-- all leaves were unpacked and the output was finished
pub EndsStored-all : (asked : Asked) (t : Document) (leaves : List Named) (refused : Bool) (status : Status) (input left out sent last err told : Option (List ℕ)) (old new : Option Files)
    → AreAsked asked t leaves → UnpackedAllAfter (missing_lines t asked.sections) asked.manner t (tasks_of asked.prefix leaves) refused (written out err old) (written sent told new) → Keeps sent last → status ≡ (if refused then Refused else Well) → IsAtEnd left
    → EndsStored asked t status (held input out err) (held left last told) old new
EndsStored-all asked t leaves true status input left out sent last err told old new are u k e end =
    subst (λ s. EndsStored asked t s (held input out err) (held left last told) old new) (sym e)
    (IsUnpacked-all asked t leaves true Refused input left out last err told old new are (UnpackedAll-kept _ _ _ _ _ _ _ _ _ _ _ _ u k) refl end)
EndsStored-all asked t leaves false status input left out sent last err told old new are u k e end =
    subst (λ s. EndsStored asked t s (held input out err) (held left last told) old new) (sym e)
    (IsUnpacked-all asked t leaves false Well input left out last err told old new are (UnpackedAll-kept _ _ _ _ _ _ _ _ _ _ _ _ u k) refl end)
