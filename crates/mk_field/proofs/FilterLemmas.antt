-- Messages filtered in turn: what went out so far, and what is left to be said.
use Rattle.std.proofs.Common.{◌≡◌, ◌≤◌, ◌+◌, ◌-◌, ◌*◌, leb-true, nat_le, ◌⊎◌, ◌++◌, ◌||◌, ℕ, suc, Bool, true, false, not, if◌then◌else◌, Option, List, [], ◌∷◌, refl, ap, sym, ◌∙◌, subst, inl, inr, filter, length, length-append, append_assoc, append-nil, arith}
use Rattle.std.proofs.KnownBytes.{Appends-kept, Appends-nil, Appends-trans}
use Rattle.std.specs.Io.KnownBytes.{Keeps}
use Rattle.std.specs.List.{flat_map}
use Rattle.std.proofs.lemmas.Bool.{and_parts}
use Rattle.mk_line.specs.Lines.{cut, eol_of, is_lf, is_nil}
use Rattle.mk_head.specs.Fields.{FieldText, fields_of, is_named}
use Rattle.mk_head.specs.Split.{fields_from}
use Rattle.mk_mailbox.specs.Devices.{IsFull, IsLong}
use Rattle.mk_mailbox.specs.Held.{Held as Kept}
use Rattle.mk_mail.specs.Letters.{PlainLetters, are_allowed, fields_at, is_root}
use Rattle.mk_tree.specs.Documents.{tree}
use Rattle.mk_tree.specs.Sections.{root_of, section_fields}
use Rattle.mk_mail.specs.Rounds.{ByLetters, letters_by_ending}
use Rattle.mk_mailbox.specs.Mailboxes.{FitsReads, IsKnownWhole, IsNextPiece, IsOver, read_limit}
use Rattle.mk_mailbox.specs.Pieces.{mailbox_pieces}
use Rattle.mk_transfer.specs.declared.status.Status.{Status}
use Rattle.mk_transfer.specs.declared.status.Status.TheVariants.{Well, Refused, Usage, Fault, Memory as NoRoom}
use Rattle.mk_transfer.specs.declared.status.Cause.{Cause}
use Rattle.mk_transfer.specs.declared.status.Cause.TheVariants.{Read, Write, Memory}
use Rattle.mk_transfer.specs.declared.transfer.Stop.{Stop}
use Rattle.mk_transfer.specs.declared.transfer.Stop.TheVariants.{Fault as Stopped, Memory as Wanting}
use Rattle.mk_field.specs.FilterClauses.{EndsFiltered, Filters, GivesKnown, IsBroken, IsFiltered}
use Rattle.mk_field.specs.FilterViews.{is_round}
use Rattle.mk_field.specs.inner.Telling.{Gathers, GathersAll, GathersFront, GathersSome}
use Rattle.mk_field.proofs.GatheredLemmas.{flushed_all, front_more, front_none, front_on, gathers_all, gathers_on, gathers_then}
use Rattle.mk_field.specs.Filtering.{PlainFilter, missing_report, said_from, said_of}
use Rattle.mk_transfer.specs.RunClauses.{Counts, Held, IsBlamed, Reason, WriteFailed, cause_of_writing, held, status_of}
use Rattle.mk_transfer.specs.Said.{Run, shown, Said, said_after, silence}
use Rattle.mk_transfer.proofs.GivenUp.{not_reading}
use Rattle.mk_transfer.proofs.Fronts.{AppendsFront-following, not-is_nil-append, AppendsFront-none, AppendsFront-whole}

-- ---- what is said of messages, one after another

after_following : (a b c : Said) → said_after (said_after a b) c ≡ said_after a (said_after b c)
after_following a b c = λ i. record { output = append_assoc a.output b.output c.output i; errors = append_assoc a.errors b.errors c.errors i }

after_none : (a : Said) → said_after a silence ≡ a
after_none a = λ i. record { output = append-nil a.output i; errors = append-nil a.errors i }

said_append : (f : PlainFilter) (number : ℕ) (ms ns : List (List ℕ)) → said_from true f number (ms ++ ns) ≡ said_after (said_from true f number ms) (said_from true f (number + length ms) ns)
said_append f number [] ns = ap (λ k. said_from true f k ns) (omega arith)
said_append f number (m ∷ ms) ns =
    ap (said_after (said_of true f number m)) (said_append f (suc number) ms ns ∙ ap (λ k. said_after (said_from true f (suc number) ms) (said_from true f k ns)) (omega arith))
    ∙ sym (after_following (said_of true f number m) (said_from true f (suc number) ms) (said_from true f (number + length (m ∷ ms)) ns))

pub said_one : (each : Bool) (f : PlainFilter) (number : ℕ) (m : List ℕ) → said_from each f number (m ∷ []) ≡ said_of each f number m
said_one each f number m = after_none (said_of each f number m)

-- one message more
said_more : (f : PlainFilter) (turn : ℕ) (done : List (List ℕ)) (m : List ℕ) → turn ≡ length done → said_from true f 1 (done ++ m ∷ []) ≡ said_after (said_from true f 1 done) (said_of true f (turn + 1) m)
said_more f turn done m t =
    said_append f 1 done (m ∷ []) ∙ ap (said_after (said_from true f 1 done)) (said_one true f (1 + length done) m ∙ ap (λ k. said_of true f k m) (omega (arith, t)))

says_on : (a b : Said) (r s : Bool) (mid new : List ℕ) (out out_mid out_after err err_mid err_after : Option (List ℕ)) → GathersAll a r [] mid out out_mid err err_mid → GathersAll b s mid new out_mid out_after err_mid err_after
    → GathersAll (said_after a b) (r || s) [] new out out_after err err_after
says_on a b r s mid new out out_mid out_after err err_mid err_after x y = record {
  output = gathers_on a.output b.output [] mid new out out_mid out_after x.output y.output;
  errors = Appends-trans err err_mid err_after a.errors b.errors x.errors y.errors;
  refused_is = (λ i. x.refused_is i || y.refused_is i) ∙ sym (not-is_nil-append a.errors b.errors);
}

some_on : (a b c all : Said) (r : Bool) (mid new : List ℕ) (out out_mid out_after err err_mid err_after : Option (List ℕ)) → GathersAll a r [] mid out out_mid err err_mid → GathersSome b mid new out_mid out_after err_mid err_after
    → all ≡ said_after a (said_after b c) → GathersSome all [] new out out_after err err_after
some_on a b c all r mid new out out_mid out_after err err_mid err_after x y e = record {
  output = front_more (a.output ++ b.output) c.output all.output [] new out out_after (ap (λ (s : Said). s.output) e ∙ sym (append_assoc a.output b.output c.output))
      (front_on a.output b.output [] mid new out out_mid out_after x.output y.output);
  errors = AppendsFront-following err err_mid err_after a.errors b.errors c.errors all.errors x.errors y.errors (ap (λ (s : Said). s.errors) e);
}

-- ---- messages of a mailbox in turn

-- messages that went out, or are gathered: all that was read is these and what is kept, whatever is read later
pub record AreOut (f : PlainFilter) (turn : ℕ) (refused : Bool) (text : List ℕ) (done : List (List ℕ)) (now : Kept) (held : List ℕ) (out out_after err err_after : Option (List ℕ)) : Type 0 where
  pub pieces : (more : List ℕ) → (now.ended ≡ true → more ≡ []) → mailbox_pieces f.from_lines (text ++ more) ≡ done ++ mailbox_pieces f.from_lines (now.kept ++ more)
  pub says : GathersAll (said_from true f 1 done) refused [] held out out_after err err_after
  pub count : turn ≡ length done
  pub same : now.from_lines ≡ f.from_lines

pub none_out : (f : PlainFilter) (held : List ℕ) (out err : Option (List ℕ)) (now : Kept) → held ≡ [] → now.kept ≡ [] → now.from_lines ≡ f.from_lines → AreOut f 0 false [] [] now held out out err err
none_out f held out err now n e w = record {
  pieces = λ more _. ap (λ x. mailbox_pieces f.from_lines (x ++ more)) (sym e);
  says = record { output = gathers_all [] [] held out n; errors = Appends-nil err; refused_is = refl };
  count = refl;
  same = w;
}

-- more of what is gathered went out
pub moved_out : (f : PlainFilter) (turn : ℕ) (refused : Bool) (text : List ℕ) (done : List (List ℕ)) (now : Kept) (held left : List ℕ) (out out_mid out_after err err_after : Option (List ℕ))
    → AreOut f turn refused text done now held out out_mid err err_after → Gathers [] held left out_mid out_after → AreOut f turn refused text done now left out out_after err err_after
moved_out f turn refused text done now held left out out_mid out_after err err_after a g = record {
  pieces = a.pieces;
  says = record {
    output = gathers_then (said_from true f 1 done).output [] held left out out_mid out_after a.says.output g;
    errors = a.says.errors;
    refused_is = a.says.refused_is;
  };
  count = a.count;
  same = a.same;
}

-- what was read in a call, with what went before it
read_with : (f : PlainFilter) (turn : ℕ) (refused : Bool) (text read : List ℕ) (done : List (List ℕ)) (now : Kept) (held : List ℕ) (out out_after err err_after : Option (List ℕ))
    → AreOut f turn refused text done now held out out_after err err_after → (now.ended ≡ true → read ≡ [])
    → (more : List ℕ) → (now.ended ≡ true → more ≡ []) → mailbox_pieces f.from_lines ((text ++ read) ++ more) ≡ done ++ mailbox_pieces f.from_lines ((now.kept ++ read) ++ more)
read_with f turn refused text read done now held out out_after err err_after a r more m =
    ap (mailbox_pieces f.from_lines) (append_assoc text read more)
    ∙ (a.pieces (read ++ more) (λ e. (λ i. r e i ++ m e i)) ∙ ap (λ x. done ++ mailbox_pieces f.from_lines x) (sym (append_assoc now.kept read more)))

-- the same where nothing more is read
read_all : (f : PlainFilter) (turn : ℕ) (refused : Bool) (text read : List ℕ) (done : List (List ℕ)) (now : Kept) (held : List ℕ) (out out_after err err_after : Option (List ℕ))
    → AreOut f turn refused text done now held out out_after err err_after → (now.ended ≡ true → read ≡ [])
    → mailbox_pieces f.from_lines (text ++ read) ≡ done ++ mailbox_pieces f.from_lines (now.kept ++ read)
read_all f turn refused text read done now held out out_after err err_after a r =
    ap (mailbox_pieces f.from_lines) (sym (append-nil (text ++ read)))
    ∙ (read_with f turn refused text read done now held out out_after err err_after a r [] (λ _. refl) ∙ ap (λ x. done ++ mailbox_pieces f.from_lines x) (append-nil (now.kept ++ read)))

-- the next message, at the From-lines of the filter
next_on : (f : PlainFilter) (m read : List ℕ) (old now : Kept) (more : List ℕ) → old.from_lines ≡ f.from_lines → IsNextPiece m old read now → (now.ended ≡ true → more ≡ [])
    → mailbox_pieces f.from_lines ((old.kept ++ read) ++ more) ≡ m ∷ mailbox_pieces f.from_lines (now.kept ++ more)
next_on f m read old now more w p e = subst (λ way. mailbox_pieces way ((old.kept ++ read) ++ more) ≡ m ∷ mailbox_pieces way (now.kept ++ more)) w (p.stays more e)

-- a message more went out
pub one_out : (f : PlainFilter) (turn : ℕ) (refused told : Bool) (text read m : List ℕ) (done : List (List ℕ)) (old now : Kept) (held left : List ℕ) (out out_mid out_after err err_mid err_after : Option (List ℕ))
    → AreOut f turn refused text done old held out out_mid err err_mid → (old.ended ≡ true → read ≡ []) → (old.ended ≡ true → now.ended ≡ true) → now.from_lines ≡ old.from_lines → IsNextPiece m old read now
    → GathersAll (said_of true f (turn + 1) m) told held left out_mid out_after err_mid err_after
    → AreOut f (turn + 1) (refused || told) (text ++ read) (done ++ m ∷ []) now left out out_after err err_after
one_out f turn refused told text read m done old now held left out out_mid out_after err err_mid err_after a r s w p y = record {
  pieces = λ more e. read_with f turn refused text read done old held out out_mid err err_mid a r more (λ t. e (s t))
      ∙ (ap (λ xs. done ++ xs) (next_on f m read old now more a.same p e) ∙ sym (append_assoc done (m ∷ []) (mailbox_pieces f.from_lines (now.kept ++ more))));
  says = subst (λ said. GathersAll said (refused || told) [] left out out_after err err_after) (sym (said_more f turn done m a.count))
      (says_on (said_from true f 1 done) (said_of true f (turn + 1) m) refused told held left out out_mid out_after err err_mid err_after a.says y);
  count = omega (arith, a.count, length-append done (m ∷ []));
  same = w ∙ a.same;
}

-- a run that stops between two messages, where some of what is gathered may be lost
pub stopped_between : (f : PlainFilter) (turn : ℕ) (refused : Bool) (text read : List ℕ) (done : List (List ℕ)) (now : Kept) (held left : List ℕ) (out out_mid out_after err err_after : Option (List ℕ))
    → AreOut f turn refused text done now held out out_mid err err_after → (now.ended ≡ true → read ≡ []) → GathersFront [] held left out_mid out_after
    → GathersSome (said_from true f 1 (mailbox_pieces f.from_lines (text ++ read))) [] left out out_after err err_after
stopped_between f turn refused text read done now held left out out_mid out_after err err_after a r g =
    let rest = mailbox_pieces f.from_lines (now.kept ++ read) in
    let all = read_all f turn refused text read done now held out out_mid err err_after a r in
    some_on (said_from true f 1 done) silence (said_from true f (1 + length done) rest) (said_from true f 1 (mailbox_pieces f.from_lines (text ++ read))) refused held left out out_mid out_after err err_after err_after a.says
    (record { output = g; errors = AppendsFront-none err_after [] }) (ap (said_from true f 1) all ∙ said_append f 1 done rest)

-- the same where nothing more was read or went out
pub stopped_here : (f : PlainFilter) (turn : ℕ) (refused : Bool) (text : List ℕ) (done : List (List ℕ)) (now : Kept) (held : List ℕ) (out out_after err err_after : Option (List ℕ))
    → AreOut f turn refused text done now held out out_after err err_after → GathersSome (said_from true f 1 (mailbox_pieces f.from_lines text)) [] held out out_after err err_after
stopped_here f turn refused text done now held out out_after err err_after a =
    subst (λ x. GathersSome (said_from true f 1 (mailbox_pieces f.from_lines x)) [] held out out_after err err_after) (append-nil text)
    (stopped_between f turn refused text [] done now held held out out_after out_after err err_after a (λ _. refl) (front_none [] held out_after))

-- a run that stops within a message
pub stopped_within : (f : PlainFilter) (turn : ℕ) (refused : Bool) (text read m : List ℕ) (done : List (List ℕ)) (old now : Kept) (held left : List ℕ) (out out_mid out_after err err_mid err_after : Option (List ℕ))
    → AreOut f turn refused text done old held out out_mid err err_mid → (old.ended ≡ true → read ≡ []) → IsNextPiece m old read now → GathersSome (said_of true f (turn + 1) m) held left out_mid out_after err_mid err_after
    → GathersSome (said_from true f 1 (mailbox_pieces f.from_lines (text ++ read))) [] left out out_after err err_after
stopped_within f turn refused text read m done old now held left out out_mid out_after err err_mid err_after a r p y =
    let rest = mailbox_pieces f.from_lines (now.kept ++ []) in
    let all : mailbox_pieces f.from_lines (text ++ read) ≡ done ++ (m ∷ rest) =
    ap (mailbox_pieces f.from_lines) (sym (append-nil (text ++ read))) ∙ (read_with f turn refused text read done old held out out_mid err err_mid a r [] (λ _. refl) ∙ ap (λ xs. done ++ xs) (next_on f m read old now [] a.same p (λ _. refl))) in
    some_on (said_from true f 1 done) (said_of true f (turn + 1) m) (said_from true f (suc (1 + length done)) rest) (said_from true f 1 (mailbox_pieces f.from_lines (text ++ read))) refused held left out out_mid out_after err err_mid err_after a.says y
    (ap (said_from true f 1) all ∙ (said_append f 1 done (m ∷ rest) ∙ ap (λ k. said_after (said_from true f 1 done) (said_after (said_of true f k m) (said_from true f (suc (1 + length done)) rest))) (omega (arith, a.count))))

-- all messages went out
pub all_out : (f : PlainFilter) (turn : ℕ) (refused : Bool) (text read : List ℕ) (done : List (List ℕ)) (old now : Kept) (held : List ℕ) (out out_after err err_after : Option (List ℕ))
    → AreOut f turn refused text done old held out out_after err err_after → (old.ended ≡ true → read ≡ []) → IsOver old read now
    → GathersAll (said_from true f 1 (mailbox_pieces f.from_lines (text ++ read))) refused [] held out out_after err err_after
all_out f turn refused text read done old now held out out_after err err_after a r o =
    subst (λ ms. GathersAll (said_from true f 1 ms) refused [] held out out_after err err_after)
    (sym (read_all f turn refused text read done old held out out_after err err_after a r ∙ (ap (λ x. done ++ mailbox_pieces f.from_lines x) o.none ∙ append-nil done))) a.says

-- ---- reads

-- each message has a byte, and each read gives no more than a chunk
pub counted_on : (turn before reads now : ℕ) (m read : List ℕ) (old new : Kept) → (turn + length old.kept + read_limit * before ≤ read_limit * reads) ⊎ IsFull reads → FitsReads read reads now → IsNextPiece m old read new
    → ((turn + 1) + length new.kept + read_limit * before ≤ read_limit * now) ⊎ IsFull now
counted_on turn before reads now m read old new c f p =
    let sizes : length (old.kept ++ read) ≡ length (m ++ new.kept) = ap length p.whole in
    elim f [
      | inr full ↦ inr full
      | inl fits ↦ elim c [
        | inr full ↦ inr (omega (arith, full, fits))
        | inl less ↦ inl (omega (arith, less, fits, sizes, p.some, length-append old.kept read, length-append m new.kept))
      ]
    ]

pub long_on : (turn kept before reads now : ℕ) → (turn + kept + read_limit * before ≤ read_limit * reads) ⊎ IsFull reads → IsLong reads now → IsLong before now
long_on turn kept before reads now c h =
    elim h [
      | inr full ↦ inr full
      | inl more ↦ elim c [
        | inr full ↦ inr (omega (arith, full, more))
        | inl less ↦ inl (omega (arith, less, more))
      ]
    ]

-- ---- the fields of a name

pub given_begun : (f : FieldText → List ℕ) (name held head : List ℕ) (fields : List FieldText) → held ≡ [] → fields ≡ fields_of (fields_from false (cut head))
    → held ++ flat_map f (filter (is_named name) fields) ≡ flat_map f (filter (is_named name) (fields_of (fields_from false (cut head))))
given_begun f name held head fields e g = ap (λ x. x ++ flat_map f (filter (is_named name) fields)) e ∙ ap (λ fs. flat_map f (filter (is_named name) fs)) g

-- the fields of the section at the path of the root
pub fields_at_root : (path text : List ℕ) → is_root path ≡ true → fields_at path text ≡ section_fields (root_of (tree text))
fields_at_root [] text h = cc
fields_at_root (k ∷ []) text h = rw h refl
fields_at_root (k ∷ n ∷ ks) text h = cc

-- the root is there in every document
pub root_there : (path : List ℕ) (number : ℕ) (text : List ℕ) → is_root path ≡ true → missing_report path number text ≡ []
root_there [] number text h = cc
root_there (k ∷ []) number text h = rw h refl
root_there (k ∷ n ∷ ks) number text h = cc

-- ---- how a run ends

pub no_silence : {A : Type 0} → true ≡ false → A
no_silence e = cc

some_line : (t : Bool) → true ≡ not t → (if t then Well else Refused) ≡ Refused
some_line true h = cc
some_line false h = refl

no_line : (t : Bool) → false ≡ not t → (if t then Well else Refused) ≡ Well
no_line true h = refl
no_line false h = cc

-- messages that were filtered stay so by a call that writes nothing
pub IsFiltered-kept : (said : Said) (refused : Bool) (before : Held) (input out left err : Option (List ℕ))
    → IsFiltered said refused before (held input out err) → Keeps out left → IsFiltered said refused before (held input left err)
IsFiltered-kept said refused before input out left err f k = record {
  says = record { output = Appends-kept before.output out left said.output f.says.output k; errors = f.says.errors; refused_is = f.says.refused_is };
  ended = f.ended;
}

-- a run that stops once all messages were filtered
pub IsBroken-last : (IsKnown : Cause → Type 0) (each : Bool) (stop : Stop) (cause : Cause) (said : Said) (refused : Bool) (before : Held) (input out left err : Option (List ℕ))
    → cause ≡ cause_of_writing stop → IsFiltered said refused before (held input out err) → Keeps out left → ((cause ≡ Read → ⊥) → IsKnown cause)
    → IsBroken IsKnown each cause said before (held input left err)
IsBroken-last IsKnown each stop cause said refused before input out left err e f k known = record {
  says = record {
    output = AppendsFront-whole before.output left said.output (Appends-kept before.output out left said.output f.says.output k);
    errors = AppendsFront-whole before.errors err said.errors f.says.errors;
  };
  silent = λ _ r. not_reading stop cause e r;
  known = known (λ r. not_reading stop cause e r);
}

pub EndsFiltered-refused : (said : Said) (before after : Held) → IsFiltered said true before after → EndsFiltered Refused (shown said.output said.errors) before after
EndsFiltered-refused said before after f =
    record { status_is = some_line (is_nil said.errors) f.says.refused_is; written = record { output = f.says.output; errors = f.says.errors }; read = f.ended }

pub EndsFiltered-well : (said : Said) (before after : Held) → IsFiltered said false before after → EndsFiltered Well (shown said.output said.errors) before after
EndsFiltered-well said before after f =
    record { status_is = no_line (is_nil said.errors) f.says.refused_is; written = record { output = f.says.output; errors = f.says.errors }; read = f.ended }

-- a run that ended by itself
pub Filters-ended : (why : Reason) (IsKnown : Cause → Option (List ℕ) → Type 0) (each : Bool) (status : Status) (run : Run) (before after : Held) → EndsFiltered status run before after → Filters why IsKnown each status run before after
Filters-ended why IsKnown each Well run before after e = e
Filters-ended why IsKnown each Refused run before after e = e
Filters-ended why IsKnown each Usage run before after e = e
Filters-ended why IsKnown each Fault run before after e = absurd e
Filters-ended why IsKnown each NoRoom run before after e = absurd e

pub Filters-given_up : (why : Reason) (IsKnown : Cause → Option (List ℕ) → Type 0) (each : Bool) (cause : Cause) (said : Said) (before : Held) (input output between errors : Option (List ℕ))
    → IsBroken (λ cause. IsKnown cause between) each cause said before (held input output between)
    → why cause between errors → Filters why IsKnown each (status_of cause) (shown said.output said.errors) before (held input output errors)
Filters-given_up why IsKnown each Read said before input output between errors b line =
    record { output = b.says.output; cause = Read; status_is = refl; between = between; errors = b.says.errors; line = line; silent = b.silent; known = b.known }
Filters-given_up why IsKnown each Write said before input output between errors b line =
    record { output = b.says.output; cause = Write; status_is = refl; between = between; errors = b.says.errors; line = line; silent = b.silent; known = b.known }
Filters-given_up why IsKnown each Memory said before input output between errors b line =
    record { output = b.says.output; cause = Memory; status_is = refl; between = between; errors = b.says.errors; line = line; silent = b.silent; known = b.known }

-- ---- messages that are known to be whole

-- reading failed between two messages once all that was gathered had gone out, and of what is kept none is known to be whole
pub known_between : (f : PlainFilter) (turn : ℕ) (refused : Bool) (text read : List ℕ) (done : List (List ℕ)) (old new : Kept) (held : List ℕ) (out out_mid out_after err err_after : Option (List ℕ))
    → AreOut f turn refused text done old held out out_mid err err_after → Gathers [] held [] out_mid out_after → (old.ended ≡ true → read ≡ []) → new.kept ≡ old.kept ++ read → (IsKnownWhole old.from_lines new.kept → ⊥)
    → GivesKnown f (text ++ read) out out_after err err_after
known_between f turn refused text read done old new held out out_mid out_after err err_after a g r k u = record {
  given = done;
  rest = new.kept;
  parts = read_all f turn refused text read done old held out out_mid err err_after a r ∙ ap (λ x. done ++ mailbox_pieces f.from_lines x) (sym k);
  unknown = λ known. u (subst (λ way. IsKnownWhole way new.kept) (sym a.same) known);
  output = flushed_all (said_from true f 1 done).output [] out out_after out_after (moved_out f turn refused text done old held [] out out_mid out_after err err_after a g).says.output (Appends-nil out_after);
  errors = a.says.errors;
}

-- so many reads were made that reading is given up
pub too_many : (t : Bool) (before now : ℕ) → t ≡ nat_le 2147483647 (now - before) → t ≡ true → IsLong before now
too_many t before now e h = inl (enough (nat_le 2147483647 (now - before)) refl (sym e ∙ h))
  where
    enough : (u : Bool) → nat_le 2147483647 (now - before) ≡ u → u ≡ true → before + 2147483647 ≤ now
    enough u k g = let m : 2147483647 ≤ now - before = leb-true _ _ (k ∙ g) in omega (arith, m)

-- sending a message stopped
pub sending_blamed : (stop : Stop) (cause : Cause) (before after : Counts) → cause ≡ cause_of_writing stop → (stop ≡ Stopped → WriteFailed before after)
    → (stop ≡ Wanting → (after.output ≡ before.output) × (after.errors ≡ before.errors)) → after.input ≡ before.input → before.errors ≤ after.errors → IsBlamed cause before after
sending_blamed Stopped cause before after e fault memory input errors = subst (λ c. IsBlamed c before after) (sym e) (record { failed = fault refl; input = input; errors = errors })
sending_blamed Wanting cause before after e fault memory input errors =
    let same = memory refl in subst (λ c. IsBlamed c before after) (sym e) (record { input = input; output = same.0; errors = same.1 })

pub not_both_stops : {A : Type 0} (stop : Stop) → stop ≡ Stopped → stop ≡ Wanting → A
not_both_stops stop a b = cc

-- so many messages were read that reading is given up
pub turns_out : (turn kept before reads : ℕ) → 18446744073709551615 ≤ turn → (turn + kept + read_limit * before ≤ read_limit * reads) ⊎ IsFull reads → IsLong before reads
turns_out turn kept before reads end c = elim c [ inr full ↦ inr full | inl less ↦ inl (omega (arith, end, less)) ]

-- those of two letters that are for a text may be asked for
pub allowed_for : (lf crlf : PlainLetters) (text : List ℕ) → is_round (ByLetters lf crlf) ≡ true → are_allowed (letters_by_ending lf crlf text) ≡ true
allowed_for lf crlf text h = let both = and_parts (are_allowed lf) (are_allowed crlf) h in either (is_lf (eol_of (cut text))) both.0 both.1
  where
    either : (is_lf : Bool) → are_allowed lf ≡ true → are_allowed crlf ≡ true → are_allowed (if is_lf then lf else crlf) ≡ true
    either true a b = a
    either false a b = b

-- a mailbox of which no part changed is as it was
pub kept_same : (a b : Kept) → a.kept ≡ b.kept → a.ended ≡ b.ended → a.from_lines ≡ b.from_lines → a ≡ b
kept_same a b k e f =
    ap (λ x. record { kept = x; ended = a.ended; from_lines = a.from_lines }) k
    ∙ ap (λ x. record { kept = b.kept; ended = x; from_lines = a.from_lines }) e
    ∙ ap (λ x. record { kept = b.kept; ended = b.ended; from_lines = x }) f
