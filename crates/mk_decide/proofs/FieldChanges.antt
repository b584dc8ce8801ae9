-- The four edits of fields show of themselves what an edit has to.
use Rattle.std.proofs.Common.{◌≡◌, ◌++◌, ℕ, Bool, true, false, not, Option, Some, List, [], ◌∷◌, refl, sym, subst}
use Rattle.mk_line.specs.Lines.{TextLine, cut}
use Rattle.mk_line.proofs.Cuts.{lines_cut}
use Rattle.std.specs.Option.{option_to_list}
use Rattle.mk_head.specs.Splits.{IsRun}
use Rattle.mk_head.specs.Fields.{is_one_field}
use Rattle.mk_tree.specs.Cutting.{tail_lines, Unmarked}
use Rattle.mk_tree.specs.Tree.{Entity, leaf, message, multi, print, print_parts, field_lines, with_fields}
use Rattle.mk_tree.specs.Places.{Frame}
use Rattle.mk_tree.specs.Reading.{IsWellRead}
use Rattle.mk_tree.proofs.Plugs.{unmarked_left, unmarked_right, unmarked_join}
use Rattle.mk_decide.proofs.PlanNames.{added}
use Rattle.mk_line.specs.Kinds.{is_name}
use Rattle.mk_decide.specs.FieldEdits.{Found, renamed}
use Rattle.mk_decide.specs.Plans.{Plan, fields_plan}
use Rattle.mk_decide.specs.Local.{AreFieldsFor}
use Rattle.mk_decide.proofs.Openings.{Each, each_line, each_join, each_front, each_back}
use Rattle.mk_decide.proofs.Late.{IsFair}
use Rattle.mk_decide.proofs.Locals.{IsEdit}
use Rattle.mk_decide.proofs.NewFields.{fields_read, read_fields}
use Rattle.mk_decide.proofs.Runs.{run_join, one_run, added_run, IsFound, FoundIn, run_before, run_following, run_after, run_start}
use Rattle.mk_decide.proofs.Renaming.{renamed_start, renamed_line}

-- the lines of an entity's fields, and the others
pub fields_each : (s : Entity) → Each (print s) → Each (field_lines s)
fields_each (leaf h ls) e = each_front h.fields (option_to_list h.separator) (each_front (h.fields ++ option_to_list h.separator) ls e)
fields_each (message h x) e = each_front h.fields (option_to_list h.separator) (each_front (h.fields ++ option_to_list h.separator) (print x) e)
fields_each (multi h b pre ps t) e = each_front h.fields (option_to_list h.separator) (each_front (h.fields ++ option_to_list h.separator) (pre ++ (print_parts ps ++ tail_lines t)) e)

each_fields : (fields : List TextLine) (s : Entity) → Each fields → Each (print s) → Each (print (with_fields fields s))
each_fields fields (leaf h ls) f e =
    each_join (fields ++ option_to_list h.separator) ls (each_join fields (option_to_list h.separator) f (each_back h.fields (option_to_list h.separator) (each_front (h.fields ++ option_to_list h.separator) ls e))) (each_back (h.fields ++ option_to_list h.separator) ls e)
each_fields fields (message h x) f e =
    each_join (fields ++ option_to_list h.separator) (print x) (each_join fields (option_to_list h.separator) f (each_back h.fields (option_to_list h.separator) (each_front (h.fields ++ option_to_list h.separator) (print x) e))) (each_back (h.fields ++ option_to_list h.separator) (print x) e)
each_fields fields (multi h b pre ps t) f e =
    let body = pre ++ (print_parts ps ++ tail_lines t) in
    each_join (fields ++ option_to_list h.separator) body (each_join fields (option_to_list h.separator) f (each_back h.fields (option_to_list h.separator) (each_front (h.fields ++ option_to_list h.separator) body e))) (each_back (h.fields ++ option_to_list h.separator) body e)

pub fields_marks : (c : List ℕ) (s : Entity) → Unmarked c (print s) → Unmarked c (field_lines s)
fields_marks c (leaf h ls) u = unmarked_left c h.fields (option_to_list h.separator) (unmarked_left c (h.fields ++ option_to_list h.separator) ls u)
fields_marks c (message h x) u = unmarked_left c h.fields (option_to_list h.separator) (unmarked_left c (h.fields ++ option_to_list h.separator) (print x) u)
fields_marks c (multi h b pre ps t) u = unmarked_left c h.fields (option_to_list h.separator) (unmarked_left c (h.fields ++ option_to_list h.separator) (pre ++ (print_parts ps ++ tail_lines t)) u)

body_marks : (c : List ℕ) (fields front rest : List TextLine) (o : List TextLine) → Unmarked c ((front ++ o) ++ rest) → Unmarked c fields → Unmarked c ((fields ++ o) ++ rest)
body_marks c fields front rest o u v =
    unmarked_join c (fields ++ o) rest (unmarked_join c fields o v (unmarked_right c front o (unmarked_left c (front ++ o) rest u))) (unmarked_right c (front ++ o) rest u)

marks_fields : (c : List ℕ) (fields : List TextLine) (s : Entity) → Unmarked c fields → Unmarked c (print s) → Unmarked c (print (with_fields fields s))
marks_fields c fields (leaf h ls) v u = body_marks c fields h.fields ls (option_to_list h.separator) u v
marks_fields c fields (message h x) v u = body_marks c fields h.fields (print x) (option_to_list h.separator) u v
marks_fields c fields (multi h b pre ps t) v u = body_marks c fields h.fields (pre ++ (print_parts ps ++ tail_lines t)) (option_to_list h.separator) u v

pub fields_same : (fields : List TextLine) (s : Entity) → field_lines (with_fields fields s) ≡ fields
fields_same fields (leaf h ls) = refl
fields_same fields (message h e) = refl
fields_same fields (multi h b pre ps t) = refl

pub run_read : (n : ℕ) (d : Bool) (s : Entity) → IsWellRead n d s → IsRun false (field_lines s)
run_read n d (leaf h ls) w = w.0.run
run_read n d (message h e) w = w.0.run
run_read n d (multi h b pre ps t) w = w.0.run

-- what the new fields of an edit show
pub record AreNew (s : Entity) (fields given : List TextLine) : Type 0 where
  pub run : IsRun false (field_lines s) → IsRun false fields
  pub lines : Each (field_lines s) → Each fields
  pub marks : (b : List ℕ) → Unmarked b (field_lines s) → Unmarked b given → Unmarked b fields

-- an edit of fields, and where it is
abbrev pub FieldsEdit : ℕ → Bool → List Frame → Entity → Plan → Type 0
FieldsEdit n d fs s p = (p.around ≡ fs) × IsEdit n d s p (AreFieldsFor n d (field_lines p.new) s)

pub fields_edit : (n : ℕ) (d : Bool) (fs : List Frame) (s : Entity) (fields given : List TextLine) → IsFair (fields_plan fs s fields given) → AreNew s fields given → FieldsEdit n d fs s (fields_plan fs s fields given)
fields_edit n d fs s fields given f a = (
  refl,
  subst (λ xs. IsEdit n d s (fields_plan fs s fields given) (AreFieldsFor n d xs s)) (sym (fields_same fields s)) (record {
    fair = f;
    lines = λ w k e. each_fields fields s (a.lines (fields_each s e)) e;
    marks = λ b w u v. marks_fields b fields s (a.marks b (fields_marks b s u) v) u;
    asked_of = λ w e v. read_fields n d fields s w v;
    of_asked = λ w e u k. fields_read n d fields s (a.run (run_read n d s w)) w k;
  }),
)

given_each : (text : List ℕ) → Each (cut text)
given_each text = each_line (cut text) (lines_cut text)

-- a field more
added_each : (top : Bool) (given fields : List TextLine) → Each given → Each fields → Each (added top given fields)
added_each true given fields g f = each_join given fields g f
added_each false given fields g f = each_join fields given f g

added_marks : (b : List ℕ) (top : Bool) (given fields : List TextLine) → Unmarked b given → Unmarked b fields → Unmarked b (added top given fields)
added_marks b true given fields g f = unmarked_join b given fields g f
added_marks b false given fields g f = unmarked_join b fields given f g

pub add_new : (s : Entity) (top : Bool) (text : List ℕ) → is_one_field (cut text) ≡ true → AreNew s (added top (cut text) (field_lines s)) (cut text)
add_new s top text h = record {
  run = λ r. added_run top (cut text) (field_lines s) (one_run (cut text) h) r;
  lines = λ e. added_each top (cut text) (field_lines s) (given_each text) e;
  marks = λ b u v. added_marks b top (cut text) (field_lines s) v u;
}

-- the lines around a field
before_each : (ls : List TextLine) (f : Found) → IsFound ls f → Each ls → Each f.before
before_each ls f h e = each_front f.before (f.start ∷ (f.more ++ f.after)) (subst Each (sym h.whole) e)

pub following_each : (ls : List TextLine) (f : Found) → IsFound ls f → Each ls → Each (f.start ∷ (f.more ++ f.after))
following_each ls f h e = each_back f.before (f.start ∷ (f.more ++ f.after)) (subst Each (sym h.whole) e)

after_each : (ls : List TextLine) (f : Found) → IsFound ls f → Each ls → Each f.after
after_each ls f h e = each_back f.more f.after (following_each ls f h e).1

before_marks : (b : List ℕ) (ls : List TextLine) (f : Found) → IsFound ls f → Unmarked b ls → Unmarked b f.before
before_marks b ls f h u = unmarked_left b f.before (f.start ∷ (f.more ++ f.after)) (subst (Unmarked b) (sym h.whole) u)

following_marks : (b : List ℕ) (ls : List TextLine) (f : Found) → IsFound ls f → Unmarked b ls → Unmarked b (f.start ∷ (f.more ++ f.after))
following_marks b ls f h u = unmarked_right b f.before (f.start ∷ (f.more ++ f.after)) (subst (Unmarked b) (sym h.whole) u)

after_marks : (b : List ℕ) (ls : List TextLine) (f : Found) → IsFound ls f → Unmarked b ls → Unmarked b f.after
after_marks b ls f h u = unmarked_right b f.more f.after (following_marks b ls f h u).1

-- without a field
pub drop_new : (s : Entity) (f : Found) → IsFound (field_lines s) f → AreNew s (f.before ++ f.after) []
drop_new s f h = record {
  run = λ r. run_join false f.before f.after (run_before (field_lines s) f h r) (run_after (field_lines s) f h r);
  lines = λ e. each_join f.before f.after (before_each (field_lines s) f h e) (after_each (field_lines s) f h e);
  marks = λ b u v. unmarked_join b f.before f.after (before_marks b (field_lines s) f h u) (after_marks b (field_lines s) f h u);
}

-- with lines in the place of a field
pub change_new : (s : Entity) (f : Found) (text : List ℕ) → is_one_field (cut text) ≡ true → IsFound (field_lines s) f → AreNew s (f.before ++ (cut text ++ f.after)) (cut text)
change_new s f text o h = record {
  run = λ r. run_join false f.before (cut text ++ f.after) (run_before (field_lines s) f h r) (run_join false (cut text) f.after (one_run (cut text) o) (run_after (field_lines s) f h r));
  lines = λ e. each_join f.before (cut text ++ f.after) (before_each (field_lines s) f h e) (each_join (cut text) f.after (given_each text) (after_each (field_lines s) f h e));
  marks = λ b u v. unmarked_join b f.before (cut text ++ f.after) (before_marks b (field_lines s) f h u) (unmarked_join b (cut text) f.after v (after_marks b (field_lines s) f h u));
}

-- with a field of another name
pub rename_new : (s : Entity) (f : Found) (to : List ℕ) → is_name to ≡ true → IsFound (field_lines s) f → AreNew s (f.before ++ (renamed to f.start ∷ (f.more ++ f.after))) (renamed to f.start ∷ [])
rename_new s f to o h = record {
  run = λ r. run_join false f.before (renamed to f.start ∷ (f.more ++ f.after)) (run_before (field_lines s) f h r) (run_start (renamed to f.start) (f.more ++ f.after) (renamed_start to f.start o h.start) (run_following (field_lines s) f h r));
  lines = λ e. each_join f.before (renamed to f.start ∷ (f.more ++ f.after)) (before_each (field_lines s) f h e) (renamed_line to f.start o h.start (following_each (field_lines s) f h e).0, (following_each (field_lines s) f h e).1);
  marks = λ b u v. unmarked_join b f.before (renamed to f.start ∷ (f.more ++ f.after)) (before_marks b (field_lines s) f h u) (v.0, (following_marks b (field_lines s) f h u).1);
}

-- the answers
not_false : (t : Bool) → not t ≡ false → t ≡ true
not_false true h = refl
not_false false h = cc

pub not_true : (t : Bool) → not t ≡ false → t ≡ true
not_true t h = not_false t h

found_there : (ls : List TextLine) (o : Option Found) (f : Found) → FoundIn ls o → o ≡ Some f → IsFound ls f
found_there ls o f h e = subst (FoundIn ls) e h
