-- Splices that lead from the text before to the text after, and back; those of edits of fields.
use Rattle.std.proofs.Common.{◌≡◌, ◌+◌, ◌++◌, if◌then◌else◌, ℕ, Bool, true, false, Option, List, [], ◌∷◌, refl, ap, sym, ◌∙◌, subst, length, arith, append_assoc, length-append, add-zero}
use Rattle.mk_line.specs.Lines.{TextLine, text_of, cut, printed_line, ending_bytes}
use Rattle.mk_line.proofs.Cuts.{text_append, text_cut, append_nil}
use Rattle.std.specs.Option.{option_to_list}
use Rattle.mk_head.specs.Fields.{name_of}
use Rattle.mk_tree.specs.Tree.{Entity, print, field_lines, with_fields}
use Rattle.mk_tree.specs.Documents.{printed}
use Rattle.mk_tree.specs.Spans.{size}
use Rattle.mk_tree.specs.Places.{Frame, put, placed, lines_before, lines_after}
use Rattle.mk_splice.specs.Splices.{spliced, Splice, Stands, forth_step, GoesForth, LeadsTo}
use Rattle.mk_splice.proofs.Bytes.{spliced_there, stands_there, leads_to}
use Rattle.mk_tree.proofs.HeadChanged.{after_fields, entity_lines, changed_lines}
use Rattle.mk_tree.proofs.Plugs.{lines_end, print_plug}
use Rattle.mk_decide.specs.FieldEdits.{Found, after_name, renamed}
use Rattle.mk_decide.specs.Plans.{Plan, planned}
use Rattle.mk_decide.proofs.PlanNames.{add_plan, drop_plan, rename_plan, change_plan}
use Rattle.mk_decide.specs.EditSplices.{one_splice}
use Rattle.mk_decide.proofs.Counting.{name_before}
use Rattle.mk_decide.proofs.Runs.{IsFound}

-- bytes that go and come between others
pub record Led (text new_text : List ℕ) (ss : List Splice) : Type 0 where
  pub front : List ℕ
  pub old : List ℕ
  pub new : List ℕ
  pub following : List ℕ
  pub splices : ss ≡ one_splice (length front) old new
  pub before : text ≡ front ++ (old ++ following)
  pub after : new_text ≡ front ++ (new ++ following)

pub leads : (text new_text : List ℕ) (ss : List Splice) → Led text new_text ss → LeadsTo ss text new_text
leads text new_text ss l =
    let stands : GoesForth (one_splice (length l.front) l.old l.new) text = (subst (Stands (length l.front) l.old) (sym l.before) (stands_there l.front l.old l.following), tt) in
    leads_to ss text new_text (subst (λ rs. GoesForth rs text) (sym l.splices) stands)
    (ap (λ rs. forth_step rs text) l.splices ∙ (ap (spliced (length l.front) (length l.old) l.new) l.before ∙ (spliced_there l.front l.old l.following l.new ∙ sym l.after)))

-- the same between the lines of a section
pub record Within (s n : Entity) (at : ℕ) (old new : List ℕ) : Type 0 where
  pub front : List ℕ
  pub following : List ℕ
  pub at_is : at ≡ length front
  pub before : text_of (print s) ≡ front ++ (old ++ following)
  pub after : text_of (print n) ≡ front ++ (new ++ following)

put_text : (envelope : Option TextLine) (fs : List Frame) (s : Entity) (front mid following : List ℕ) → text_of (print s) ≡ front ++ (mid ++ following)
    → printed (put envelope fs s) ≡ (text_of (option_to_list envelope ++ lines_before fs) ++ front) ++ (mid ++ (following ++ text_of (lines_after fs)))
put_text envelope fs s front mid following e =
    let all = option_to_list envelope ++ lines_before fs in
    ap (λ ls. text_of (option_to_list envelope ++ ls)) (print_plug fs s)
    ∙ (ap text_of (sym (append_assoc (option_to_list envelope) (lines_before fs) (print s ++ lines_after fs)))
    ∙ (text_append all (print s ++ lines_after fs)
    ∙ (ap (λ t. text_of all ++ t) (text_append (print s) (lines_after fs))
    ∙ (ap (λ t. text_of all ++ (t ++ text_of (lines_after fs))) e ∙ simp append_assoc refl))))

pub put_led : (envelope : Option TextLine) (fs : List Frame) (s n : Entity) (at : ℕ) (old new : List ℕ) → Within s n at old new → Led (printed (put envelope fs s)) (printed (put envelope fs n)) (one_splice ((placed envelope fs s).start + at) old new)
put_led envelope fs s n at old new w =
    let all = option_to_list envelope ++ lines_before fs in
    let start : size all + at ≡ length (text_of all ++ w.front) = omega (arith, w.at_is, length-append (text_of all) w.front) in
    record {
      front = text_of all ++ w.front;
      old = old;
      new = new;
      following = w.following ++ text_of (lines_after fs);
      splices = ap (λ k. one_splice k old new) start;
      before = put_text envelope fs s w.front old w.following w.before;
      after = put_text envelope fs n w.front new w.following w.after;
    }

-- where the section begins
pub put_first : (envelope : Option TextLine) (fs : List Frame) (s n : Entity) (old new : List ℕ) → Within s n 0 old new → Led (printed (put envelope fs s)) (printed (put envelope fs n)) (one_splice (placed envelope fs s).start old new)
put_first envelope fs s n old new w =
    subst (λ k. Led (printed (put envelope fs s)) (printed (put envelope fs n)) (one_splice k old new)) (add-zero (placed envelope fs s).start) (put_led envelope fs s n 0 old new w)

-- lines in the place of others among the fields, of which the last bytes stay
regroup : (x gone kept z : List ℕ) → x ++ ((gone ++ kept) ++ z) ≡ x ++ (gone ++ (kept ++ z))
regroup x gone kept z = simp append_assoc refl

fields_text : (before mid after rest : List TextLine) (some kept : List ℕ) → text_of mid ≡ some ++ kept → text_of ((before ++ (mid ++ after)) ++ rest) ≡ text_of before ++ (some ++ (kept ++ (text_of after ++ text_of rest)))
fields_text before mid after rest some kept e =
    text_append (before ++ (mid ++ after)) rest
    ∙ (ap (λ t. t ++ text_of rest) (text_append before (mid ++ after) ∙ ap (λ t. text_of before ++ t) (text_append mid after ∙ ap (λ t. t ++ text_of after) e)) ∙ simp append_assoc refl)

pub fields_within : (s : Entity) (before old given after : List TextLine) (gone new kept : List ℕ) → before ++ (old ++ after) ≡ field_lines s → text_of old ≡ gone ++ kept → text_of given ≡ new ++ kept
    → Within s (with_fields (before ++ (given ++ after)) s) (size before) gone new
fields_within s before old given after gone new kept w o g = record {
  front = text_of before;
  following = kept ++ (text_of after ++ text_of (after_fields s));
  at_is = refl;
  before = ap text_of (entity_lines s ∙ ap (λ ls. ls ++ after_fields s) (sym w)) ∙ fields_text before old after (after_fields s) gone kept o;
  after = ap text_of (changed_lines (before ++ (given ++ after)) s) ∙ fields_text before given after (after_fields s) new kept g;
}

-- a plan and the splice of its edit
abbrev pub IsLed : Option TextLine → List Frame → Entity → List Splice → Plan → Type 0
IsLed envelope fs s ss p = Led (printed (put envelope fs s)) (printed (planned envelope p)) ss

pub add_led : (envelope : Option TextLine) (fs : List Frame) (s : Entity) (top : Bool) (text : List ℕ) → IsLed envelope fs s (one_splice (if top then (placed envelope fs s).start else (placed envelope fs s).start + size (field_lines s)) [] text) (add_plan fs s top (cut text))
add_led envelope fs s true text =
    put_first envelope fs s (with_fields (cut text ++ field_lines s) s) [] text (fields_within s [] [] (cut text) (field_lines s) [] text [] refl refl (text_cut text ∙ sym (append_nil text)))
add_led envelope fs s false text =
    subst (λ ls. Led (printed (put envelope fs s)) (printed (put envelope fs (with_fields (field_lines s ++ ls) s))) (one_splice ((placed envelope fs s).start + size (field_lines s)) [] text)) (lines_end (cut text))
    (put_led envelope fs s (with_fields (field_lines s ++ (cut text ++ [])) s) (size (field_lines s)) [] text (fields_within s (field_lines s) [] (cut text) [] [] text [] (lines_end (field_lines s)) refl (text_cut text ∙ sym (append_nil text))))

pub drop_led : (envelope : Option TextLine) (fs : List Frame) (s : Entity) (f : Found) → IsFound (field_lines s) f → IsLed envelope fs s (one_splice ((placed envelope fs s).start + size f.before) (text_of (f.start ∷ f.more)) []) (drop_plan fs s f)
drop_led envelope fs s f h =
    put_led envelope fs s (with_fields (f.before ++ f.after) s) (size f.before) (text_of (f.start ∷ f.more)) [] (fields_within s f.before (f.start ∷ f.more) [] f.after (text_of (f.start ∷ f.more)) [] [] h.whole (sym (append_nil (text_of (f.start ∷ f.more)))) refl)

pub change_led : (envelope : Option TextLine) (fs : List Frame) (s : Entity) (text : List ℕ) (f : Found) → IsFound (field_lines s) f → IsLed envelope fs s (one_splice ((placed envelope fs s).start + size f.before) (text_of (f.start ∷ f.more)) text) (change_plan fs s (cut text) f)
change_led envelope fs s text f h =
    put_led envelope fs s (with_fields (f.before ++ (cut text ++ f.after)) s) (size f.before) (text_of (f.start ∷ f.more)) text
    (fields_within s f.before (f.start ∷ f.more) (cut text) f.after (text_of (f.start ∷ f.more)) text [] h.whole (sym (append_nil (text_of (f.start ∷ f.more)))) (text_cut text ∙ sym (append_nil text)))

pub rename_led : (envelope : Option TextLine) (fs : List Frame) (s : Entity) (to : List ℕ) (f : Found) → IsFound (field_lines s) f → IsLed envelope fs s (one_splice ((placed envelope fs s).start + size f.before) (name_of f.start) to) (rename_plan fs s to f)
rename_led envelope fs s to f h =
    put_led envelope fs s (with_fields (f.before ++ (renamed to f.start ∷ (f.more ++ f.after))) s) (size f.before) (name_of f.start) to
    (fields_within s f.before (f.start ∷ []) (renamed to f.start ∷ []) (f.more ++ f.after) (name_of f.start) to (after_name f.start.content ++ ending_bytes f.start.ending) h.whole
    (append_nil (printed_line f.start) ∙ (ap (λ xs. xs ++ ending_bytes f.start.ending) (sym (name_before f.start.content)) ∙ append_assoc (name_of f.start) (after_name f.start.content) (ending_bytes f.start.ending)))
    (append_nil (printed_line (renamed to f.start)) ∙ append_assoc to (after_name f.start.content) (ending_bytes f.start.ending)))
