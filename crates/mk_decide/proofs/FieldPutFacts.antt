-- What an edit of fields puts among lines: the lines around are theirs, and the bytes that stay end both the old lines
-- and the given ones.
use Rattle.std.proofs.Common.{◌≡◌, ◌+◌, ◌≤◌, ◌++◌, ℕ, Bool, true, false, not, Option, None, Some, Result, Ok, Err, List, [], ◌∷◌, refl, ap, sym, ◌∙◌, length, arith, append_assoc, length-append}
use Rattle.mk_line.specs.Lines.{TextLine, cut, text_of, printed_line, ending_bytes}
use Rattle.mk_line.proofs.Cuts.{append_nil}
use Rattle.mk_head.specs.Fields.{name_of, is_one_field}
use Rattle.mk_tree.specs.Spans.{size}
use Rattle.mk_tree.proofs.Descent.{size_append}
use Rattle.mk_tree.proofs.Plugs.{lines_end}
use Rattle.mk_decide.specs.declared.field_edits.FieldEdit.{FieldEdit}
use Rattle.mk_decide.specs.declared.field_edits.FieldEdit.TheVariants.{Add, Remove, Rename, Set}
use Rattle.mk_decide.specs.declared.field_edits.Put.{Put}
use Rattle.mk_decide.specs.Edits.{Refusal, BadField, BadName}
use Rattle.mk_line.specs.Kinds.{is_name}
use Rattle.mk_decide.specs.FieldEdits.{Found, field_at, after_name, renamed}
use Rattle.mk_decide.specs.FieldPuts.{LinePut, add_put, set_put, name_put, puts, PutsLines, IsPut}
use Rattle.mk_decide.proofs.PlanNames.{put_unless, with_field}
use Rattle.mk_decide.proofs.Runs.{IsFound, FoundIn, field_is}
use Rattle.mk_decide.proofs.Counting.{name_before}

pub record IsLinePut (fields : List TextLine) (q : LinePut) : Type 0 where
  pub gone : List ℕ
  pub new : List ℕ
  pub whole : q.before ++ (q.old ++ q.after) ≡ fields
  pub old_is : text_of q.old ≡ gone ++ q.kept
  pub given_is : text_of q.given ≡ new ++ q.kept

abbrev pub Puts : List TextLine → Result LinePut Refusal → Type 0
Puts fields (Ok q) = IsLinePut fields q
Puts fields (Err e) = Unit {0}

unless_puts : (fields : List TextLine) (t : Bool) (e : Refusal) (q : LinePut) → IsLinePut fields q → Puts fields (put_unless t e q)
unless_puts fields true e q h = tt
unless_puts fields false e q h = h

found_puts : (fields : List TextLine) (o : Option Found) (g : Found → Result LinePut Refusal) → FoundIn fields o → ((f : Found) → IsFound fields f → Puts fields (g f)) → Puts fields (with_field o g)
found_puts fields None g h k = tt
found_puts fields (Some f) g h k = k f h

add_is : (fields : List TextLine) (top : Bool) (given : List TextLine) → IsLinePut fields (add_put top given fields)
add_is fields true given = record { gone = []; new = text_of given; whole = refl; old_is = refl; given_is = sym (append_nil (text_of given)) }
add_is fields false given = record { gone = []; new = text_of given; whole = lines_end fields; old_is = refl; given_is = sym (append_nil (text_of given)) }

set_is : (fields given : List TextLine) (f : Found) → IsFound fields f → IsLinePut fields (set_put given f)
set_is fields given f h = record {
  gone = text_of (f.start ∷ f.more);
  new = text_of given;
  whole = h.whole;
  old_is = sym (append_nil (text_of (f.start ∷ f.more)));
  given_is = sym (append_nil (text_of given));
}

name_is : (fields : List TextLine) (to : List ℕ) (f : Found) → IsFound fields f → IsLinePut fields (name_put to f)
name_is fields to f h = record {
  gone = name_of f.start;
  new = to;
  whole = h.whole;
  old_is = append_nil (printed_line f.start) ∙ (ap (λ xs. xs ++ ending_bytes f.start.ending) (sym (name_before f.start.content)) ∙ append_assoc (name_of f.start) (after_name f.start.content) (ending_bytes f.start.ending));
  given_is = append_nil (printed_line (renamed to f.start)) ∙ append_assoc to (after_name f.start.content) (ending_bytes f.start.ending);
}

pub puts_is : (edit : FieldEdit) (fields : List TextLine) → Puts fields (puts edit fields)
puts_is (Add top text) fields = unless_puts fields (not (is_one_field (cut text.now))) BadField (add_put top (cut text.now) fields) (add_is fields top (cut text.now))
puts_is (Remove name k) fields = found_puts fields (field_at name.now k fields) (λ f. Ok (set_put [] f)) (field_is name.now k fields) (λ f h. set_is fields [] f h)
puts_is (Rename name k to) fields =
    found_puts fields (field_at name.now k fields) (λ f. put_unless (not (is_name to.now)) BadName (name_put to.now f)) (field_is name.now k fields)
    (λ f h. unless_puts fields (not (is_name to.now)) BadName (name_put to.now f) (name_is fields to.now f h))
puts_is (Set name k text) fields =
    found_puts fields (field_at name.now k fields) (λ f. put_unless (not (is_one_field (cut text.now))) BadField (set_put (cut text.now) f)) (field_is name.now k fields)
    (λ f h. unless_puts fields (not (is_one_field (cut text.now))) BadField (set_put (cut text.now) f) (set_is fields (cut text.now) f h))

-- what is in memory
pub record PutFits (fields : List TextLine) (r : Put) : Type 0 where
  pub within : r.from + r.count ≤ size fields
  pub stays : r.kept ≤ r.count
  pub kept : r.kept ≤ length r.lines.items

pub put_fits : (fields : List TextLine) (r : Put) (q : LinePut) → IsLinePut fields q → PutsLines r q → PutFits fields r
put_fits fields r q i p = record {
  within = omega (arith, p.from, p.count, ap size (sym i.whole), size_append q.before (q.old ++ q.after), size_append q.old q.after);
  stays = omega (arith, p.count, p.kept, ap length i.old_is, length-append i.gone q.kept);
  kept = omega (arith, ap length p.lines, p.kept, ap length i.given_is, length-append i.new q.kept);
}

pub puts_fit : (fields : List TextLine) (r : Put) (x : Result LinePut Refusal) → Puts fields x → IsPut r x → PutFits fields r
puts_fit fields r (Ok q) i p = put_fits fields r q i p
puts_fit fields r (Err e) i p = absurd p
