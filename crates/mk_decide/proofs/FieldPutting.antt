-- What is put among the lines of a head, in memory and as lines.
use Rattle.std.proofs.Common.{◌≡◌, ◌+◌, ◌≤◌, ◌++◌, if◌then◌else◌, ℕ, Bool, true, false, not, Option, None, Some, Result, Ok, Err, List, ◌∷◌, refl, ap, sym, ◌∙◌, subst, length, take, drop, arith, append_assoc, length-append}
use Rattle.std.proofs.Math.Seq.{take-append_seam, drop-append_seam}
use Rattle.mk_line.specs.Lines.{TextLine, cut, text_of, printed_line, ending_bytes}
use Rattle.mk_line.proofs.Cuts.{text_cut, append_nil}
use Rattle.mk_head.specs.Fields.{FieldText, name_of}
use Rattle.mk_tree.specs.Spans.{size}
use Rattle.mk_decide.specs.declared.field_edits.Put.{Put}
use Rattle.mk_decide.specs.Edits.{Refusal, NoSuchField}
use Rattle.mk_decide.specs.FieldEdits.{Found, after_name, renamed}
use Rattle.mk_decide.specs.FieldPuts.{LinePut, add_put, set_put, name_put, PutsLines, IsPut, IsFieldAt, first_line_size, after_field_name}
use Rattle.mk_decide.proofs.PlanNames.{put_unless, with_field}
use Rattle.mk_decide.proofs.Counting.{name_before}

pub put_by : (r : Put) (x y : Result LinePut Refusal) → y ≡ x → IsPut r x → IsPut r y
put_by r x y e h = subst (IsPut r) (sym e) h

pub found_put : (o : Option Found) (f : Found) (g : Found → Result LinePut Refusal) → o ≡ Some f → with_field o g ≡ g f
found_put o f g e = ap (λ q. with_field q g) e

pub missing_put : (o : Option Found) (g : Found → Result LinePut Refusal) → o ≡ None → with_field o g ≡ Err NoSuchField
missing_put o g e = ap (λ q. with_field q g) e

pub may_put : (t : Bool) (e : Refusal) (p : LinePut) → t ≡ true → put_unless (not t) e p ≡ Ok p
may_put t e p h = rw h refl

pub may_not_put : (t : Bool) (e : Refusal) (p : LinePut) → t ≡ false → put_unless (not t) e p ≡ Err e
may_not_put t e p h = rw h refl

pub put_add : (r : Put) (top : Bool) (text head : List ℕ) → r.from ≡ (if top then 0 else length head) → r.count ≡ 0 → r.lines.items ≡ text → r.kept ≡ 0 → PutsLines r (add_put top (cut text) (cut head))
put_add r true text head p q l k = record { from = p; count = q; lines = l ∙ sym (text_cut text); kept = k }
put_add r false text head p q l k = record { from = p ∙ sym (ap length (text_cut head)); count = q; lines = l ∙ sym (text_cut text); kept = k }

pub put_set : (r : Put) (given : List TextLine) (f : Found) → r.from ≡ size f.before → r.count ≡ size (f.start ∷ f.more) → r.lines.items ≡ text_of given → r.kept ≡ 0 → PutsLines r (set_put given f)
put_set r given f p q l k = record { from = p; count = q; lines = l; kept = k }

-- the name of a field start, and what follows it
start_apart : (l : TextLine) → name_of l ++ (after_name l.content ++ ending_bytes l.ending) ≡ printed_line l
start_apart l = sym (append_assoc (name_of l) (after_name l.content) (ending_bytes l.ending)) ∙ ap (λ xs. xs ++ ending_bytes l.ending) (name_before l.content)

first_is_start : (name : List ℕ) (k : ℕ) (ls : List TextLine) (place : ℕ) (field : FieldText) (a : IsFieldAt name k ls place field) → first_line_size (cut field.raw) ≡ length (printed_line a.found.start)
first_is_start name k ls place field a = ap first_line_size a.lines

pub name_within : (name : List ℕ) (k : ℕ) (ls : List TextLine) (place : ℕ) (field : FieldText) → IsFieldAt name k ls place field → length field.name ≤ first_line_size (cut field.raw)
name_within name k ls place field a =
    omega (arith, ap length a.name, first_is_start name k ls place field a, ap length (start_apart a.found.start), length-append (name_of a.found.start) (after_name a.found.start.content ++ ending_bytes a.found.start.ending))

pub following_is : (name : List ℕ) (k : ℕ) (ls : List TextLine) (place : ℕ) (field : FieldText) (a : IsFieldAt name k ls place field) → after_field_name field ≡ after_name a.found.start.content ++ ending_bytes a.found.start.ending
following_is name k ls place field a =
    let start = a.found.start in
    let kept = after_name start.content ++ ending_bytes start.ending in
    ap (λ n. drop (length field.name) (take n field.raw)) (first_is_start name k ls place field a)
    ∙ (ap (λ xs. drop (length field.name) (take (length (printed_line start)) xs)) a.raw
    ∙ (ap (drop (length field.name)) (take-append_seam (printed_line start) (text_of a.found.more))
    ∙ (ap (λ xs. drop (length xs) (printed_line start)) a.name
    ∙ (ap (drop (length (name_of start))) (sym (start_apart start)) ∙ drop-append_seam (name_of start) kept))))

pub put_renamed : (r : Put) (to name : List ℕ) (k : ℕ) (ls : List TextLine) (place : ℕ) (field : FieldText) (following : List ℕ) (a : IsFieldAt name k ls place field) → following ≡ after_field_name field
    → r.from ≡ place → r.count ≡ length field.name + length following → r.lines.items ≡ to ++ following → r.kept ≡ length following → PutsLines r (name_put to a.found)
put_renamed r to name k ls place field following a b p q l t =
    let start = a.found.start in
    let kept = after_name start.content ++ ending_bytes start.ending in
    let same : following ≡ kept = b ∙ following_is name k ls place field a in
    record {
      from = p ∙ a.following;
      count = omega (arith, q, ap length a.name, ap length same, ap length (start_apart start), length-append (name_of start) kept, ap length (append_nil (printed_line start)));
      lines = l ∙ (ap (λ xs. to ++ xs) same ∙ (sym (append_assoc to (after_name start.content) (ending_bytes start.ending)) ∙ sym (append_nil (printed_line (renamed to start)))));
      kept = t ∙ ap length same;
    }

pub first_within : (text : List ℕ) (l : TextLine) (ls : List TextLine) → cut text ≡ l ∷ ls → length (printed_line l) ≤ length text
first_within text l ls e = omega (arith, ap length (sym (text_cut text) ∙ ap text_of e), length-append (printed_line l) (text_of ls))
