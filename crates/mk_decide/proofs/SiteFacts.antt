-- A section of a document that was read: its level, and its lines and those of its parts.
use Rattle.std.proofs.Common.{◌≡◌, ◌+◌, ◌-◌, ◌++◌, ℕ, zero, suc, Bool, false, Option, None, Some, List, [], ◌∷◌, refl, ap, ◌∙◌, subst, length, arith, option_and_then}
use Rattle.std.specs.Option.{option_map}
use Rattle.std.proofs.lemmas.Bool.{lt-ltb, le-ltb}
use Rattle.mk_line.specs.Lines.{TextLine, text_of, AreLines}
use Rattle.mk_line.proofs.Cuts.{cut_text, lines_following}
use Rattle.mk_head.specs.Split.{head_lines, fields_from}
use Rattle.mk_head.specs.Splits.{IsRun}
use Rattle.mk_tree.specs.Cutting.{tail_lines}
use Rattle.mk_tree.specs.Tree.{Entity, leaf, message, multi, Parts, no_parts, part, print, print_parts, field_lines}
use Rattle.mk_tree.specs.Documents.{levels}
use Rattle.mk_tree.specs.Reading.{IsWellRead, AreWellRead}
use Rattle.mk_tree.specs.Spans.{digest_below}
use Rattle.mk_tree.specs.Places.{Frame, step_to, place_at, below, left_at}
use Rattle.mk_tree.proofs.HeadChanged.{after_fields, entity_lines}
use Rattle.mk_decide.specs.Local.{parts_of}
use Rattle.mk_decide.specs.KindsKept.{fields_in}
use Rattle.mk_decide.proofs.Openings.{lines_front}
use Rattle.mk_decide.proofs.FieldChanges.{run_read}
use Rattle.mk_decide.proofs.FieldPlaces.{run_all}
use Rattle.mk_decide.proofs.KindsTold.{FieldsRead, IsLevel}

-- as many frames as numbers
abbrev LongAs : List ℕ → Option (List Frame × Entity) → Type 0
LongAs ks None = Unit {0}
LongAs ks (Some q) = length q.0 ≡ length ks

long_there : (k : ℕ) (ks : List ℕ) (f : Frame) (o : Option (List Frame × Entity)) → LongAs ks o → LongAs (k ∷ ks) (option_map (λ (q : List Frame × Entity). (f ∷ q.0, q.1)) o)
long_there k ks f None h = tt
long_there k ks f (Some q) h = ap (λ n. suc n) h

long_next : (k : ℕ) (ks : List ℕ) (o : Option (Frame × Entity)) → ((x : Entity) → LongAs ks (place_at ks x)) → LongAs (k ∷ ks) (option_and_then (λ (r : Frame × Entity). option_map (λ (q : List Frame × Entity). (r.0 ∷ q.0, q.1)) (place_at ks r.1)) o)
long_next k ks None f = tt
long_next k ks (Some r) f = long_there k ks r.0 (place_at ks r.1) (f r.1)

long_as : (ks : List ℕ) (e : Entity) → LongAs ks (place_at ks e)
long_as [] e = refl
long_as (k ∷ ks) e = long_next k ks (step_to k e) (long_as ks)

pub as_long : (ks : List ℕ) (e : Entity) (fs : List Frame) (s : Entity) → place_at ks e ≡ Some (fs, s) → length fs ≡ length ks
as_long ks e fs s h = subst (LongAs ks) h (long_as ks e)

-- the levels left, by how many frames stand around
below_less : (n k : ℕ) → below n - k ≡ n - suc k
below_less zero k = omega arith
below_less (suc n) k = omega arith

pub left_is : (n : ℕ) (fs : List Frame) → left_at n fs ≡ n - length fs
left_is n [] = omega arith
left_is n (f ∷ fs) = left_is (below n) fs ∙ below_less n (length fs)

level_of : (n k : ℕ) → n ≡ 100 - k → IsLevel n (k + 1)
level_of zero k e = lt-ltb 100 (k + 1) (omega (arith, e))
level_of (suc zero) k e = (le-ltb 100 (k + 1) (omega (arith, e)), lt-ltb 100 (k + 1 + 1) (omega (arith, e)))
level_of (suc (suc n)) k e = (le-ltb 100 (k + 1) (omega (arith, e)), le-ltb 100 (k + 1 + 1) (omega (arith, e)))

pub level_is : (ks : List ℕ) (fs : List Frame) → length fs ≡ length ks → IsLevel (left_at levels fs) (length ks + 1)
level_is ks fs h = level_of (left_at levels fs) (length ks) (left_is levels fs ∙ ap (λ n. 100 - n) h)

-- the fields of an entity are those at the start of their text
pub own_fields : (fields : List TextLine) → AreLines fields → IsRun false fields → fields_in (text_of fields) ≡ fields
own_fields fields a r = ap (fields_from false) (cut_text fields a) ∙ run_all false fields r

pub entity_fields : (e : Entity) → AreLines (print e) → AreLines (field_lines e)
entity_fields e a = lines_front (field_lines e) (after_fields e) (subst AreLines (entity_lines e) a)

parts_fields : (n : ℕ) (d : Bool) (b : List ℕ) (ps : Parts) → AreLines (print_parts ps) → AreWellRead n d b ps → FieldsRead ps
parts_fields n d b no_parts a w = tt
parts_fields n d b (part l e ps) a w = (
  own_fields (field_lines e) (entity_fields e (lines_front (print e) (print_parts ps) a.2)) (run_read n d e w.2),
  parts_fields n d b ps (lines_following (print e) (print_parts ps) a.2) w.3,
)

pub parts_read : (n : ℕ) (d : Bool) (e : Entity) → AreLines (print e) → IsWellRead n d e → FieldsRead (parts_of e)
parts_read n d (leaf h ls) a w = tt
parts_read n d (message h e) a w = tt
parts_read n d (multi h b pre ps t) a w =
    parts_fields (below n) (digest_below d h) b ps
    (lines_front (print_parts ps) (tail_lines t) (lines_following pre (print_parts ps ++ tail_lines t) (lines_following (head_lines h) (pre ++ (print_parts ps ++ tail_lines t)) a))) w.2
