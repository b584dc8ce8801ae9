-- A document is stable where its lines are the lines of their text and its root is read back from them; and an entity
-- put in the place of a section leaves it stable under conditions on that entity alone.
use Rattle.std.proofs.Common.{◌≡◌, ◌↔◌, ◌++◌, ℕ, Bool, true, false, Option, None, Some, List, [], ◌∷◌, refl, ap, sym, ◌∙◌}
use Rattle.mk_line.specs.Lines.{TextLine, cut}
use Rattle.mk_line.specs.Kinds.{is_from_line}
use Rattle.std.specs.Option.{option_to_list}
use Rattle.mk_tree.specs.Cutting.{tail_lines}
use Rattle.mk_tree.specs.Tree.{Entity, part, read, print, print_parts}
use Rattle.mk_tree.specs.Documents.{Document, levels, document_of, tree, document_lines, printed, IsStable}
use Rattle.mk_tree.specs.Places.{Frame, in_message, in_multi, append_parts, plug, left_at, default_at, put}
use Rattle.mk_tree.specs.Locality.{BeginsPlain, RootFits, Replaces}
use Rattle.mk_tree.specs.Reading.{IsWellRead}
use Rattle.mk_tree.proofs.Kept.{enveloped, document_kept, text_kept}
use Rattle.mk_tree.proofs.WellRead.{well_read, well_of}
use Rattle.mk_tree.proofs.Plugs.{own_of, unmarked_of, has_fields, fits_in_of, put_back}

-- the lines are the lines of their text, and the document is read from them
pub record IsKept (t : Document) : Type 0 where
  pub lines : cut (printed t) ≡ document_lines t
  pub tree : document_of (document_lines t) ≡ t

pub stable_kept : (t : Document) → IsStable t → IsKept t
stable_kept t h =
    let e : cut (printed t) ≡ document_lines t = sym (document_kept (cut (printed t))) ∙ ap document_lines h in
    record { lines = e; tree = ap document_of (sym e) ∙ h }

pub kept_stable : (t : Document) → IsKept t → IsStable t
kept_stable t k = ap document_of k.lines ∙ k.tree

-- what is read from a text is stable
pub read_stable : (text : List ℕ) → IsStable (tree text)
read_stable text = ap tree (text_kept text)

-- the envelope is the line at the start that is a From-line, where there is one
abbrev pub BeginsWell : Option TextLine → List TextLine → Type 0
BeginsWell (Some l) ls = is_from_line l.content ≡ true
BeginsWell None ls = BeginsPlain ls

some_none : (l : TextLine) → ◌≡◌ {A = Option TextLine} (Some l) None → ⊥
some_none l e = cc

enveloped_none : (t : Bool) (l : TextLine) (ls : List TextLine) (r : Entity) → is_from_line l.content ≡ t → enveloped t l ls ≡ record { envelope = None; root = r } → (is_from_line l.content ≡ false) × (read levels false (l ∷ ls) ≡ r)
enveloped_none true l ls r e h = absurd (some_none l (ap (λ d. d.envelope) h))
enveloped_none false l ls r e h = (e, ap (λ d. d.root) h)

enveloped_some : (t : Bool) (l : TextLine) (ls : List TextLine) (r : Entity) → is_from_line l.content ≡ t → enveloped t l ls ≡ record { envelope = Some l; root = r } → (is_from_line l.content ≡ true) × (read levels false ls ≡ r)
enveloped_some true l ls r e h = (e, ap (λ d. d.root) h)
enveloped_some false l ls r e h = absurd (some_none l (sym (ap (λ d. d.envelope) h)))

pub parts_read : (envelope : Option TextLine) (ls : List TextLine) (r : Entity) → document_of (option_to_list envelope ++ ls) ≡ record { envelope = envelope; root = r } → BeginsWell envelope ls × (read levels false ls ≡ r)
parts_read (Some l) ls r h = enveloped_some (is_from_line l.content) l ls r refl h
parts_read None [] r h = (tt, ap (λ d. d.root) h)
parts_read None (l ∷ ls) r h = enveloped_none (is_from_line l.content) l ls r refl h

pub read_parts : (envelope : Option TextLine) (ls : List TextLine) (r : Entity) → BeginsWell envelope ls → read levels false ls ≡ r → document_of (option_to_list envelope ++ ls) ≡ record { envelope = envelope; root = r }
read_parts (Some l) ls r b h = ap (λ t. enveloped t l ls) b ∙ (λ i. record { envelope = Some l; root = h i })
read_parts None [] r b h = λ i. record { envelope = None; root = h i }
read_parts None (l ∷ ls) r b h = ap (λ t. enveloped t l ls) b ∙ (λ i. record { envelope = None; root = h i })

-- lines that begin with a field begin with it whatever follows
pub fields_plain : (fields rest other more : List TextLine) → (fields ≡ [] → ⊥) → BeginsPlain ((fields ++ rest) ++ other) → BeginsPlain ((fields ++ rest) ++ more)
fields_plain [] rest other more h p = absurd (h refl)
fields_plain (l ∷ ls) rest other more h p = p

plain_same : (n : ℕ) (f : Frame) (fs : List Frame) (s e : Entity) → IsWellRead n false (plug (f ∷ fs) s) → BeginsPlain (print (plug (f ∷ fs) s)) → BeginsPlain (print (plug (f ∷ fs) e))
plain_same n (in_message h) fs s e w p = fields_plain h.fields (option_to_list h.separator) (print (plug fs s)) (print (plug fs e)) (has_fields n (in_message h) fs s w) p
plain_same n (in_multi h b pre before l after t) fs s e w p = fields_plain h.fields (option_to_list h.separator) (pre ++ (print_parts (append_parts before (part l (plug fs s) after)) ++ tail_lines t)) (pre ++ (print_parts (append_parts before (part l (plug fs e) after)) ++ tail_lines t)) (has_fields n (in_multi h b pre before l after t) fs s w) p

first_of_root : (envelope : Option TextLine) (fs : List Frame) (e : Entity) → BeginsWell envelope (print (plug fs e)) → RootFits envelope fs e
first_of_root (Some l) fs e b = tt
first_of_root None [] e b = b
first_of_root None (f ∷ fs) e b = tt

root_begins : (n : ℕ) (envelope : Option TextLine) (fs : List Frame) (s e : Entity) → IsWellRead n false (plug fs s) → BeginsWell envelope (print (plug fs s)) → RootFits envelope fs e → BeginsWell envelope (print (plug fs e))
root_begins n (Some l) fs s e w b r = b
root_begins n None [] s e w b r = r
root_begins n None (f ∷ fs) s e w b r = plain_same n f fs s e w b

stable_replaces : (envelope : Option TextLine) (fs : List Frame) (e : Entity) → IsStable (put envelope fs e) → Replaces envelope fs e
stable_replaces envelope fs e h =
    let k = stable_kept (put envelope fs e) h in
    let p = parts_read envelope (print (plug fs e)) (plug fs e) k.tree in
    let w = well_of levels false (plug fs e) p.1 in
    record {
      lines = k.lines;
      unmarked = unmarked_of levels false fs e w;
      own = well_read (left_at levels fs) (default_at false fs) e (own_of levels false fs e w);
      continues = fits_in_of levels false fs e w;
      first = first_of_root envelope fs e p.0;
    }

replaces_stable : (envelope : Option TextLine) (fs : List Frame) (s e : Entity) → IsStable (put envelope fs s) → Replaces envelope fs e → IsStable (put envelope fs e)
replaces_stable envelope fs s e h r =
    let k = stable_kept (put envelope fs s) h in
    let p = parts_read envelope (print (plug fs s)) (plug fs s) k.tree in
    let w = well_of levels false (plug fs s) p.1 in
    let o = well_of (left_at levels fs) (default_at false fs) e r.own in
    let v = put_back levels false fs s e w r.unmarked o r.continues in
    let b = root_begins levels envelope fs s e w p.0 r.first in
    kept_stable (put envelope fs e) (record { lines = r.lines; tree = read_parts envelope (print (plug fs e)) (plug fs e) b (well_read levels false (plug fs e) v) })

pub replaced : (envelope : Option TextLine) (fs : List Frame) (s e : Entity) → IsStable (put envelope fs s) → (IsStable (put envelope fs e) ↔ Replaces envelope fs e)
replaced envelope fs s e h = (stable_replaces envelope fs e, replaces_stable envelope fs s e h)
