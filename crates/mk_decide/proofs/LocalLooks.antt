-- What the looks at a section and around it tell of the local conditions.
use Rattle.std.proofs.Common.{◌≡◌, ◌↔◌, ◌&&◌, ◌++◌, Bool, true, false, not, Option, None, Some, List, [], ◌∷◌, refl, ap, sym, ◌∙◌}
use Rattle.std.proofs.lemmas.Bool.{or_parts, lt-ltb}
use Rattle.mk_line.specs.Lines.{TextLine, IsLine}
use Rattle.mk_line.specs.Kinds.{is_from_line}
use Rattle.mk_head.specs.Split.{Head, is_start, is_more, belongs, head_lines}
use Rattle.std.specs.Option.{option_to_list}
use Rattle.mk_head.specs.Splits.{Stops}
use Rattle.mk_tree.specs.Tree.{Entity, entity_head, field_lines, print_parts}
use Rattle.mk_tree.specs.Places.{Frame, in_message, in_multi, lines_before}
use Rattle.mk_tree.specs.Locality.{BeginsPlain, open_head, FitsFrame, FitsIn}
use Rattle.mk_tree.proofs.TreeNames.{Continues}
use Rattle.mk_decide.specs.Looks.{has_separator, ends_before}
use Rattle.mk_decide.proofs.Openings.{Each, each_front, each_back, some_text}
use Rattle.mk_decide.proofs.AroundFrames.{frame_glues, frames_glued}

true_false : {A : Type 0} → true ≡ false → A
true_false e = cc

false_true : {A : Type 0} → false ≡ true → A
false_true e = cc

not_true : (t : Bool) → not t ≡ true → t ≡ false
not_true true h = false_true h
not_true false h = refl

start_none : (inside : Bool) (l : TextLine) → belongs inside l ≡ false → is_start l ≡ false
start_none inside l h = (or_parts (is_start l) (inside && is_more l) h).0

no_more : (l : TextLine) → belongs true l ≡ false → is_more l ≡ false
no_more l h = (or_parts (is_start l) (is_more l) h).1

pub from_none : (first from : Bool) → not (first && from) ≡ true → first ≡ true → from ≡ false
from_none true from h e = not_true from h
from_none false from h e = false_true e

pub none_from : (first from : Bool) → (first ≡ true → from ≡ false) → not (first && from) ≡ true
none_from true from h = ap not (h refl)
none_from false from h = refl

-- new fields, some or none, end before the lines that the old ones ended before exactly where the look says so
pub ends_told : (some first old : Bool) (ls : List TextLine) → Stops old ls → ((ends_before (not some) first ls ≡ true) ↔ (Stops some ls × (some ≡ false → first ≡ true → BeginsPlain ls)))
ends_told some first old [] s = ((λ h. (tt, λ p q. tt)), (λ h. refl))
ends_told true first old (l ∷ ls) s = (
  (λ h. ((rw (start_none old l s.0, not_true (is_more l) h) refl, s.1), (λ p q. true_false p))),
  (λ h. ap not (no_more l h.0.0)),
)
ends_told false first old (l ∷ ls) s = (
  (λ h. ((rw (start_none old l s.0) refl, s.1), (λ p q. from_none first (is_from_line l.content) h q))),
  (λ h. none_from first (is_from_line l.content) (λ q. h.1 refl q)),
)

-- a separator that is a line has a byte
pub separator_there : (l : TextLine) → IsLine l → has_separator (Some l) ≡ true
separator_there l h = lt-ltb 0 _ (some_text l [] h)

-- after a message with a separator, and in a multipart, any entity may stand
fits_free : (fields : List TextLine) (o : Option TextLine) (e : Entity) → not (has_separator o) ≡ false → Continues fields o e
fits_free fields None e h = true_false h
fits_free fields (Some l) e h = tt

fits_frame : (f : Frame) (e : Entity) → frame_glues f ≡ false → FitsFrame f e
fits_frame (in_message h) e g = fits_free h.fields h.separator e g
fits_frame (in_multi h b pre before l after t) e g = tt

pub fits_unglued : (g : Bool) (fs : List Frame) (e : Entity) → frames_glued g fs ≡ false → FitsIn fs e
fits_unglued g [] e h = tt
fits_unglued g (f ∷ []) e h = fits_frame f e h
fits_unglued g (f ∷ k ∷ fs) e h = fits_unglued (frame_glues f) (k ∷ fs) e h

-- after a message without one, only an entity without a head
bare_after : (fields : List TextLine) (o : Option TextLine) (e : Entity) → Each (option_to_list o) → not (has_separator o) ≡ true → Continues fields o e → entity_head e ≡ open_head []
bare_after fields None e s h c = c.0
bare_after fields (Some l) e s h c = true_false (sym (separator_there l s.0) ∙ not_true (has_separator (Some l)) h)

bare_frame : (f : Frame) (e : Entity) → Each (lines_before (f ∷ [])) → frame_glues f ≡ true → FitsFrame f e → entity_head e ≡ open_head []
bare_frame (in_message h) e s g c = bare_after h.fields h.separator e (each_back h.fields (option_to_list h.separator) (each_front (head_lines h) [] s)) g c
bare_frame (in_multi h b pre before l after t) e s g c = false_true g

each_further : (f k : Frame) (fs : List Frame) → Each (lines_before (f ∷ k ∷ fs)) → Each (lines_before (k ∷ fs))
each_further (in_message h) k fs s = each_back (head_lines h) (lines_before (k ∷ fs)) s
each_further (in_multi h b pre before l after t) k fs s = (each_back (print_parts before) (l ∷ lines_before (k ∷ fs)) (each_back pre (print_parts before ++ (l ∷ lines_before (k ∷ fs))) (each_back (head_lines h) (pre ++ (print_parts before ++ (l ∷ lines_before (k ∷ fs)))) s))).1

-- the place of a section by frames, the outermost first
pub glued_head : (fs : List Frame) (e : Entity) → Each (lines_before fs) → frames_glued false fs ≡ true → FitsIn fs e → entity_head e ≡ open_head []
glued_head [] e s h c = false_true h
glued_head (f ∷ []) e s h c = bare_frame f e s h c
glued_head (f ∷ k ∷ fs) e s h c = glued_head (k ∷ fs) e (each_further f k fs s) h c

pub glued_bare : (fs : List Frame) (e : Entity) → Each (lines_before fs) → frames_glued false fs ≡ true → FitsIn fs e → field_lines e ≡ []
glued_bare fs e s h c = ap (λ (x : Head). x.fields) (glued_head fs e s h c)
