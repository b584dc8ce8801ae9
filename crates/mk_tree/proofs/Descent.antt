-- Cutting outside in, and stopping at the first mark of any open boundary, find the same parts.
use Rattle.std.proofs.Common.{◌≡◌, ◌+◌, ◌++◌, ◌||◌, ◌&&◌, if◌then◌else◌, not, ℕ, Bool, true, false, List, [], ◌∷◌, refl, ap, sym, ◌∙◌, length, length-append}
use Rattle.mk_line.specs.declared.marks.Mark.{Mark}
use Rattle.mk_line.specs.declared.marks.Mark.TheVariants.{No, Part, Close}
use Rattle.mk_line.specs.Lines.{TextLine, text_of, cut as lines_of}
use Rattle.mk_line.specs.Marks.{mark}
use Rattle.mk_line.proofs.Cuts.{text_cut, text_append}
use Rattle.mk_tree.specs.Cutting.{Cut, cut_before}
use Rattle.mk_tree.specs.Spans.{size}
use Rattle.mk_tree.specs.Upto.{is_mark, is_marked, upto, beyond, inner}
use Rattle.mk_tree.specs.Steps.{begins_part, ended_by, is_part, AtMark}

pub upto_beyond : (bs : List (List ℕ)) (ls : List TextLine) → upto bs ls ++ beyond bs ls ≡ ls
upto_beyond bs [] = refl
upto_beyond bs (l ∷ ls) = elim (is_marked bs l) as (λ t. (if t then [] else l ∷ upto bs ls) ++ (if t then l ∷ ls else beyond bs ls) ≡ l ∷ ls) [ true ↦ refl | false ↦ ap (λ xs. l ∷ xs) (upto_beyond bs ls) ]

marked_more : (bs : List (List ℕ)) (b : List ℕ) (l : TextLine) → is_marked (bs ++ b ∷ []) l ≡ is_marked bs l || is_mark (mark b l.content)
marked_more [] b l = elim (is_mark (mark b l.content)) as (λ t. (t || false) ≡ t) [ true ↦ refl | false ↦ refl ]
marked_more (c ∷ bs) b l = elim (is_mark (mark c l.content)) as (λ t. (t || is_marked (bs ++ b ∷ []) l) ≡ ((t || is_marked bs l) || is_mark (mark b l.content))) [ true ↦ refl | false ↦ marked_more bs b l ]

marked_by : (bs : List (List ℕ)) (b : List ℕ) (l : TextLine) (t : Bool) (m : Mark) → is_marked bs l ≡ t → mark b l.content ≡ m → is_marked (bs ++ b ∷ []) l ≡ t || is_mark m
marked_by bs b l t m e f = marked_more bs b l ∙ (ap (λ x. x || is_mark (mark b l.content)) e ∙ ap (λ x. t || is_mark x) f)

-- the parts and the tail that the first mark begins
abbrev pub from_mark : List (List ℕ) → List ℕ → List TextLine → Cut
from_mark bs b ls = inner bs b (beyond (bs ++ b ∷ []) ls)

abbrev pub Front : List (List ℕ) → List ℕ → List TextLine → Type 0
Front bs b ls = inner bs b ls ≡ record { preamble = upto (bs ++ b ∷ []) ls; parts = (from_mark bs b ls).parts; tail = (from_mark bs b ls).tail }

front_step : (bs : List (List ℕ)) (b : List ℕ) (l : TextLine) (ls : List TextLine) (t : Bool) (m : Mark) → is_marked bs l ≡ t → mark b l.content ≡ m → Front bs b ls → Front bs b (l ∷ ls)
front_step bs b l ls true m e f h = rw (marked_by bs b l true m e f, e) refl
front_step bs b l ls false No e f h = rw (marked_by bs b l false No e f, e, f) (ap (cut_before No l (upto bs ls)) h)
front_step bs b l ls false Part e f h = rw (marked_by bs b l false Part e f, e, f) refl
front_step bs b l ls false Close e f h = rw (marked_by bs b l false Close e f, e, f) refl

pub inner_front : (bs : List (List ℕ)) (b : List ℕ) (ls : List TextLine) → Front bs b ls
inner_front bs b [] = refl
inner_front bs b (l ∷ ls) = front_step bs b l ls (is_marked bs l) (mark b l.content) refl refl (inner_front bs b ls)

-- what a part begins
pub record PartFirst (bs : List (List ℕ)) (b : List ℕ) (l : TextLine) (ls : List TextLine) : Type 0 where
  pub parts : (inner bs b (l ∷ ls)).parts ≡ (l, upto (bs ++ b ∷ []) ls) ∷ (from_mark bs b ls).parts
  pub tail : (inner bs b (l ∷ ls)).tail ≡ (from_mark bs b ls).tail
  pub beyond : beyond bs (l ∷ ls) ≡ beyond bs ls

part_by : (bs : List (List ℕ)) (b : List ℕ) (l : TextLine) (ls : List TextLine) (t : Bool) (m : Mark) → is_marked bs l ≡ t → mark b l.content ≡ m → (not t && is_part m) ≡ true → PartFirst bs b l ls
part_by bs b l ls true m e f h = cc
part_by bs b l ls false No e f h = cc
part_by bs b l ls false Close e f h = cc
part_by bs b l ls false Part e f h =
    let c : inner bs b (l ∷ ls) ≡ cut_before Part l (upto bs ls) (inner bs b ls) = rw (e, f) refl in
    record {
      parts = ap (λ (d : Cut). d.parts) c ∙ ap (λ (d : Cut). (l, d.preamble) ∷ d.parts) (inner_front bs b ls);
      tail = ap (λ (d : Cut). d.tail) c ∙ ap (λ (d : Cut). d.tail) (inner_front bs b ls);
      beyond = rw e refl;
    }

pub part_first : (bs : List (List ℕ)) (b : List ℕ) (l : TextLine) (ls : List TextLine) → begins_part bs b (l ∷ ls) ≡ true → PartFirst bs b l ls
part_first bs b l ls h = part_by bs b l ls (is_marked bs l) (mark b l.content) refl refl h

-- what ends the parts
end_by : (bs : List (List ℕ)) (b : List ℕ) (l : TextLine) (ls : List TextLine) (t : Bool) (m : Mark) → is_marked bs l ≡ t → mark b l.content ≡ m → (t || is_mark m) ≡ true → (not t && is_part m) ≡ false → inner bs b (l ∷ ls) ≡ record { preamble = []; parts = []; tail = ended_by bs (l ∷ ls) }
end_by bs b l ls true m e f a h = rw e refl
end_by bs b l ls false No e f a h = cc
end_by bs b l ls false Part e f a h = cc
end_by bs b l ls false Close e f a h = rw (e, f) refl

pub inner_end : (bs : List (List ℕ)) (b : List ℕ) (ls : List TextLine) → AtMark (bs ++ b ∷ []) ls → begins_part bs b ls ≡ false → inner bs b ls ≡ record { preamble = []; parts = []; tail = ended_by bs ls }
inner_end bs b [] a h = refl
inner_end bs b (l ∷ ls) a h = end_by bs b l ls (is_marked bs l) (mark b l.content) refl refl (sym (marked_more bs b l) ∙ a) h

at_step : (bs : List (List ℕ)) (l : TextLine) (ls : List TextLine) (t : Bool) → is_marked bs l ≡ t → AtMark bs (beyond bs ls) → AtMark bs (if t then l ∷ ls else beyond bs ls)
at_step bs l ls true e h = e
at_step bs l ls false e h = h

pub at_beyond : (bs : List (List ℕ)) (ls : List TextLine) → AtMark bs (beyond bs ls)
at_beyond bs [] = tt
at_beyond bs (l ∷ ls) = at_step bs l ls (is_marked bs l) refl (at_beyond bs ls)

beyond_step : (bs : List (List ℕ)) (b : List ℕ) (l : TextLine) (ls : List TextLine) (t : Bool) (m : Mark) → is_marked bs l ≡ t → mark b l.content ≡ m → beyond bs (beyond (bs ++ b ∷ []) ls) ≡ beyond bs ls → beyond bs (beyond (bs ++ b ∷ []) (l ∷ ls)) ≡ beyond bs (l ∷ ls)
beyond_step bs b l ls true m e f h = rw (marked_by bs b l true m e f) refl
beyond_step bs b l ls false No e f h = rw (marked_by bs b l false No e f, e) h
beyond_step bs b l ls false Part e f h = rw (marked_by bs b l false Part e f) refl
beyond_step bs b l ls false Close e f h = rw (marked_by bs b l false Close e f) refl

-- a mark of the outer boundaries is reached through the first mark of all
pub beyond_inside : (bs : List (List ℕ)) (b : List ℕ) (ls : List TextLine) → beyond bs (beyond (bs ++ b ∷ []) ls) ≡ beyond bs ls
beyond_inside bs b [] = refl
beyond_inside bs b (l ∷ ls) = beyond_step bs b l ls (is_marked bs l) (mark b l.content) refl refl (beyond_inside bs b ls)

-- how long a text is
pub size_cut : (text : List ℕ) → size (lines_of text) ≡ length text
size_cut text = ap length (text_cut text)

pub size_append : (xs ys : List TextLine) → size (xs ++ ys) ≡ size xs + size ys
size_append xs ys = ap length (text_append xs ys) ∙ length-append (text_of xs) (text_of ys)

pub size_beyond : (bs : List (List ℕ)) (ls : List TextLine) → size (upto bs ls) + size (beyond bs ls) ≡ size ls
size_beyond bs ls = sym (size_append (upto bs ls) (beyond bs ls)) ∙ ap size (upto_beyond bs ls)

-- no boundary ends nothing
pub upto_none : (ls : List TextLine) → upto [] ls ≡ ls
upto_none [] = refl
upto_none (l ∷ ls) = ap (λ xs. l ∷ xs) (upto_none ls)
