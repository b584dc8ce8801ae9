-- Fields at the start, one after another, up to the first field start that is a mark.
use Rattle.std.proofs.Common.{◌≡◌, ◌==◌, ◌||◌, ◌+◌, ℕ, Bool, true, false, List, [], ◌∷◌, ◌++◌, refl, ap, sym, ◌∙◌, length, length-append, arith, inl, inr, nat_eq}
use Rattle.std.proofs.lemmas.Bool.{cases_Bool, eqb-true}
use Rattle.std.specs.List.{starts_with}
use Rattle.mk_line.specs.Ascii.{is_blank}
use Rattle.mk_line.specs.Kinds.{is_continuation}
use Rattle.mk_line.specs.Lines.{TextLine, text_of, cut}
use Rattle.mk_line.proofs.Cuts.{text_cut, text_append}
use Rattle.mk_head.specs.Split.{is_start, is_more, fields_from}
use Rattle.mk_head.specs.Fields.{BeginsField, after_more, continuations}
use Rattle.mk_head.proofs.FieldRuns.{more_after}
use Rattle.mk_tree.specs.Spans.{size}
use Rattle.mk_tree.specs.Upto.{is_marked, fields_until, rest_until}
use Rattle.mk_tree.specs.inner.Marked.{first_marked}
use Rattle.mk_tree.proofs.DashedLines.{content_undashed}
use Rattle.mk_tree.proofs.Marked.{dashes, unmarked}

-- a blank is no hyphen
blank_undashed : (c : ℕ) (cs : List ℕ) → is_blank c ≡ true → starts_with nat_eq (c ∷ cs) dashes ≡ false
blank_undashed c cs h = elim (cases_Bool (c == 32)) [
  | inl e ↦ rw (eqb-true c 32 e) refl
  | inr f ↦ let tab : (c == 9) ≡ true = (rw f at h) in rw (eqb-true c 9 tab) refl
]

more_undashed : (cs : List ℕ) → is_continuation cs ≡ true → starts_with nat_eq cs dashes ≡ false
more_undashed [] h = cc
more_undashed (c ∷ cs) h = blank_undashed c cs h

more_unmarked : (bs : List (List ℕ)) (l : TextLine) → is_more l ≡ true → is_marked bs l ≡ false
more_unmarked bs l h = unmarked bs l (more_undashed l.content h)

or_true : (a : Bool) → (a || true) ≡ true
or_true true = refl
or_true false = refl

-- inside a field, no mark ends its continuations
until_inside : (bs : List (List ℕ)) (ls : List TextLine) → fields_until bs true ls ≡ continuations ls ++ fields_until bs false (after_more ls)
until_inside bs [] = refl
until_inside bs (l ∷ ls) = elim (cases_Bool (is_more l)) [
  | inl h ↦ rw (h, more_unmarked bs l h, or_true (is_start l)) (ap (λ xs. l ∷ xs) (until_inside bs ls))
  | inr f ↦ rw f refl
]

rest_inside : (bs : List (List ℕ)) (ls : List TextLine) → rest_until bs true ls ≡ rest_until bs false (after_more ls)
rest_inside bs [] = refl
rest_inside bs (l ∷ ls) = elim (cases_Bool (is_more l)) [
  | inl h ↦ rw (h, more_unmarked bs l h, or_true (is_start l)) (rest_inside bs ls)
  | inr f ↦ rw f refl
]

until_first : (bs : List (List ℕ)) (l : TextLine) (ls : List TextLine) → is_marked bs l ≡ false → is_start l ≡ true → fields_until bs false (l ∷ ls) ≡ l ∷ (continuations ls ++ fields_until bs false (after_more ls))
until_first bs l ls m s = rw (m, s) (ap (λ xs. l ∷ xs) (until_inside bs ls))

rest_first : (bs : List (List ℕ)) (l : TextLine) (ls : List TextLine) → is_marked bs l ≡ false → is_start l ≡ true → rest_until bs false (l ∷ ls) ≡ rest_until bs false (after_more ls)
rest_first bs l ls m s = rw (m, s) (rest_inside bs ls)

-- a field that no mark begins is passed over
pub rest_passed : (bs : List (List ℕ)) (text following : List ℕ) → BeginsField text following → first_marked bs (cut text) ≡ false → rest_until bs false (cut text) ≡ rest_until bs false (cut following)
rest_passed bs text following h m =
    ap (rest_until bs false) h.lines
    ∙ (rest_first bs h.start h.more (ap (first_marked bs) (sym h.lines) ∙ m) h.starts ∙ ap (rest_until bs false) (sym h.following))

field_bytes : (text following : List ℕ) → (h : BeginsField text following) → length text ≡ length (text_of (h.start ∷ continuations h.more)) + length following
field_bytes text following h =
    let lines : h.start ∷ h.more ≡ (h.start ∷ continuations h.more) ++ after_more h.more = ap (λ xs. h.start ∷ xs) (sym (more_after h.more)) in
    let whole : text ≡ text_of (h.start ∷ continuations h.more) ++ text_of (after_more h.more) =
    sym (text_cut text) ∙ (ap text_of (h.lines ∙ lines) ∙ text_append (h.start ∷ continuations h.more) (after_more h.more)) in
    let rest : text_of (after_more h.more) ≡ following = ap text_of (sym h.following) ∙ text_cut following in
    omega (arith, ap length whole, ap length rest, length-append (text_of (h.start ∷ continuations h.more)) (text_of (after_more h.more)))

pub size_passed : (bs : List (List ℕ)) (text following : List ℕ) → BeginsField text following → first_marked bs (cut text) ≡ false
    → size (fields_until bs false (cut text)) + length following ≡ length text + size (fields_until bs false (cut following))
size_passed bs text following h m =
    let front = h.start ∷ continuations h.more in
    let later = fields_until bs false (after_more h.more) in
    let fields : fields_until bs false (cut text) ≡ front ++ later =
    ap (fields_until bs false) h.lines ∙ until_first bs h.start h.more (ap (first_marked bs) (sym h.lines) ∙ m) h.starts in
    let same : later ≡ fields_until bs false (cut following) = ap (fields_until bs false) (sym h.following) in
    omega (arith, ap size fields, ap length (text_append front later), length-append (text_of front) (text_of later), ap size same, field_bytes text following h)

some_lines : (l : TextLine) (ls : List TextLine) → l ∷ ls ≡ [] → ⊥
some_lines l ls e = cc

none_started : (bs : List (List ℕ)) (l : TextLine) (ls : List TextLine) → is_start l ≡ false → (fields_until bs false (l ∷ ls) ≡ []) × (rest_until bs false (l ∷ ls) ≡ l ∷ ls)
none_started bs l ls f = elim (cases_Bool (is_marked bs l)) [
  | inl m ↦ (rw m refl, rw m refl)
  | inr m ↦ (rw (m, f) refl, rw (m, f) refl)
]

-- where no field begins, or a mark, there are none
none_first : (bs : List (List ℕ)) (ls : List TextLine) → fields_from false ls ≡ [] → (fields_until bs false ls ≡ []) × (rest_until bs false ls ≡ ls)
none_first bs [] h = (refl, refl)
none_first bs (l ∷ ls) h = elim (cases_Bool (is_start l)) [
  | inl s ↦ let some : l ∷ fields_from true ls ≡ [] = (rw s at h) in absurd (some_lines l (fields_from true ls) some)
  | inr f ↦ none_started bs l ls f
]

mark_first : (bs : List (List ℕ)) (ls : List TextLine) → first_marked bs ls ≡ true → (fields_until bs false ls ≡ []) × (rest_until bs false ls ≡ ls)
mark_first bs [] h = cc
mark_first bs (l ∷ ls) h = (rw h refl, rw h refl)

pub unnamed : (bs : List (List ℕ)) (text : List ℕ) → fields_from false (cut text) ≡ [] → (fields_until bs false (cut text) ≡ []) × (rest_until bs false (cut text) ≡ cut text)
unnamed bs text h = none_first bs (cut text) h

pub ended : (bs : List (List ℕ)) (text : List ℕ) → first_marked bs (cut text) ≡ true → (fields_until bs false (cut text) ≡ []) × (rest_until bs false (cut text) ≡ cut text)
ended bs text h = mark_first bs (cut text) h

-- the first line of a text that begins with no two hyphens is no mark
by_lines : (bs : List (List ℕ)) (text : List ℕ) (ls : List TextLine) → cut text ≡ ls → starts_with nat_eq text dashes ≡ false → first_marked bs ls ≡ false
by_lines bs text [] e h = refl
by_lines bs text (l ∷ ls) e h = unmarked bs l (content_undashed text l ls (sym (text_cut text) ∙ ap text_of e) h)

pub undashed : (bs : List (List ℕ)) (text : List ℕ) → starts_with nat_eq text dashes ≡ false → first_marked bs (cut text) ≡ false
undashed bs text h = by_lines bs text (cut text) refl h
