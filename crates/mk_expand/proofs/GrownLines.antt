-- Lines that get an ending after them: those of a text, of a head and of a body, and what a boundary cuts of them.
use Rattle.std.proofs.Common.{◌≡◌, ◌⊎◌, ◌&&◌, ◌||◌, ◌++◌, if◌then◌else◌, ℕ, Bool, true, false, None, Some, List, [], ◌∷◌, map, refl, ap, sym, ◌∙◌, subst, inl, inr}
use Rattle.std.proofs.lemmas.Bool.{cases_Bool}
use Rattle.mk_line.specs.declared.cutting.Ending.TheVariants.{Missing}
use Rattle.mk_line.specs.declared.marks.Mark.{Mark}
use Rattle.mk_line.specs.declared.marks.Mark.TheVariants.{No, Part, Close}
use Rattle.mk_line.specs.Kinds.{is_continuation, is_field_start}
use Rattle.mk_line.specs.Lines.{TextLine, ending_bytes, is_nil, printed_line, text_line, text_of}
use Rattle.mk_line.specs.Ascii.{colon}
use Rattle.mk_line.specs.Parting.{following}
use Rattle.mk_line.specs.Marks.{mark}
use Rattle.mk_head.specs.Split.{belongs, body_of, fields_from, is_empty, is_more, is_start, rest_from}
use Rattle.mk_head.specs.Fields.{continuations, field_text, is_named}
use Rattle.mk_head.specs.Types.{field_value}
use Rattle.mk_head.specs.Unfolding.{contents}
use Rattle.std.specs.Prelude.{unwrap_or}
use Rattle.mk_build.proofs.EndedTexts.{Grows}
use Rattle.mk_tree.specs.Cutting.{Cut, cut_before, cut_by}
use Rattle.mk_tree.specs.Sections.{unended}
use Rattle.mk_tree.proofs.TreeNames.{has_tail}

-- or no lines at all
abbrev pub GrowsOr : List TextLine → List TextLine → Type 0
GrowsOr ls ms = Grows ls ms ⊎ ((ls ≡ []) × (ms ≡ []))

-- the text of lines, without the ending of the last where a line follows
abbrev pub content_by : Bool → List TextLine → List ℕ
content_by followed ls = text_of (if followed then unended ls else ls)

last_content : (l m : TextLine) (ls ms : List TextLine) → ls ≡ [] → ms ≡ [] → l.content ≡ m.content → l.ending ≡ Missing → text_of (l ∷ ls) ≡ text_of (unended (m ∷ ms))
last_content l m ls ms a b c d =
    ap (λ xs. printed_line l ++ text_of xs) a
    ∙ (ap (λ e. (l.content ++ ending_bytes e) ++ []) d
    ∙ (ap (λ x. (x ++ []) ++ []) c ∙ sym (ap (λ xs. text_of (unended (m ∷ xs))) b)))

grown_text : (ls ms : List TextLine) → Grows ls ms → text_of ls ≡ text_of (unended ms)
grown_text [] [] h = absurd h
grown_text [] (m ∷ []) h = sym (ap (λ c. (c ++ []) ++ []) h)
grown_text [] (m ∷ n ∷ ms) h = absurd h
grown_text (l ∷ ls) [] h = absurd h
grown_text (l ∷ []) (m ∷ []) (inl h) = absurd h.1
grown_text (l ∷ x ∷ ls) (m ∷ []) (inl h) = absurd h.1
grown_text (l ∷ ls) (m ∷ n ∷ ms) (inl h) = ap (λ x. printed_line x ++ text_of ls) h.0 ∙ ap (λ t. printed_line m ++ t) (grown_text ls (n ∷ ms) h.1)
grown_text (l ∷ ls) (m ∷ ms) (inr h) = last_content l m ls ms h.0 h.1 h.2 h.3

pub grown_content : (ls ms : List TextLine) → GrowsOr ls ms → content_by false ls ≡ content_by true ms
grown_content ls ms (inl h) = grown_text ls ms h
grown_content ls ms (inr h) = ap text_of h.0 ∙ sym (ap (λ xs. text_of (unended xs)) h.1)

-- lines without their endings
abbrev pub bare : TextLine → TextLine
bare l = text_line l.content Missing

continuations_bare : (ls : List TextLine) → continuations (map bare ls) ≡ map bare (continuations ls)
continuations_bare [] = refl
continuations_bare (l ∷ ls) = elim (cases_Bool (is_more l)) [
  | inl h ↦ rw (h) (ap (λ xs. bare l ∷ xs) (continuations_bare ls))
  | inr h ↦ rw (h) refl
]

contents_bare : (ls : List TextLine) → contents (map bare ls) ≡ contents ls
contents_bare [] = refl
contents_bare (l ∷ ls) = ap (λ c. l.content ++ c) (contents_bare ls)

value_bare : (name : List ℕ) (ls : List TextLine) → field_value name (map bare ls) ≡ field_value name ls
value_bare name [] = refl
value_bare name (l ∷ ls) = elim (cases_Bool (is_start l && is_named name (field_text l []))) [
  | inl h ↦ rw (h) (ap (λ c. Some (unwrap_or (following colon (l.content ++ c)) [])) (ap contents (continuations_bare ls) ∙ contents_bare (continuations ls)))
  | inr h ↦ rw (h) (value_bare name ls)
]

-- fields that differ in endings alone have the same values
pub same_value : (name : List ℕ) (fields others : List TextLine) → map bare fields ≡ map bare others → field_value name fields ≡ field_value name others
same_value name fields others e = sym (value_bare name fields) ∙ (ap (field_value name) e ∙ value_bare name others)

-- the fields and the body that lines begin with, where they get an ending
abbrev pub HeadsGrow : Bool → List TextLine → List TextLine → Type 0
HeadsGrow inside ls ms = (map bare (fields_from inside ls) ≡ map bare (fields_from inside ms)) × GrowsOr (body_of (rest_from inside ls)) (body_of (rest_from inside ms))

blank_belongs : (inside : Bool) (m : TextLine) → m.content ≡ [] → belongs inside m ≡ false
blank_belongs true m h = ap (λ c. is_field_start c || (true && is_continuation c)) h
blank_belongs false m h = ap (λ c. is_field_start c || (false && is_continuation c)) h

blank_grows : (inside : Bool) (m : TextLine) → m.content ≡ [] → HeadsGrow inside [] (m ∷ [])
blank_grows inside m h =
    let none = blank_belongs inside m h in
    let empty : is_empty m ≡ true = ap is_nil h in
    rw (none, empty) (refl, inr (refl, refl))

same_grows : (inside : Bool) (l : TextLine) (ls ms : List TextLine) → Grows ls ms → HeadsGrow true ls ms → HeadsGrow inside (l ∷ ls) (l ∷ ms)
same_grows inside l ls ms g h = elim (cases_Bool (belongs inside l)) [
  | inl b ↦ rw b (ap (λ xs. bare l ∷ xs) h.0, h.1)
  | inr b ↦ elim (cases_Bool (is_empty l)) [
    | inl e ↦ rw (b, e) (refl, inl g)
    | inr e ↦ rw (b, e) (refl, inl (inl (refl, g)))
  ]
]

open_grows : (inside : Bool) (l m : TextLine) → l.content ≡ m.content → l.ending ≡ Missing → is_nil l.content ≡ false → HeadsGrow inside (l ∷ []) (m ∷ [])
open_grows inside l m c d n =
    let same : belongs inside m ≡ belongs inside l = ap (λ x. is_field_start x || (inside && is_continuation x)) (sym c) in
    let some : is_empty m ≡ false = ap is_nil (sym c) ∙ n in
    elim (cases_Bool (belongs inside l)) [
      | inl b ↦ let both : belongs inside m ≡ true = same ∙ b in rw (b, both) (ap (λ x. text_line x Missing ∷ []) c, inr (refl, refl))
      | inr b ↦ let both : belongs inside m ≡ false = same ∙ b in rw (b, both, n, some) (refl, inl (inr (refl, refl, c, d, n)))
    ]

heads_grow : (inside : Bool) (ls ms : List TextLine) → Grows ls ms → HeadsGrow inside ls ms
heads_grow inside [] [] h = absurd h
heads_grow inside [] (m ∷ []) h = blank_grows inside m h
heads_grow inside [] (m ∷ n ∷ ms) h = absurd h
heads_grow inside (l ∷ ls) [] h = absurd h
heads_grow inside (l ∷ ls) (m ∷ ms) (inl h) = subst (λ x. HeadsGrow inside (l ∷ ls) (x ∷ ms)) h.0 (same_grows inside l ls ms h.1 (heads_grow true ls ms h.1))
heads_grow inside (l ∷ ls) (m ∷ ms) (inr h) =
    subst (λ xs. HeadsGrow inside (l ∷ xs) (m ∷ ms)) (sym h.0) (subst (λ ys. HeadsGrow inside (l ∷ []) (m ∷ ys)) (sym h.1) (open_grows inside l m h.2 h.3 h.4))

no_heads : (inside : Bool) (ls ms : List TextLine) → ls ≡ [] → ms ≡ [] → HeadsGrow inside ls ms
no_heads inside ls ms a b = subst (λ xs. HeadsGrow inside xs ms) (sym a) (subst (λ ys. HeadsGrow inside [] ys) (sym b) (refl, inr (refl, refl)))

pub heads_grow_or : (inside : Bool) (ls ms : List TextLine) → GrowsOr ls ms → HeadsGrow inside ls ms
heads_grow_or inside ls ms (inl h) = heads_grow inside ls ms h
heads_grow_or inside ls ms (inr h) = no_heads inside ls ms h.0 h.1

-- parts of which the last gets an ending
abbrev pub PartsGrow : List (TextLine × List TextLine) → List (TextLine × List TextLine) → Type 0
PartsGrow [] qs = ⊥
PartsGrow (p ∷ ps) [] = ⊥
PartsGrow (p ∷ ps) (q ∷ qs) = ((ps ≡ []) × (qs ≡ []) × GrowsOr p.1 q.1) ⊎ ((p.1 ≡ q.1) × PartsGrow ps qs)

-- cuts of lines that get an ending: the preamble gets it, or the last part, or what stands from the close line on
abbrev pub CutGrows : Cut → Cut → Type 0
CutGrows c d =
    ((c.tail ≡ None) × (d.tail ≡ None) × (c.parts ≡ []) × (d.parts ≡ []) × Grows c.preamble d.preamble)
    ⊎ (((c.tail ≡ None) × (d.tail ≡ None) × (c.preamble ≡ d.preamble) × PartsGrow c.parts d.parts)
    ⊎ ((has_tail c.tail ≡ true) × (has_tail d.tail ≡ true) × (c.preamble ≡ d.preamble) × (c.parts ≡ d.parts)))

cut_step : (k : Mark) (l : TextLine) (ls ms : List TextLine) (c d : Cut) → CutGrows c d → CutGrows (cut_before k l ls c) (cut_before k l ms d)
cut_step No l ls ms c d (inl h) = inl (h.0, h.1, h.2, h.3, inl (refl, h.4))
cut_step No l ls ms c d (inr (inl h)) = inr (inl (h.0, h.1, ap (λ xs. l ∷ xs) h.2, h.3))
cut_step No l ls ms c d (inr (inr h)) = inr (inr (h.0, h.1, ap (λ xs. l ∷ xs) h.2, h.3))
cut_step Part l ls ms c d (inl h) = inr (inl (h.0, h.1, refl, inl (h.2, h.3, inl h.4)))
cut_step Part l ls ms c d (inr (inl h)) = inr (inl (h.0, h.1, refl, inr (h.2, h.3)))
cut_step Part l ls ms c d (inr (inr h)) = inr (inr (h.0, h.1, refl, λ i. (l, h.2 i) ∷ h.3 i))
cut_step Close l ls ms c d h = inr (inr (refl, refl, refl, refl))

abbrev no_cut : Cut
no_cut = record { preamble = []; parts = []; tail = None }

cut_open : (k : Mark) (l m : TextLine) → l.content ≡ m.content → l.ending ≡ Missing → is_nil l.content ≡ false → CutGrows (cut_before k l [] no_cut) (cut_before k m [] no_cut)
cut_open No l m c d n = inl (refl, refl, refl, refl, inr (refl, refl, c, d, n))
cut_open Part l m c d n = inr (inl (refl, refl, refl, inl (refl, refl, inr (refl, refl))))
cut_open Close l m c d n = inr (inr (refl, refl, refl, refl))

cut_blank : (b : List ℕ) (m : TextLine) → m.content ≡ [] → CutGrows (cut_by b []) (cut_by b (m ∷ []))
cut_blank b m h =
    let none : mark b m.content ≡ No = ap (mark b) h in
    subst (λ k. CutGrows (cut_by b []) (cut_before k m [] (cut_by b []))) (sym none) (inl (refl, refl, refl, refl, h))

pub cut_grows : (b : List ℕ) (ls ms : List TextLine) → Grows ls ms → CutGrows (cut_by b ls) (cut_by b ms)
cut_grows b [] [] h = absurd h
cut_grows b [] (m ∷ []) h = cut_blank b m h
cut_grows b [] (m ∷ n ∷ ms) h = absurd h
cut_grows b (l ∷ ls) [] h = absurd h
cut_grows b (l ∷ ls) (m ∷ ms) (inl h) = subst (λ x. CutGrows (cut_by b (l ∷ ls)) (cut_by b (x ∷ ms))) h.0 (cut_step (mark b l.content) l ls ms (cut_by b ls) (cut_by b ms) (cut_grows b ls ms h.1))
cut_grows b (l ∷ ls) (m ∷ ms) (inr h) =
    subst (λ xs. CutGrows (cut_by b (l ∷ xs)) (cut_by b (m ∷ ms))) (sym h.0)
    (subst (λ ys. CutGrows (cut_by b (l ∷ [])) (cut_by b (m ∷ ys))) (sym h.1)
    (subst (λ k. CutGrows (cut_by b (l ∷ [])) (cut_before k m [] (cut_by b []))) (ap (mark b) h.2) (cut_open (mark b l.content) l m h.2 h.3 h.4)))
