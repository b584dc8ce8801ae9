-- Whether an open line would stand early where a section is made the one part of a multipart.
use Rattle.std.proofs.Common.{◌≡◌, ◌&&◌, ◌||◌, ◌++◌, if◌then◌else◌, ℕ, Bool, true, false, not, Option, None, Some, List, [], ◌∷◌, refl, ap, sym, ◌∙◌, subst, append_assoc, inl, inr, codes}
use Rattle.std.proofs.lemmas.Bool.{cases_Bool, or_parts}
use Rattle.mk_line.specs.declared.cutting.Ending.{Ending}
use Rattle.mk_line.specs.declared.cutting.Ending.TheVariants.{Crlf, Lf, Missing}
use Rattle.mk_line.specs.Lines.{TextLine, text_line, cut, text_of, is_nil, is_open, IsLine, AreLines, ends_open}
use Rattle.mk_line.proofs.Cuts.{text_cut, lines_cut, lines_following}
use Rattle.mk_head.specs.Split.{Head, head_lines}
use Rattle.std.specs.Option.{option_to_list}
use Rattle.mk_head.specs.Splits.{Follows}
use Rattle.mk_tree.specs.Tree.{Entity, leaf, message, multi, print, entity_head, field_lines}
use Rattle.mk_tree.specs.Documents.{levels, tree, document_lines}
use Rattle.mk_tree.specs.Sections.{Placed, body_text, body_lines}
use Rattle.mk_tree.specs.Places.{Frame, lines_after, left_at, default_at, put}
use Rattle.mk_tree.proofs.HeadChanged.{entity_lines}
use Rattle.mk_tree.proofs.Plugs.{lines_end}
use Rattle.mk_decide.specs.Reasons.{is_open_early}
use Rattle.mk_line.specs.Marks.{delimiter_line, close_line}
use Rattle.mk_head.specs.Types.{type_line}
use Rattle.mk_decide.specs.Wrapping.{is_content_line, content_fields, other_fields, version_lines, ended_lines, inner_part, wrapped}
use Rattle.mk_decide.proofs.WrapNames.{outer_fields}
use Rattle.mk_decide.specs.WrapAnswers.{names_field, is_leaf, wrap_opens}
use Rattle.std.specs.Prelude.{unwrap_or}
use Rattle.mk_decide.proofs.Openings.{Each, each_line, each_front, last_open, or_none, or_assoc, early_none, open_text, some_text}
use Rattle.mk_decide.proofs.FieldFits.{split_of, no_text, after_are}
use Rattle.mk_decide.proofs.SectionSites.{IsSite, front_lines}
use Rattle.mk_decide.proofs.SiteLines.{lines_there, text_lines}

-- some line is open
abbrev pub any_open : List TextLine → Bool
any_open [] = false
any_open (l ∷ ls) = is_open l.ending || any_open ls

pub any_join : (xs ys : List TextLine) → any_open (xs ++ ys) ≡ (any_open xs || any_open ys)
any_join [] ys = refl
any_join (x ∷ xs) ys = ap (λ t. is_open x.ending || t) (any_join xs ys) ∙ sym (or_assoc (is_open x.ending) (any_open xs) (any_open ys))

-- a line stands after
early_front : (xs : List TextLine) (y : TextLine) (ys : List TextLine) → is_open_early (xs ++ (y ∷ ys)) ≡ (any_open xs || is_open_early (y ∷ ys))
early_front [] y ys = refl
early_front (x ∷ []) y ys = ap (λ t. t || is_open_early (y ∷ ys)) (sym (or_none (is_open x.ending)))
early_front (x ∷ z ∷ xs) y ys = ap (λ t. is_open x.ending || t) (early_front (z ∷ xs) y ys) ∙ sym (or_assoc (is_open x.ending) (any_open (z ∷ xs)) (is_open_early (y ∷ ys)))

closed_front : (xs : List TextLine) (y : TextLine) (ys : List TextLine) → AreLines (xs ++ (y ∷ ys)) → any_open xs ≡ false
closed_front xs y ys a = (or_parts (any_open xs) (is_open_early (y ∷ ys)) (sym (early_front xs y ys) ∙ early_none (xs ++ (y ∷ ys)) a)).0

-- the last byte tells
any_last : (ls : List TextLine) → is_open_early ls ≡ false → any_open ls ≡ last_open ls
any_last [] h = refl
any_last (l ∷ []) h = or_none (is_open l.ending)
any_last (l ∷ m ∷ ls) h = let p = or_parts (is_open l.ending) (is_open_early (m ∷ ls)) h in rw p.0 (any_last (m ∷ ls) p.1)

lines_open : (ls : List TextLine) → AreLines ls → any_open ls ≡ ends_open (text_of ls)
lines_open [] a = refl
lines_open (l ∷ ls) a =
    any_last (l ∷ ls) (early_none (l ∷ ls) a) ∙ sym (open_text l ls a)

text_open : (text : List ℕ) → any_open (cut text) ≡ ends_open text
text_open text = lines_open (cut text) (lines_cut text) ∙ ap ends_open (text_cut text)

-- fields, divided
swap : (o x c : Bool) → (o || (x || c)) ≡ (x || (o || c))
swap true true c = refl
swap true false c = refl
swap false x c = refl

divided_open : (inside : Bool) (ls : List TextLine) → (any_open (other_fields inside ls) || any_open (content_fields inside ls)) ≡ any_open ls
divided_open inside [] = refl
divided_open inside (l ∷ ls) =
    elim (cases_Bool (is_content_line inside l)) [
      | inl h ↦ rw h (swap (any_open (other_fields true ls)) (is_open l.ending) (any_open (content_fields true ls)) ∙ ap (λ t. is_open l.ending || t) (divided_open true ls))
      | inr h ↦ rw h (or_assoc (is_open l.ending) (any_open (other_fields false ls)) (any_open (content_fields false ls)) ∙ ap (λ t. is_open l.ending || t) (divided_open false ls))
    ]

-- a separator is closed
open_full : (content : List ℕ) (e : Ending) → is_open e ≡ true → is_nil content ≡ true → IsLine (text_line content e) → is_open e ≡ false
open_full content Crlf o n h = refl
open_full content Lf o n h = refl
open_full content Missing o n h = let none : true ≡ false = sym n ∙ h.ends_well in cc none

empty_closed : (content : List ℕ) (e : Ending) → is_nil content ≡ true → IsLine (text_line content e) → is_open e ≡ false
empty_closed content e n h =
    elim (cases_Bool (is_open e)) [
      | inl o ↦ open_full content e o n h
      | inr o ↦ o
    ]

separator_none : (inside : Bool) (o : Option TextLine) (ls : List TextLine) → Follows inside o ls → Each (option_to_list o) → any_open (option_to_list o) ≡ false
separator_none inside None ls f e = refl
separator_none inside (Some l) ls f e = ap (λ t. t || false) (empty_closed l.content l.ending f e.0)

made_none : (eol : Ending) (inside : Bool) (o : Option TextLine) (ls : List TextLine) → is_open eol ≡ false → Follows inside o ls → Each (option_to_list o) → is_open (unwrap_or o (text_line [] eol)).ending ≡ false
made_none eol inside None ls c f e = c
made_none eol inside (Some l) ls c f e = empty_closed l.content l.ending f e.0

-- the body of the part
abbrev pub ended_body : Ending → Bool → Entity → List TextLine
ended_body eol followed (leaf h ls) = if followed then ls else ended_lines eol ls
ended_body eol followed (message h e) = body_lines (message h e)
ended_body eol followed (multi h b pre ps t) = body_lines (multi h b pre ps t)

pub print_inner : (eol : Ending) (fs : List Frame) (s : Entity) → print (inner_part eol fs s) ≡ (content_fields false (field_lines s) ++ (unwrap_or (entity_head s).separator (text_line [] eol) ∷ [])) ++ ended_body eol (not (is_nil (lines_after fs))) s
print_inner eol fs (leaf h ls) = refl
print_inner eol fs (message h e) = refl
print_inner eol fs (multi h b pre ps t) = refl

ended_closed_by : (eol : Ending) (t : Bool) (l : TextLine) → is_open eol ≡ false → is_open l.ending ≡ t → any_open (if t then text_line l.content eol ∷ [] else l ∷ text_line [] eol ∷ []) ≡ false
ended_closed_by eol true l c h = rw c refl
ended_closed_by eol false l c h = rw (h, c) refl

ended_closed : (eol : Ending) (ls : List TextLine) → is_open eol ≡ false → is_open_early ls ≡ false → any_open (ended_lines eol ls) ≡ false
ended_closed eol [] c h = rw c refl
ended_closed eol (l ∷ []) c h = ended_closed_by eol (is_open l.ending) l c refl
ended_closed eol (l ∷ m ∷ ls) c h = let p = or_parts (is_open l.ending) (is_open_early (m ∷ ls)) h in rw p.0 (ended_closed eol (m ∷ ls) c p.1)

-- the new lines
version_by : (eol : Ending) (t : Bool) → is_open eol ≡ false → any_open (if t then [] else text_line (codes "MIME-Version: 1.0") eol ∷ []) ≡ false
version_by eol true c = refl
version_by eol false c = rw c refl

pub version_closed : (eol : Ending) (fs : List Frame) (others : List TextLine) → is_open eol ≡ false → any_open (version_lines eol fs others) ≡ false
version_closed eol [] others c = version_by eol (names_field (codes "MIME-Version") others) c
version_closed eol (f ∷ fs) others c = refl

regroup : (front outer inner rest : List TextLine) (e d c : TextLine) → front ++ (((outer ++ (e ∷ [])) ++ (d ∷ ((inner ++ []) ++ (c ∷ [])))) ++ rest) ≡ (front ++ (outer ++ (e ∷ d ∷ inner))) ++ (c ∷ rest)
regroup front outer inner rest e d c = simp (append_assoc, lines_end) refl

outer_open : (eol : Ending) (fs : List Frame) (others : List TextLine) (subtype b : List ℕ) → is_open eol ≡ false → any_open (outer_fields eol fs others subtype b) ≡ any_open others
outer_open eol fs others subtype b c =
    let version = version_lines eol fs others in
    any_join others (version ++ (type_line eol subtype b ∷ []))
    ∙ (ap (λ t. any_open others || t) (any_join version (type_line eol subtype b ∷ []) ∙ rw (version_closed eol fs others c, c) refl) ∙ or_none (any_open others))

inner_open : (eol : Ending) (fs : List Frame) (s : Entity) → is_open (unwrap_or (entity_head s).separator (text_line [] eol)).ending ≡ false → any_open (print (inner_part eol fs s)) ≡ (any_open (content_fields false (field_lines s)) || any_open (ended_body eol (not (is_nil (lines_after fs))) s))
inner_open eol fs s c =
    let content = content_fields false (field_lines s) in
    let separator = unwrap_or (entity_head s).separator (text_line [] eol) in
    let body = ended_body eol (not (is_nil (lines_after fs))) s in
    ap any_open (print_inner eol fs s)
    ∙ (any_join (content ++ (separator ∷ [])) body
    ∙ ap (λ t. t || any_open body) (any_join content (separator ∷ []) ∙ (ap (λ t. any_open content || (t || false)) c ∙ or_none (any_open content))))

rest_closed : (eol : Ending) (b : List ℕ) (rest : List TextLine) → is_open eol ≡ false → is_open_early rest ≡ false → is_open_early (close_line eol b ∷ rest) ≡ false
rest_closed eol b [] c h = refl
rest_closed eol b (r ∷ rest) c h = rw c h

pub new_open : (eol : Ending) (front rest : List TextLine) (fs : List Frame) (s : Entity) (subtype b : List ℕ) → is_open eol ≡ false → is_open (unwrap_or (entity_head s).separator (text_line [] eol)).ending ≡ false → is_open_early rest ≡ false
    → is_open_early (front ++ (print (wrapped eol fs s subtype b) ++ rest)) ≡ (any_open front || (any_open (field_lines s) || any_open (ended_body eol (not (is_nil (lines_after fs))) s)))
new_open eol front rest fs s subtype b c q r =
    let others = other_fields false (field_lines s) in
    let content = content_fields false (field_lines s) in
    let outer = outer_fields eol fs (other_fields false (field_lines s)) subtype b in
    let inner = print (inner_part eol fs s) in
    let body = ended_body eol (not (is_nil (lines_after fs))) s in
    let empty = text_line [] eol in
    ap is_open_early (regroup front outer inner rest empty (delimiter_line eol b) (close_line eol b))
    ∙ (early_front (front ++ (outer ++ (empty ∷ delimiter_line eol b ∷ inner))) (close_line eol b) rest
    ∙ (ap (λ t. any_open (front ++ (outer ++ (empty ∷ delimiter_line eol b ∷ inner))) || t) (rest_closed eol b rest c r)
    ∙ (or_none (any_open (front ++ (outer ++ (empty ∷ delimiter_line eol b ∷ inner))))
    ∙ (any_join front (outer ++ (empty ∷ delimiter_line eol b ∷ inner))
    ∙ ap (λ t. any_open front || t)
    (any_join outer (empty ∷ delimiter_line eol b ∷ inner)
    ∙ (ap (λ t. any_open outer || (t || (t || any_open inner))) c
    ∙ (ap (λ t. t || any_open inner) (outer_open eol fs others subtype b c)
    ∙ (ap (λ t. any_open others || t) (inner_open eol fs s q)
    ∙ (sym (or_assoc (any_open others) (any_open content) (any_open body)) ∙ ap (λ t. t || any_open body) (divided_open false (field_lines s)))))))))))

-- the old lines, where others stand after the section and where none do
and_none : (a : Bool) → (a && false) ≡ false
and_none true = refl
and_none false = refl

or_both : (a b : Bool) → a ≡ false → b ≡ false → (a || b) ≡ false
or_both a b h k = rw (h, k) refl

body_kept : (eol : Ending) (e : Entity) → ended_body eol true e ≡ body_lines e
body_kept eol (leaf h ls) = refl
body_kept eol (message h e) = refl
body_kept eol (multi h b pre ps t) = refl

-- the lines of a section before others
record AreShut (front : List TextLine) (e : Entity) : Type 0 where
  before : any_open front ≡ false
  fields : any_open (field_lines e) ≡ false
  body : any_open (body_lines e) ≡ false

shut_apart : (front : List TextLine) (e : Entity) → any_open (front ++ print e) ≡ false → AreShut front e
shut_apart front e h =
    let o = option_to_list (entity_head e).separator in
    let a = or_parts (any_open front) (any_open (print e)) (sym (any_join front (print e)) ∙ h) in
    let b = or_parts (any_open (field_lines e)) (any_open (o ++ body_lines e)) (sym (any_join (field_lines e) (o ++ body_lines e)) ∙ (ap any_open (sym (entity_lines e)) ∙ a.1)) in
    let c = or_parts (any_open o) (any_open (body_lines e)) (sym (any_join o (body_lines e)) ∙ b.1) in
    record { before = a.0; fields = b.0; body = c.1 }

-- those of all lines
all_open : (front : List TextLine) (e : Entity) → any_open (option_to_list (entity_head e).separator) ≡ false → any_open (front ++ (print e ++ [])) ≡ (any_open front || (any_open (field_lines e) || any_open (body_lines e)))
all_open front e s =
    let o = option_to_list (entity_head e).separator in
    any_join front (print e ++ [])
    ∙ ap (λ t. any_open front || t)
    (ap any_open (lines_end (print e) ∙ entity_lines e)
    ∙ (any_join (field_lines e) (o ++ body_lines e)
    ∙ ap (λ t. any_open (field_lines e) || t) (any_join o (body_lines e) ∙ ap (λ t. t || any_open (body_lines e)) s)))

abbrev OpensBy : (text : List ℕ) (eol : Ending) (front : List TextLine) (e : Entity) (followed : Bool) → Type 0
OpensBy text eol front e followed =
    (not followed && (not (is_leaf e && not (is_nil (text_of (body_lines e)))) && ends_open text))
    ≡ (any_open front || (any_open (field_lines e) || any_open (ended_body eol followed e)))

followed_by : (text : List ℕ) (eol : Ending) (front rest : List TextLine) (r : TextLine) (e : Entity) → AreLines (front ++ (print e ++ (r ∷ rest))) → OpensBy text eol front e true
followed_by text eol front rest r e a =
    let s = shut_apart front e (closed_front (front ++ print e) r rest (subst AreLines (sym (append_assoc front (print e) (r ∷ rest))) a)) in
    sym (or_both (any_open front) (any_open (field_lines e) || any_open (ended_body eol true e)) s.before (or_both (any_open (field_lines e)) (any_open (ended_body eol true e)) s.fields (ap any_open (body_kept eol e) ∙ s.body)))

leaf_apart : (front : List TextLine) (h : Head) (ls : List TextLine) → front ++ (print (leaf h ls) ++ []) ≡ (front ++ head_lines h) ++ ls
leaf_apart front h ls = ap (λ xs. front ++ xs) (lines_end (head_lines h ++ ls)) ∙ sym (append_assoc front (head_lines h) ls)

leaf_full : (text : List ℕ) (eol : Ending) (front : List TextLine) (h : Head) (l : TextLine) (ls : List TextLine) → is_open eol ≡ false → AreLines (front ++ (print (leaf h (l ∷ ls)) ++ [])) → OpensBy text eol front (leaf h (l ∷ ls)) false
leaf_full text eol front h l ls c a =
    let whole : AreLines ((front ++ head_lines h) ++ (l ∷ ls)) = subst AreLines (leaf_apart front h (l ∷ ls)) a in
    let before = or_parts (any_open front) (any_open (head_lines h)) (sym (any_join front (head_lines h)) ∙ closed_front (front ++ head_lines h) l ls whole) in
    let fields = or_parts (any_open h.fields) (any_open (option_to_list h.separator)) (sym (any_join h.fields (option_to_list h.separator)) ∙ before.1) in
    let body : AreLines (l ∷ ls) = lines_following (front ++ head_lines h) (l ∷ ls) whole in
    let some : is_nil (text_of (l ∷ ls)) ≡ false = no_text (text_of (l ∷ ls)) (some_text l ls body.0) in
    ap (λ t. not (not t) && ends_open text) some
    ∙ sym (or_both (any_open front) (any_open h.fields || any_open (ended_lines eol (l ∷ ls))) before.0 (or_both (any_open h.fields) (any_open (ended_lines eol (l ∷ ls))) fields.0 (ended_closed eol (l ∷ ls) c (early_none (l ∷ ls) body))))

last_by : (text : List ℕ) (eol : Ending) (front : List TextLine) (e : Entity) → is_open eol ≡ false → any_open (option_to_list (entity_head e).separator) ≡ false → cut text ≡ front ++ (print e ++ []) → OpensBy text eol front e false
last_by text eol front (message h e) c s q = sym (text_open text) ∙ (ap any_open q ∙ all_open front (message h e) s)
last_by text eol front (multi h b pre ps t) c s q = sym (text_open text) ∙ (ap any_open q ∙ all_open front (multi h b pre ps t) s)
last_by text eol front (leaf h []) c s q =
    sym (text_open text)
    ∙ (ap any_open q ∙ (all_open front (leaf h []) s ∙ ap (λ t. any_open front || (any_open h.fields || t)) (sym (ended_closed eol [] c refl))))
last_by text eol front (leaf h (l ∷ ls)) c s q = leaf_full text eol front h l ls c (subst AreLines q (lines_cut text))

opens_by : (text : List ℕ) (eol : Ending) (front rest : List TextLine) (e : Entity) → is_open eol ≡ false → any_open (option_to_list (entity_head e).separator) ≡ false → cut text ≡ front ++ (print e ++ rest) → OpensBy text eol front e (not (is_nil rest))
opens_by text eol front [] e c s q = last_by text eol front e c s q
opens_by text eol front (r ∷ rest) e c s q = followed_by text eol front rest r e (subst AreLines q (lines_cut text))

-- the look tells whether an open line would stand early
pub opens_told : (text path : List ℕ) (p : Placed) (s : IsSite text path p) (eol : Ending) (subtype b : List ℕ) → is_open eol ≡ false → wrap_opens text p ≡ is_open_early (document_lines (put (tree text).envelope s.around (wrapped eol s.around p.entity subtype b)))
opens_told text path p s eol subtype b c =
    let front = front_lines text path p s in
    let rest = lines_after s.around in
    let o = (entity_head p.entity).separator in
    let next = (split_of (left_at levels s.around) (default_at false s.around) p.entity s.well).next in
    let each = each_front (option_to_list o) (body_lines p.entity) (each_line (option_to_list o ++ body_lines p.entity) (after_are text path p s)) in
    let whole : AreLines (front_lines text path p s ++ (print p.entity ++ lines_after s.around)) = subst AreLines (text_lines text path p s) (lines_cut text) in
    let same : p.followed ≡ not (is_nil (lines_after s.around)) = ap (λ (x : Placed). x.followed) s.placed_is in
    ap (λ t. not t && (not (is_leaf p.entity && not (is_nil (body_text p))) && ends_open text)) same
    ∙ (opens_by text eol front rest p.entity c (separator_none (not (is_nil (field_lines p.entity))) o (body_lines p.entity) next each) (text_lines text path p s)
    ∙ (sym (new_open eol front rest s.around p.entity subtype b c (made_none eol (not (is_nil (field_lines p.entity))) o (body_lines p.entity) c next each) (early_none rest (lines_following (print p.entity) rest (lines_following front (print p.entity ++ rest) whole))))
    ∙ ap is_open_early (sym (lines_there text path p s (wrapped eol s.around p.entity subtype b)))))
