-- A part that was read from what `attach` and `attach-text` make: its fields, and its content.
use Rattle.std.proofs.Common.{◌≡◌, ◌≢◌, ◌++◌, if◌then◌else◌, ℕ, zero, suc, Bool, true, false, Option, Some, List, [], ◌∷◌, refl, ap, sym, ◌∙◌, subst, append_assoc}
use Rattle.std.proofs.lemmas.List.{append_cancel_right}
use Rattle.std.specs.List.{list_all}
use Rattle.std.specs.Option.{option_map_or}
use Rattle.mk_line.specs.declared.cutting.Ending.{Ending}
use Rattle.mk_line.specs.declared.cutting.Ending.TheVariants.{Crlf, Lf, Missing}
use Rattle.mk_line.specs.Lines.{TextLine, AreLines, cut, ending_bytes, is_open, text_of}
use Rattle.mk_line.proofs.Cuts.{cut_text, lines_cut, text_append, text_cut}
use Rattle.mk_head.specs.Split.{Head, head_lines}
use Rattle.mk_head.specs.Types.{header_encoding}
use Rattle.mk_head.specs.Values.{is_token}
use Rattle.mk_code.specs.Base64Text.{base64_encoded}
use Rattle.mk_code.specs.Contents.{IsContent}
use Rattle.mk_code.specs.QuotedPrintable.{qp_encoded}
use Rattle.mk_code.proofs.NoReturns.{base64_others, is_other, qp_others}
use Rattle.mk_tree.specs.Reading.{IsWellRead}
use Rattle.mk_tree.specs.Sections.{Placed}
use Rattle.mk_tree.specs.Tree.{Entity, leaf, print, read}
use Rattle.mk_tree.proofs.WellRead.{well_read}
use Rattle.mk_decide.specs.EditLaws.{IsLeaf}
use Rattle.mk_view.specs.Extracts.{IsContentOf}
use Rattle.mk_build.specs.Building.{Attached, encoded, is_media, is_name}
use Rattle.mk_build.specs.Multiparts.{attached_as}
use Rattle.mk_mail.specs.BuiltLaws.{AreBytes}
use Rattle.mk_mail.proofs.BuiltBodies.{body_content}
use Rattle.mk_mail.proofs.BuiltLines.{AreClosed, lines_joined}
use Rattle.mk_mail.proofs.BuiltParts.{charset_for, empty_line, part_body, part_content, part_entity, part_fields, part_full, part_read, part_text}

pub not_open : (eol : Ending) → eol ≢ Missing → is_open eol ≡ false
not_open Crlf n = refl
not_open Lf n = refl
not_open Missing n = absurd (n refl)

-- the head of the part
abbrev pub part_head : Ending → Option (List ℕ) → Attached → Head
part_head eol charset a = record { fields = part_fields eol a.media (charset_for charset a.media) a.name a.said a.base64; separator = Some (empty_line eol) }

-- the part, with a line after it or as the last lines of all
abbrev pub body_by : Ending → Attached → Bool → List TextLine
body_by eol a true = part_body eol a
body_by eol a false = cut (encoded eol a)

abbrev pub entity_by : Ending → Option (List ℕ) → Attached → Bool → Entity
entity_by eol charset a followed = leaf (part_head eol charset a) (body_by eol a followed)

-- ---- it is read from its text

well_by : (n : ℕ) (digest : Bool) (eol : Ending) (charset : Option (List ℕ)) (a : Attached) (ls : List TextLine) → IsWellRead (suc n) digest (part_entity eol charset a) → IsWellRead (suc n) digest (leaf (part_head eol charset a) ls)
well_by n digest eol charset a ls w = (record { run = w.0.run; next = refl }, w.1)

well : (n : ℕ) (digest : Bool) (eol : Ending) (charset : Option (List ℕ)) (a : Attached) (ls : List TextLine) → option_map_or is_token charset true ≡ true → is_media a.media ≡ true → option_map_or is_name a.name true ≡ true → IsWellRead n digest (leaf (part_head eol charset a) ls)
well zero digest eol charset a ls t h k = ((well_by zero digest eol charset a ls (part_read zero digest eol charset a t h k)).0, refl)
well (suc n) digest eol charset a ls t h k = well_by n digest eol charset a ls (part_read n digest eol charset a t h k)

-- lines before others
front_lines : (xs ys : List TextLine) → AreLines (xs ++ ys) → AreClosed xs → AreLines xs
front_lines [] ys h c = tt
front_lines (x ∷ xs) ys h c = (h.0, (λ m. open_none xs x m c), front_lines xs ys h.2 c.1)
  where
    open_none : (xs : List TextLine) (x : TextLine) → x.ending ≡ Missing → AreClosed (x ∷ xs) → xs ≡ []
    open_none xs x m c = let bad : true ≡ false = ap is_open (sym m) ∙ c.0 in absurd cc

front_closed : (xs ys : List TextLine) → AreClosed (xs ++ ys) → AreClosed xs
front_closed [] ys h = tt
front_closed (x ∷ xs) ys h = (h.0, front_closed xs ys h.1)

lines_by : (eol : Ending) (charset : Option (List ℕ)) (a : Attached) (ls : List TextLine) → is_open eol ≡ false → option_map_or is_token charset true ≡ true → is_media a.media ≡ true → option_map_or is_name a.name true ≡ true → AreLines ls → AreLines (print (leaf (part_head eol charset a) ls))
lines_by eol charset a ls c t h k lines =
    let full = part_full eol charset a c t h k in
    let closed = front_closed (head_lines (part_head eol charset a)) (part_body eol a) full.closed in
    lines_joined (head_lines (part_head eol charset a)) ls (front_lines (head_lines (part_head eol charset a)) (part_body eol a) full.lines closed) closed lines

-- the text of the part, and an ending where a line follows
abbrev pub given_text : Ending → Option (List ℕ) → Attached → Bool → List ℕ
given_text eol charset a followed = if followed then attached_as eol charset a ++ ending_bytes eol else attached_as eol charset a

regroup : (h x e all : List ℕ) → h ++ (x ++ e) ≡ all ++ e → h ++ x ≡ all
regroup h x e all same = append_cancel_right (h ++ x) all e (append_assoc h x e ∙ same)

text_by : (eol : Ending) (charset : Option (List ℕ)) (a : Attached) (followed : Bool) → text_of (print (entity_by eol charset a followed)) ≡ given_text eol charset a followed
text_by eol charset a true = part_text eol charset a
text_by eol charset a false =
    let head = text_of (head_lines (part_head eol charset a)) in
    let whole : head ++ (encoded eol a ++ ending_bytes eol) ≡ attached_as eol charset a ++ ending_bytes eol =
    ap (λ t. head ++ t) (sym (text_cut (encoded eol a ++ ending_bytes eol))) ∙ (sym (text_append (head_lines (part_head eol charset a)) (part_body eol a)) ∙ part_text eol charset a) in
    text_append (head_lines (part_head eol charset a)) (cut (encoded eol a))
    ∙ (ap (λ t. head ++ t) (text_cut (encoded eol a)) ∙ regroup head (encoded eol a) (ending_bytes eol) (attached_as eol charset a) whole)

body_lines_by : (eol : Ending) (a : Attached) (followed : Bool) → AreLines (body_by eol a followed)
body_lines_by eol a true = lines_cut (encoded eol a ++ ending_bytes eol)
body_lines_by eol a false = lines_cut (encoded eol a)

pub read_given : (n : ℕ) (digest : Bool) (eol : Ending) (charset : Option (List ℕ)) (a : Attached) (followed : Bool) → is_open eol ≡ false → option_map_or is_token charset true ≡ true → is_media a.media ≡ true → option_map_or is_name a.name true ≡ true → read n digest (cut (given_text eol charset a followed)) ≡ entity_by eol charset a followed
read_given n digest eol charset a followed c t h k =
    let e = entity_by eol charset a followed in
    ap (λ x. read n digest (cut x)) (sym (text_by eol charset a followed))
    ∙ (ap (read n digest) (cut_text (print e) (lines_by eol charset a (body_by eol a followed) c t h k (body_lines_by eol a followed)))
    ∙ well_read n digest e (well n digest eol charset a (body_by eol a followed) t h k))

-- ---- its content

encoded_by : (t : Bool) (P : List ℕ → Type 0) (x y : List ℕ) → P x → P y → P (if t then x else y)
encoded_by true P x y h k = h
encoded_by false P x y h k = k

no_returns : (eol : Ending) (a : Attached) → AreBytes a.text → eol ≡ Lf → list_all is_other (encoded eol a) ≡ true
no_returns eol a small e =
    subst (λ l. list_all is_other (encoded l a) ≡ true) (sym e)
    (encoded_by a.base64 (λ xs. list_all is_other xs ≡ true) (base64_encoded Lf a.text) (qp_encoded Lf a.text) (base64_others a.text small) (qp_others a.text))

-- a section by what counts for its content
pub same_place : (q : Placed) (f : Bool) (e : Entity) → q.followed ≡ f → q.entity ≡ e → q ≡ record { start = q.start; followed = f; digest = q.digest; entity = e }
same_place q f e h k = λ i. record { start = q.start; followed = h i; digest = q.digest; entity = k i }

content_by : (start : ℕ) (digest : Bool) (eol : Ending) (charset : Option (List ℕ)) (a : Attached) (followed : Bool) → is_open eol ≡ false → AreBytes a.text
    → IsContentOf (record { start = start; followed = followed; digest = digest; entity = entity_by eol charset a followed }) a.text
content_by start digest eol charset a true c small = part_content start digest eol charset a c small
content_by start digest eol charset a false c small =
    let closed : IsContent (header_encoding (part_head eol charset a).fields) (encoded eol a) a.text =
    subst (λ t. IsContent (header_encoding (part_head eol charset a).fields) t a.text) (body_content (encoded eol a) eol c (no_returns eol a small)) (part_content start digest eol charset a c small) in
    subst (λ t. IsContent (header_encoding (part_head eol charset a).fields) t a.text) (sym (text_cut (encoded eol a))) closed

pub holds_given : (eol : Ending) (charset : Option (List ℕ)) (a : Attached) (q : Placed) (followed : Bool) → is_open eol ≡ false → AreBytes a.text → q.followed ≡ followed → q.entity ≡ entity_by eol charset a followed → IsLeaf q.entity × IsContentOf q a.text
holds_given eol charset a q followed c small f e = (
  subst IsLeaf (sym e) tt,
  subst (λ p. IsContentOf p a.text) (sym (same_place q followed (entity_by eol charset a followed) f e)) (content_by q.start q.digest eol charset a followed c small),
)
