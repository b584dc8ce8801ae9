-- A built message is read as a multipart with a part for each that was attached or forwarded, which gives it back.
use Rattle.std.proofs.Common.{◌≡◌, ◌≢◌, ◌+◌, ◌&&◌, ◌||◌, ◌++◌, if◌then◌else◌, ℕ, zero, suc, Bool, true, false, not, Option, None, Some, List, [], ◌∷◌, option_and_then, refl, ap, sym, ◌∙◌, subst, append_assoc, codes, length, nat_eq, inl, inr, arith}
use Rattle.std.proofs.lemmas.Bool.{cases_Bool}
use Rattle.std.proofs.lemmas.List.{append-nil}
use Rattle.std.specs.List.{AllByRecursion, flat_map, list_any, position, starts_with}
use Rattle.std.specs.Option.{option_map, option_map_or, option_or}
use Rattle.mk_line.specs.declared.cutting.Ending.{Ending}
use Rattle.mk_line.specs.declared.cutting.Ending.TheVariants.{Crlf, Lf, Missing}
use Rattle.mk_line.specs.Kinds.{is_from_line}
use Rattle.mk_line.specs.Lines.{TextLine, text_line, ending_bytes, is_open, cut, printed_line, text_of}
use Rattle.mk_line.specs.Marks.{dashed, delimiter_line, close_line as end_line}
use Rattle.mk_line.proofs.Cuts.{append_nil, cut_text, text_append}
use Rattle.mk_head.specs.Boundaries.{is_boundary}
use Rattle.mk_head.specs.Fields.{counted}
use Rattle.mk_head.specs.Split.{Head, is_start}
use Rattle.mk_head.specs.Splits.{IsRun}
use Rattle.mk_head.specs.Types.{field_value, header_encoding, type_by, type_line as multi_line}
use Rattle.std.specs.Prelude.{unwrap_or}
use Rattle.mk_line.specs.Parting.{following}
use Rattle.mk_tree.specs.Documents.{Document, document_of, levels, tree}
use Rattle.mk_tree.specs.Kinds.{Multi, is_digest, kind, kind_of}
use Rattle.mk_tree.specs.Locality.{BeginsPlain}
use Rattle.mk_tree.specs.Reading.{AreWellRead, IsWellRead}
use Rattle.mk_tree.specs.Sections.{Placed, children, has_part, parts_placed, root_of, section_at, section_below}
use Rattle.mk_tree.specs.Spans.{digest_below, size}
use Rattle.mk_tree.specs.Tree.{Entity, multi, Parts, part, print, print_parts}
use Rattle.mk_tree.proofs.Stability.{read_parts}
use Rattle.mk_tree.proofs.WellRead.{well_read}
use Rattle.mk_decide.proofs.Bounds.{close_mark_is, delimiter_is, delimiter_mark}
use Rattle.mk_decide.proofs.Typed.{MayBound, made_bound, made_kind, made_value, may_bound}
use Rattle.mk_decide.proofs.Wraps.{close_is, type_is}
use Rattle.mk_build.specs.declared.building.BuildError.{BuildError}
use Rattle.mk_build.specs.declared.building.BuildError.TheVariants as build
use Rattle.mk_build.specs.Building.{Attached, closed_field, is_free_field, is_media, is_name}
use Rattle.mk_build.specs.Multiparts.{Multipart, attached_as, mixed, multipart_refusal, part_as}
use Rattle.mk_head.specs.Values.{is_token, lowered}
use Rattle.std.specs.Str.{bytes_eq}
use Rattle.mk_view.specs.Extracts.{IsContentOf, IsExtract}
use Rattle.mk_mail.proofs.BuiltFields.{AreFreeFields, field_lines, fields_are_lines, fields_closed, fields_lines, fields_text, run_fields, skip_fields}
use Rattle.mk_mail.proofs.BuiltParts.{AreFull, empty_line, full_join, full_one, inner_line, part_content, part_entity, part_free, part_full, part_read, part_text}
use Rattle.mk_build.specs.Forwards.{Forwarded, built_with, forwarded_part, head_with, is_8bit, is_clear, refusal_with, built, build_refusal}
use Rattle.mk_build.proofs.Failing.{position_here, position_more}
use Rattle.mk_mail.specs.BuiltLaws.{GivesAllBack, AreBytes}
use Rattle.mk_mail.proofs.BuiltForwards.{AreClear, eight, eight_full, forwards, forwards_count, forwards_full, forwards_hold, IsMessage, forwards_text, forwards_well, none_counted, or_true}

-- the parts that may be attached
abbrev pub AreGood : List Attached → Type 0
AreGood [] = Unit {0}
AreGood (a ∷ list) = (is_media a.media ≡ true) × (option_map_or is_name a.name true ≡ true) × AreBytes a.text × AreGood list

-- the message as an entity, with so many levels below the messages that are forwarded
abbrev all_parts : ℕ → Ending → Multipart → List Attached → List Forwarded → Parts
all_parts n eol m [] fs = forwards n eol m.boundary fs
all_parts n eol m (a ∷ list) fs = part (delimiter_line eol m.boundary) (part_entity eol m.charset a) (all_parts n eol m list fs)

-- whether some message has bytes of 128 or more
abbrev are_8bit : List Forwarded → Bool
are_8bit fs = list_any (λ (f : Forwarded). is_8bit f.text) fs

abbrev version : Ending → TextLine
version eol = text_line (codes "MIME-Version: 1.0") eol

abbrev made : Ending → List ℕ → List ℕ → Bool → List TextLine
made eol sub b wide = version eol ∷ multi_line eol sub b ∷ eight eol wide

abbrev root_lines : Ending → List (List ℕ) → List ℕ → List ℕ → Bool → List TextLine
root_lines eol fields sub b wide = fields_lines eol fields ++ made eol sub b wide

abbrev root_with : ℕ → Ending → List (List ℕ) → Multipart → List Attached → List Forwarded → Entity
root_with n eol fields m list fs =
    multi (record { fields = root_lines eol fields m.subtype m.boundary (are_8bit fs); separator = Some (empty_line eol) }) m.boundary [] (all_parts n eol m list fs) (Some (end_line eol m.boundary, []))

abbrev document_with : ℕ → Ending → List (List ℕ) → Multipart → List Attached → List Forwarded → Document
document_with n eol fields m list fs = record { envelope = None; root = root_with n eol fields m list fs }

-- its text
part_regroup : (h b e x p m : List ℕ) → ((h ++ b) ++ e) ++ ((x ++ e) ++ (p ++ m)) ≡ ((h ++ (b ++ (e ++ (x ++ e)))) ++ p) ++ m
part_regroup h b e x p m = simp append_assoc

all_text : (n : ℕ) (eol : Ending) (m : Multipart) (list : List Attached) (fs : List Forwarded)
    → text_of (print_parts (all_parts n eol m list fs)) ≡ flat_map (part_as eol m) list ++ flat_map (forwarded_part eol m.boundary) fs
all_text n eol m [] fs = forwards_text n eol m.boundary fs
all_text n eol m (a ∷ list) fs =
    ap (λ t. (dashed m.boundary ++ ending_bytes eol) ++ t) (text_append (print (part_entity eol m.charset a)) (print_parts (all_parts n eol m list fs)))
    ∙ ((λ i. (dashed m.boundary ++ ending_bytes eol) ++ (part_text eol m.charset a i ++ all_text n eol m list fs i))
    ∙ part_regroup (codes "--") m.boundary (ending_bytes eol) (attached_as eol m.charset a) (flat_map (part_as eol m) list) (flat_map (forwarded_part eol m.boundary) fs))

wide_regroup : (f v e k s i b q w p m h : List ℕ)
    → ((f ++ ((v ++ e) ++ (((k ++ (s ++ (i ++ (b ++ q)))) ++ e) ++ ((w ++ e) ++ [])))) ++ (([] ++ e) ++ [])) ++ ((p ++ m) ++ ((((h ++ b) ++ h) ++ e) ++ []))
    ≡ f ++ ((v ++ (e ++ (k ++ (s ++ (i ++ (b ++ (q ++ (e ++ ((w ++ e) ++ e))))))))) ++ (p ++ (m ++ (((h ++ b) ++ h) ++ e))))
wide_regroup f v e k s i b q w p m h = rw (append-nil (((h ++ b) ++ h) ++ e)) (simp append_assoc)

none_regroup : (f v e k s i b q p m h : List ℕ)
    → ((f ++ ((v ++ e) ++ (((k ++ (s ++ (i ++ (b ++ q)))) ++ e) ++ []))) ++ (([] ++ e) ++ [])) ++ ((p ++ m) ++ ((((h ++ b) ++ h) ++ e) ++ []))
    ≡ f ++ ((v ++ (e ++ (k ++ (s ++ (i ++ (b ++ (q ++ (e ++ ([] ++ e))))))))) ++ (p ++ (m ++ (((h ++ b) ++ h) ++ e))))
none_regroup f v e k s i b q p m h = rw (append-nil (((h ++ b) ++ h) ++ e)) (simp append_assoc)

by_wide : (wide : Bool) (eol : Ending) (m : Multipart) (f p q : List ℕ)
    → ((f ++ text_of (made eol m.subtype m.boundary wide)) ++ text_of (empty_line eol ∷ [])) ++ ((p ++ q) ++ text_of (end_line eol m.boundary ∷ [])) ≡ f ++ (head_with eol wide m ++ (p ++ (q ++ printed_line (end_line eol m.boundary))))
by_wide true eol m f p q =
    wide_regroup f (codes "MIME-Version: 1.0") (ending_bytes eol) (codes "Content-Type: multipart/") m.subtype (codes "; boundary=\"") m.boundary (codes "\"") (codes "Content-Transfer-Encoding: 8bit") p q (codes "--")
by_wide false eol m f p q =
    none_regroup f (codes "MIME-Version: 1.0") (ending_bytes eol) (codes "Content-Type: multipart/") m.subtype (codes "; boundary=\"") m.boundary (codes "\"") p q (codes "--")

root_text : (n : ℕ) (eol : Ending) (fields : List (List ℕ)) (m : Multipart) (list : List Attached) (fs : List Forwarded)
    → text_of (print (root_with n eol fields m list fs)) ≡ built_with eol fields list fs m
root_text n eol fields m list fs =
    let wide = are_8bit fs in
    let lines = made eol m.subtype m.boundary wide in
    let parts = print_parts (all_parts n eol m list fs) in
    let written = flat_map (part_as eol m) list in
    let after = flat_map (forwarded_part eol m.boundary) fs in
    text_append (root_lines eol fields m.subtype m.boundary wide ++ (empty_line eol ∷ [])) (parts ++ (end_line eol m.boundary ∷ []))
    ∙ ((λ i. text_append (root_lines eol fields m.subtype m.boundary wide) (empty_line eol ∷ []) i ++ text_append parts (end_line eol m.boundary ∷ []) i)
    ∙ ((λ i. (text_append (fields_lines eol fields) lines i ++ text_of (empty_line eol ∷ [])) ++ (all_text n eol m list fs i ++ text_of (end_line eol m.boundary ∷ [])))
    ∙ ((λ i. ((fields_text eol fields i ++ text_of lines) ++ text_of (empty_line eol ∷ [])) ++ ((written ++ after) ++ text_of (end_line eol m.boundary ∷ [])))
    ∙ by_wide wide eol m (flat_map (closed_field eol) fields) written after)))

-- what a multipart that may be built has
record IsRight (m : Multipart) : Type 0 where
  subtype : is_token m.subtype ≡ true
  charset : option_map_or is_token m.charset true ≡ true
  bound : MayBound m.boundary

-- its lines are lines
all_full : (n : ℕ) (eol : Ending) (m : Multipart) (list : List Attached) (fs : List Forwarded) → is_open eol ≡ false → IsRight m → AreGood list → AreFull (print_parts (all_parts n eol m list fs))
all_full n eol m [] fs c r g = forwards_full n eol m.boundary fs c r.bound
all_full n eol m (a ∷ list) fs c r g =
    full_join (delimiter_line eol m.boundary ∷ []) (print (part_entity eol m.charset a) ++ print_parts (all_parts n eol m list fs)) (full_one (dashed m.boundary) eol c (delimiter_is eol m.boundary c (made_bound m.boundary r.bound)))
    (full_join (print (part_entity eol m.charset a)) (print_parts (all_parts n eol m list fs)) (part_full eol m.charset a c r.charset g.0 g.1) (all_full n eol m list fs c r g.3))

root_full : (n : ℕ) (eol : Ending) (fields : List (List ℕ)) (m : Multipart) (list : List Attached) (fs : List Forwarded)
    → is_open eol ≡ false → IsRight m → AreFreeFields fields → AreGood list → AreFull (print (root_with n eol fields m list fs))
root_full n eol fields m list fs c r h g =
    let wide = are_8bit fs in
    let lines = made eol m.subtype m.boundary wide in
    let made_full =
    full_join (version eol ∷ []) (multi_line eol m.subtype m.boundary ∷ eight eol wide) (full_one (codes "MIME-Version: 1.0") eol c (inner_line eol (codes "MIME-Version: 1.0") c refl))
    (full_join (multi_line eol m.subtype m.boundary ∷ []) (eight eol wide) (full_one _ eol c (type_is eol m.subtype m.boundary c r.subtype r.bound)) (eight_full eol wide c)) in
    full_join (root_lines eol fields m.subtype m.boundary wide ++ (empty_line eol ∷ [])) (print_parts (all_parts n eol m list fs) ++ (end_line eol m.boundary ∷ []))
    (full_join (root_lines eol fields m.subtype m.boundary wide) (empty_line eol ∷ [])
    (full_join (fields_lines eol fields) lines (record { lines = fields_are_lines eol fields c h; closed = fields_closed eol fields c h }) made_full)
    (full_one [] eol c (inner_line eol [] c refl)))
    (full_join (print_parts (all_parts n eol m list fs)) (end_line eol m.boundary ∷ []) (all_full n eol m list fs c r g)
    (full_one (dashed m.boundary ++ codes "--") eol c (close_is eol m.boundary c (made_bound m.boundary r.bound))))

-- what its fields say
says_type : (eol : Ending) (fields : List (List ℕ)) (sub b : List ℕ) (wide : Bool) → is_open eol ≡ false → AreFreeFields fields → field_value (codes "Content-Type") (root_lines eol fields sub b wide) ≡ Some (made_value sub b)
says_type eol fields sub b wide c h = skip_fields (codes "Content-Type") eol fields (made eol sub b wide) refl c h ∙ by_line wide
  where
    by_line : (t : Bool) → field_value (codes "Content-Type") (made eol sub b t) ≡ Some (made_value sub b)
    by_line true = ap (λ cs. Some (unwrap_or (following 58 cs) [])) (append_nil (codes "Content-Type: multipart/" ++ (sub ++ (codes "; boundary=\"" ++ (b ++ codes "\"")))))
    by_line false = ap (λ cs. Some (unwrap_or (following 58 cs) [])) (append_nil (codes "Content-Type: multipart/" ++ (sub ++ (codes "; boundary=\"" ++ (b ++ codes "\"")))))

root_kind : (eol : Ending) (fields : List (List ℕ)) (sub b : List ℕ) (wide : Bool) → is_open eol ≡ false → is_token sub ≡ true → MayBound b → AreFreeFields fields → kind (root_lines eol fields sub b wide) false ≡ Multi b (bytes_eq (lowered sub) (codes "digest"))
unfolding kind
root_kind eol fields sub b wide c k m h =
    ap (λ o. kind_of (type_by false o) (header_encoding (root_lines eol fields sub b wide))) (says_type eol fields sub b wide c h)
    ∙ made_kind false (header_encoding (root_lines eol fields sub b wide)) sub b k m

-- it is read back
all_well : (n : ℕ) (digest : Bool) (eol : Ending) (m : Multipart) (list : List Attached) (fs : List Forwarded)
    → is_open eol ≡ false → eol ≢ Missing → IsRight m → AreGood list → AreClear m.boundary fs → AreWellRead (suc n) digest m.boundary (all_parts n eol m list fs)
all_well n digest eol m [] fs c is r g k = forwards_well n digest eol m.boundary fs is r.bound k
all_well n digest eol m (a ∷ list) fs c is r g k = (
  delimiter_mark m.boundary (made_bound m.boundary r.bound).trimmed_so,
  part_free m.boundary eol m.charset a c g.2,
  part_read n digest eol m.charset a r.charset g.0 g.1,
  all_well n digest eol m list fs c is r g.3 k,
)

made_run : (eol : Ending) (sub b : List ℕ) (wide j : Bool) → IsRun j (made eol sub b wide)
made_run eol sub b true j = (refl, (refl, (refl, tt)))
made_run eol sub b false j = (refl, (refl, tt))

root_well : (eol : Ending) (fields : List (List ℕ)) (m : Multipart) (list : List Attached) (fs : List Forwarded)
    → is_open eol ≡ false → eol ≢ Missing → IsRight m → AreFreeFields fields → AreGood list → AreClear m.boundary fs → IsWellRead levels false (root_with 98 eol fields m list fs)
root_well eol fields m list fs c is r h g clean =
    let wide = are_8bit fs in
    let head : Head = record { fields = root_lines eol fields m.subtype m.boundary wide; separator = Some (empty_line eol) } in
    let says = root_kind eol fields m.subtype m.boundary wide c r.subtype r.bound h in
    let digest : digest_below false head ≡ bytes_eq (lowered m.subtype) (codes "digest") = ap is_digest says in (
      record { run = run_fields false eol fields (made eol m.subtype m.boundary wide) c h (λ j. made_run eol m.subtype m.boundary wide j); next = refl },
      says ∙ ap (λ t. Multi m.boundary t) (sym digest),
      all_well 98 (digest_below false head) eol m list fs c is r g clean,
      tt,
      close_mark_is m.boundary,
    )

-- it has no envelope
and_none : (t : Bool) → (t && false) ≡ false
and_none true = refl
and_none false = refl

start_plain : (l : TextLine) → is_start l ≡ true → is_from_line l.content ≡ false
start_plain l h = rw h (and_none (starts_with nat_eq l.content (codes "From ")))

begins_by : (l : TextLine) (ls xs rest : List TextLine) → xs ≡ l ∷ ls → is_start l ≡ true → BeginsPlain (xs ++ rest)
begins_by l ls xs rest e h = subst (λ ys. BeginsPlain (ys ++ rest)) (sym e) (start_plain l h)

begins : (eol : Ending) (fields : List (List ℕ)) (made s rest : List TextLine) → is_open eol ≡ false → AreFreeFields fields → BeginsPlain (((fields_lines eol fields ++ (version eol ∷ made)) ++ s) ++ rest)
begins eol [] made s rest c h = refl
begins eol (field ∷ fields) made s rest c h =
    let k = field_lines eol field c h.0 in
    let ls = k.more ++ fields_lines eol fields in
    let here : fields_lines eol (field ∷ fields) ≡ k.first ∷ ls = ap (λ xs. xs ++ fields_lines eol fields) k.lines_are in
    begins_by k.first ((ls ++ (version eol ∷ made)) ++ s) ((fields_lines eol (field ∷ fields) ++ (version eol ∷ made)) ++ s) rest (ap (λ xs. (xs ++ (version eol ∷ made)) ++ s) here) k.start

read_with : (eol : Ending) (fields : List (List ℕ)) (m : Multipart) (list : List Attached) (fs : List Forwarded)
    → is_open eol ≡ false → eol ≢ Missing → IsRight m → AreFreeFields fields → AreGood list → AreClear m.boundary fs → tree (built_with eol fields list fs m) ≡ document_with 98 eol fields m list fs
read_with eol fields m list fs c is r h g clean =
    let root = root_with 98 eol fields m list fs in
    ap (λ t. document_of (cut t)) (sym (root_text 98 eol fields m list fs))
    ∙ (ap document_of (cut_text (print root) (root_full 98 eol fields m list fs c r h g).lines)
    ∙ read_parts None (print root) root
    (begins eol fields (multi_line eol m.subtype m.boundary ∷ eight eol (are_8bit fs)) (empty_line eol ∷ []) (print_parts (all_parts 98 eol m list fs) ++ (end_line eol m.boundary ∷ [])) c h)
    (well_read levels false root (root_well eol fields m list fs c is r h g clean)))

-- what its parts hold
first_is : (x a : Attached) → ◌≡◌ {A = Option Attached} (Some x) (Some a) → x ≡ a
first_is x a e = cc

pub record Holds (o : Option Placed) (text : List ℕ) : Type 0 where
  pub place : Placed
  pub found : o ≡ Some place
  pub content : IsContentOf place text

all_hold : (n : ℕ) (eol : Ending) (m : Multipart) (place : ℕ) (digest : Bool) (list : List Attached) (fs : List Forwarded) (k : ℕ) (a : Attached) → is_open eol ≡ false → AreGood list → counted k list ≡ Some a
    → Holds (counted k (parts_placed place true digest (all_parts n eol m list fs))) a.text
all_hold n eol m place digest [] fs k a c g e = absurd cc
all_hold n eol m place digest (x ∷ list) fs zero a c g e = absurd cc
all_hold n eol m place digest (x ∷ list) fs (suc zero) a c g e =
    let start = place + size (delimiter_line eol m.boundary ∷ []) in
    let more = has_part (all_parts n eol m list fs) || true in
    let entity = part_entity eol m.charset x in
    let here : (f : Bool) → true ≡ f → IsContentOf (record { start = start; followed = f; digest = digest; entity = entity }) x.text =
    (λ f t. subst (λ (f : Bool). IsContentOf (record { start = start; followed = f; digest = digest; entity = entity }) x.text) t (part_content start digest eol m.charset x c g.2)) in
    record {
      place = record { start = start; followed = more; digest = digest; entity = entity };
      found = refl;
      content = subst (λ (y : Attached). IsContentOf (record { start = start; followed = more; digest = digest; entity = entity }) y.text) (first_is x a e) (here more (or_true (has_part (all_parts n eol m list fs))));
    }
all_hold n eol m place digest (x ∷ list) fs (suc (suc k)) a c g e =
    all_hold n eol m (place + size (delimiter_line eol m.boundary ∷ []) + size (print (part_entity eol m.charset x))) digest list fs (suc k) a c g.3 e

-- what its parts are
pub record IsPart (eol : Ending) (charset : Option (List ℕ)) (o : Option Placed) (a : Attached) : Type 0 where
  pub place : Placed
  pub found : o ≡ Some place
  pub entity_is : place.entity ≡ part_entity eol charset a

all_are : (n : ℕ) (eol : Ending) (m : Multipart) (place : ℕ) (digest : Bool) (list : List Attached) (fs : List Forwarded) (k : ℕ) (a : Attached) → counted k list ≡ Some a
    → IsPart eol m.charset (counted k (parts_placed place true digest (all_parts n eol m list fs))) a
all_are n eol m place digest [] fs k a e = absurd cc
all_are n eol m place digest (x ∷ list) fs zero a e = absurd cc
all_are n eol m place digest (x ∷ list) fs (suc zero) a e = record {
  place = record { start = place + size (delimiter_line eol m.boundary ∷ []); followed = has_part (all_parts n eol m list fs) || true; digest = digest; entity = part_entity eol m.charset x };
  found = refl;
  entity_is = ap (part_entity eol m.charset) (first_is x a e);
}
all_are n eol m place digest (x ∷ list) fs (suc (suc k)) a e =
    all_are n eol m (place + size (delimiter_line eol m.boundary ∷ []) + size (print (part_entity eol m.charset x))) digest list fs (suc k) a e

all_sent : (n : ℕ) (eol : Ending) (m : Multipart) (place : ℕ) (digest : Bool) (list : List Attached) (fs : List Forwarded) (k : ℕ) (f : Forwarded) → eol ≢ Missing → counted k fs ≡ Some f
    → IsMessage (counted (length list + k) (parts_placed place true digest (all_parts n eol m list fs))) f.text
all_sent n eol m place digest [] fs k f is e =
    let same : 0 + k ≡ k = omega arith in
    subst (λ i. IsMessage (counted i (parts_placed place true digest (forwards n eol m.boundary fs))) f.text) (sym same) (forwards_hold n eol m.boundary place digest fs k f is e)
all_sent n eol m place digest (a ∷ list) fs zero f is e = absurd (none_counted fs f e)
all_sent n eol m place digest (a ∷ list) fs (suc k) f is e =
    let here : length (a ∷ list) + suc k ≡ suc (suc (length list + k)) = omega arith in
    let next : length list + suc k ≡ suc (length list + k) = omega arith in
    let after = place + size (delimiter_line eol m.boundary ∷ []) + size (print (part_entity eol m.charset a)) in
    subst (λ i. IsMessage (counted i (parts_placed place true digest (all_parts n eol m (a ∷ list) fs))) f.text) (sym here)
    (subst (λ i. IsMessage (counted i (parts_placed after true digest (all_parts n eol m list fs))) f.text) next (all_sent n eol m after digest list fs (suc k) f is e))

all_count : (n : ℕ) (eol : Ending) (m : Multipart) (place : ℕ) (digest : Bool) (list : List Attached) (fs : List Forwarded) → length (parts_placed place true digest (all_parts n eol m list fs)) ≡ length list + length fs
all_count n eol m place digest [] fs = forwards_count n eol m.boundary place digest fs ∙ omega arith
all_count n eol m place digest (a ∷ list) fs =
    ap suc (all_count n eol m (place + size (delimiter_line eol m.boundary ∷ []) + size (print (part_entity eol m.charset a))) digest list fs) ∙ omega arith

extracted : (o : Option Placed) (text : List ℕ) → Holds o text → IsExtract (option_and_then (section_below []) o) text
extracted o text h = subst (λ p. IsExtract (option_and_then (section_below []) p) text) (sym h.found) h.content

same_section : (o : Option Placed) → o ≡ option_and_then (section_below []) o
same_section None = refl
same_section (Some p) = refl

gives_all : (n : ℕ) (eol : Ending) (fields : List (List ℕ)) (m : Multipart) (list : List Attached) (fs : List Forwarded) → is_open eol ≡ false → eol ≢ Missing → AreGood list → GivesAllBack list fs (document_with n eol fields m list fs)
gives_all n eol fields m list fs c is g =
    let t = document_with n eol fields m list fs in
    record {
      root = root_of t;
      found = refl;
      multi = refl;
      count = all_count n eol m _ _ list fs;
      texts = λ k a e. extracted (counted k (children (root_of t))) a.text (all_hold n eol m _ _ list fs k a c g e);
      forwarded = λ k f e. subst (λ o. IsMessage o f.text) (same_section (counted (length list + k) (children (root_of t)))) (all_sent n eol m _ _ list fs k f is e);
    }

-- nothing was against building it
not_false : (t : Bool) → not t ≡ false → t ≡ true
not_false true h = refl
not_false false h = absurd cc

none_at : (f : ℕ → BuildError) (o : Option ℕ) (other : Option BuildError) → option_or (option_map f o) other ≡ None → (o ≡ None) × (other ≡ None)
none_at f None other h = (refl, h)
none_at f (Some index) other h = absurd cc

map_none : (o : Option ℕ) → option_map suc o ≡ None → o ≡ None
map_none None h = refl
map_none (Some n) h = absurd cc

first_passes : {X : Type 0} (test : X → Bool) (x : X) (xs : List X) → position (λ y. not (test y)) (x ∷ xs) ≡ None → (test x ≡ true) × (position (λ y. not (test y)) xs ≡ None)
first_passes test x xs h =
    elim (cases_Bool (not (test x))) [
      | inl n ↦ let now = sym (position_here (λ y. not (test y)) x xs n) ∙ h in absurd cc
      | inr y ↦ (not_false (test x) y, map_none (position (λ y. not (test y)) xs) (sym (position_more (λ y. not (test y)) x xs y) ∙ h))
    ]

free_fields : (fields : List (List ℕ)) → position (λ f. not (is_free_field f)) fields ≡ None → AreFreeFields fields
free_fields [] h = tt
free_fields (field ∷ fields) h = let p = first_passes is_free_field field fields h in (p.0, free_fields fields p.1)

good_parts : (list : List Attached) → position (λ (a : Attached). not (is_media a.media)) list ≡ None → position (λ (a : Attached). not (option_map_or is_name a.name true)) list ≡ None → AllByRecursion (λ (a : Attached). AreBytes a.text) list → AreGood list
good_parts [] h k s = tt
good_parts (a ∷ list) h k s =
    let p = first_passes (λ (x : Attached). is_media x.media) a list h in
    let q = first_passes (λ (x : Attached). option_map_or is_name x.name true) a list k in
    (p.0, q.0, s.0, good_parts list p.1 q.1 s.1)

clear_messages : (b : List ℕ) (fs : List Forwarded) → position (λ (f : Forwarded). not (is_clear b f.text)) fs ≡ None → AreClear b fs
clear_messages b [] h = tt
clear_messages b (f ∷ fs) h = let p = first_passes (λ (x : Forwarded). is_clear b x.text) f fs h in (p.0, clear_messages b fs p.1)

allowed : (t u v : Bool) → (if t then (if u then (if v then None else Some build.BadBoundary) else Some build.BadCharset) else Some build.BadSubtype) ≡ None → (t ≡ true) × (u ≡ true) × (v ≡ true)
allowed true true true h = (refl, refl, refl)
allowed true true false h = absurd cc
allowed true false v h = absurd cc
allowed false u v h = absurd cc

closed_eol : (eol : Ending) → eol ≢ Missing → is_open eol ≡ false
closed_eol Crlf h = refl
closed_eol Lf h = refl
closed_eol Missing h = absurd (h refl)

held_none : (o : Option ℕ) → option_map build.HoldsBoundary o ≡ None → o ≡ None
held_none None h = refl
held_none (Some index) h = absurd cc

none_of : (a b : Option BuildError) → option_or a b ≡ None → (a ≡ None) × (b ≡ None)
none_of None b h = (refl, h)
none_of (Some error) b h = absurd cc

-- what is known of a message that is built
pub record IsBuilt (eol : Ending) (fields : List (List ℕ)) (parts : List Attached) (messages : List Forwarded) (m : Multipart) : Type 0 where
  pub closed : is_open eol ≡ false
  pub good : AreGood parts
  pub read : tree (built_with eol fields parts messages m) ≡ document_with 98 eol fields m parts messages

pub is_built : (eol : Ending) (fields : List (List ℕ)) (parts : List Attached) (messages : List Forwarded) (m : Multipart) → eol ≢ Missing → AllByRecursion (λ (a : Attached). AreBytes a.text) parts → refusal_with fields parts messages m ≡ None → IsBuilt eol fields parts messages m
is_built eol fields parts messages m is small none =
    let c = closed_eol eol is in
    let p = none_at build.BadField (position (λ f. not (is_free_field f)) fields) _ none in
    let q = none_at build.BadType (position (λ (a : Attached). not (is_media a.media)) parts) _ p.1 in
    let r = none_at build.BadName (position (λ (a : Attached). not (option_map_or is_name a.name true)) parts) _ q.1 in
    let s = none_of (multipart_refusal m) _ r.1 in
    let w = allowed (is_token m.subtype) (option_map_or is_token m.charset true) (is_boundary m.boundary) s.0 in
    let right : IsRight m = record { subtype = w.0; charset = w.1; bound = may_bound m.boundary w.2 } in
    let good = good_parts parts q.0 r.0 small in
    let clear = clear_messages m.boundary messages (held_none _ s.1) in
    record { closed = c; good = good; read = read_with eol fields m parts messages c is right (free_fields fields p.0) good clear }

-- the k-th part of a built message
pub part_at : (eol : Ending) (fields : List (List ℕ)) (m : Multipart) (list : List Attached) (fs : List Forwarded) (k : ℕ) (a : Attached) → counted k list ≡ Some a
    → IsPart eol m.charset (section_at (1 ∷ k ∷ []) (document_with 98 eol fields m list fs)) a
part_at eol fields m list fs k a e =
    let p = all_are 98 eol m _ _ list fs k a e in
    record { place = p.place; found = ap (option_and_then (section_below [])) p.found; entity_is = p.entity_is }

pub forwarded_messages_lem : (eol : Ending) (fields : List (List ℕ)) (parts : List Attached) (messages : List Forwarded) (m : Multipart) → eol ≢ Missing → AllByRecursion (λ a. AreBytes a.text) parts → refusal_with fields parts messages m ≡ None → GivesAllBack parts messages (tree (built_with eol fields parts messages m))
forwarded_messages_lem eol fields parts messages m is small none =
    let b = is_built eol fields parts messages m is small none in
    subst (GivesAllBack parts messages) (sym b.read) (gives_all 98 eol fields m parts messages b.closed is b.good)

pub built_multiparts_lem : (eol : Ending) (fields : List (List ℕ)) (parts : List Attached) (m : Multipart) → eol ≢ Missing → AllByRecursion (λ a. AreBytes a.text) parts → refusal_with fields parts [] m ≡ None → GivesAllBack parts [] (tree (built_with eol fields parts [] m))
built_multiparts_lem eol fields parts m is small none = forwarded_messages_lem eol fields parts [] m is small none

pub built_messages_lem : (eol : Ending) (fields : List (List ℕ)) (parts : List Attached) (boundary : List ℕ) → eol ≢ Missing → AllByRecursion (λ a. AreBytes a.text) parts → build_refusal fields parts boundary ≡ None → GivesAllBack parts [] (tree (built eol fields parts boundary))
built_messages_lem eol fields parts boundary is small none = forwarded_messages_lem eol fields parts [] (mixed boundary) is small none
