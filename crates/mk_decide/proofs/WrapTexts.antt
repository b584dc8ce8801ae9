-- The bytes of a section that is made the one part of a multipart, and its made lines.
use Rattle.std.proofs.Common.{◌≡◌, ◌&&◌, ◌++◌, if◌then◌else◌, ℕ, suc, Bool, true, false, not, Option, None, Some, List, [], ◌∷◌, refl, ap, sym, ◌∙◌, append_assoc, inl, inr, codes, length, arith}
use Rattle.std.proofs.lemmas.Bool.{cases_Bool, or_parts}
use Rattle.mk_line.specs.declared.cutting.Ending.{Ending}
use Rattle.mk_line.specs.declared.cutting.Ending.TheVariants.{Crlf, Lf, Missing}
use Rattle.mk_line.specs.Lines.{TextLine, text_line, cut, text_of, printed_line, ending_bytes, is_nil, is_open, AreLines}
use Rattle.mk_line.proofs.Cuts.{cut_text, text_append, append_nil}
use Rattle.std.specs.Option.{option_to_list}
use Rattle.mk_head.specs.Values.{is_token}
use Rattle.mk_tree.specs.Tree.{Entity, leaf, message, multi, print, entity_head, field_lines}
use Rattle.mk_tree.specs.Documents.{tree}
use Rattle.mk_tree.specs.Sections.{Placed, head_text, body_text, body_lines}
use Rattle.mk_tree.specs.Places.{Frame, lines_after}
use Rattle.mk_tree.proofs.Plugs.{lines_end}
use Rattle.mk_line.specs.Marks.{delimiter_line, close_line}
use Rattle.mk_head.specs.Types.{type_line}
use Rattle.mk_decide.specs.Wrapping.{is_content_line, content_fields, other_fields, version_lines, made_lines, ended_lines, inner_part, wrapped}
use Rattle.mk_decide.specs.WrapAnswers.{names_field, content_part, other_part, version_bytes, type_bytes, delimiter_bytes, close_bytes, made_bytes, separator_text, separator_part, is_leaf, end_part, part_bytes, wrap_bytes}
use Rattle.std.specs.Prelude.{unwrap_or}
use Rattle.mk_decide.proofs.Openings.{Each, each_line, each_front, each_join, some_text}
use Rattle.mk_decide.proofs.FieldFits.{no_text, entity_are, after_are}
use Rattle.mk_decide.proofs.SectionSites.{IsSite, head_cut}
use Rattle.mk_decide.proofs.SiteFacts.{as_long, entity_fields}
use Rattle.mk_decide.proofs.Typed.{MayBound, made_bound}
use Rattle.mk_decide.proofs.Bounds.{delimiter_is}
use Rattle.mk_decide.proofs.Wraps.{type_is, close_is, version_each}
use Rattle.mk_decide.proofs.WrapOpens.{any_open, any_join, version_closed, ended_body, print_inner}

-- the other fields are lines
no_others : (l : TextLine) (ls : List TextLine) → ls ≡ [] → other_fields false ls ≡ []
no_others l ls e = ap (other_fields false) e

others_are : (inside : Bool) (ls : List TextLine) → AreLines ls → AreLines (other_fields inside ls)
others_are inside [] a = tt
others_are inside (l ∷ ls) a =
    elim (cases_Bool (is_content_line inside l)) [
      | inl h ↦ rw h (others_are true ls a.2)
      | inr h ↦ rw h (a.0, (λ m. no_others l ls (a.1 m)), others_are false ls a.2)
    ]

-- the line of the MIME version
version_by : (eol : Ending) (t : Bool) → (if true && not t then codes "MIME-Version: 1.0" ++ ending_bytes eol else []) ≡ text_of (if t then [] else text_line (codes "MIME-Version: 1.0") eol ∷ [])
version_by eol true = refl
version_by eol false = sym (append_nil (codes "MIME-Version: 1.0" ++ ending_bytes eol))

none_suc : {A : Type 0} (n : ℕ) → 0 ≡ suc n → A
none_suc n e = absurd (omega (arith, e))

version_told : (eol : Ending) (numbers : List ℕ) (fs : List Frame) (others : List TextLine) → length fs ≡ length numbers → AreLines others → version_bytes eol (is_nil numbers) (text_of others) ≡ text_of (version_lines eol fs others)
version_told eol [] [] others h a = ap (λ ls. if true && not (names_field (codes "MIME-Version") ls) then codes "MIME-Version: 1.0" ++ ending_bytes eol else []) (cut_text others a) ∙ version_by eol (names_field (codes "MIME-Version") others)
version_told eol [] (f ∷ fs) others h a = none_suc (length fs) (sym h)
version_told eol (k ∷ ks) [] others h a = none_suc (length ks) h
version_told eol (k ∷ ks) (f ∷ fs) others h a = refl

-- the separator
separator_told : (eol : Ending) (o : Option TextLine) → Each (option_to_list o) → separator_part eol (text_of (option_to_list o)) ≡ printed_line (unwrap_or o (text_line [] eol))
separator_told eol None e = refl
separator_told eol (Some l) e = ap (λ t. if t then ending_bytes eol else printed_line l ++ []) (no_text (text_of (l ∷ [])) (some_text l [] e.0)) ∙ append_nil (printed_line l)

-- the body, with an ending after it or without
ended_one : (eol : Ending) (content : List ℕ) (e : Ending) → text_of (if is_open e then text_line content eol ∷ [] else text_line content e ∷ text_line [] eol ∷ []) ≡ ((content ++ ending_bytes e) ++ []) ++ ending_bytes eol
ended_one eol content Crlf = ap (λ t. (content ++ ending_bytes Crlf) ++ t) (append_nil (ending_bytes eol)) ∙ ap (λ t. t ++ ending_bytes eol) (sym (append_nil (content ++ ending_bytes Crlf)))
ended_one eol content Lf = ap (λ t. (content ++ ending_bytes Lf) ++ t) (append_nil (ending_bytes eol)) ∙ ap (λ t. t ++ ending_bytes eol) (sym (append_nil (content ++ ending_bytes Lf)))
ended_one eol content Missing = append_nil (content ++ ending_bytes eol) ∙ ap (λ t. t ++ ending_bytes eol) (sym (append_nil (content ++ []) ∙ append_nil content))

ended_text : (eol : Ending) (ls : List TextLine) → text_of (ended_lines eol ls) ≡ text_of ls ++ ending_bytes eol
ended_text eol [] = append_nil (ending_bytes eol)
ended_text eol (l ∷ []) = ended_one eol l.content l.ending
ended_text eol (l ∷ m ∷ ls) = ap (λ t. printed_line l ++ t) (ended_text eol (m ∷ ls)) ∙ sym (append_assoc (printed_line l) (text_of (m ∷ ls)) (ending_bytes eol))

ended_told : (eol : Ending) (t : Bool) (e : Entity) → text_of (body_lines e) ++ (if not t && is_leaf e then ending_bytes eol else []) ≡ text_of (ended_body eol t e)
ended_told eol true (leaf h ls) = append_nil (text_of ls)
ended_told eol false (leaf h ls) = sym (ended_text eol ls)
ended_told eol true (message h e) = append_nil (text_of (print e))
ended_told eol false (message h e) = append_nil (text_of (print e))
ended_told eol true (multi h b pre ps t) = append_nil (text_of (body_lines (multi h b pre ps t)))
ended_told eol false (multi h b pre ps t) = append_nil (text_of (body_lines (multi h b pre ps t)))

-- the part
part_apart : (content body : List TextLine) (l : TextLine) → text_of ((content ++ (l ∷ [])) ++ body) ≡ (text_of content ++ printed_line l) ++ text_of body
part_apart content body l = text_append (content ++ (l ∷ [])) body ∙ ap (λ t. t ++ text_of body) (text_append content (l ∷ []) ∙ ap (λ t. text_of content ++ t) (append_nil (printed_line l)))

part_told : (eol : Ending) (fs : List Frame) (p : Placed) (content : List ℕ) → p.followed ≡ not (is_nil (lines_after fs)) → Each (option_to_list (entity_head p.entity).separator) → content ≡ text_of (content_fields false (field_lines p.entity))
    → part_bytes eol p content ≡ text_of (print (inner_part eol fs p.entity))
part_told eol fs p content f e c =
    let own = content_fields false (field_lines p.entity) in
    let separator = (entity_head p.entity).separator in
    let t = not (is_nil (lines_after fs)) in
    let body = ended_body eol (not (is_nil (lines_after fs))) p.entity in
    append_assoc (content ++ separator_part eol (separator_text p)) (body_text p) (end_part eol p)
    ∙ (ap (λ x. (content ++ separator_part eol (separator_text p)) ++ (body_text p ++ (if not x && is_leaf p.entity then ending_bytes eol else []))) f
    ∙ (ap (λ x. (content ++ separator_part eol (separator_text p)) ++ x) (ended_told eol t p.entity)
    ∙ (ap (λ x. (content ++ x) ++ text_of body) (separator_told eol separator e)
    ∙ (ap (λ x. (x ++ printed_line (unwrap_or separator (text_line [] eol))) ++ text_of body) c
    ∙ (sym (part_apart own body (unwrap_or separator (text_line [] eol))) ∙ ap text_of (sym (print_inner eol fs p.entity)))))))

-- all lines
wrapped_apart : (others version inner : List TextLine) (t e d c : TextLine)
    → text_of (((others ++ (version ++ (t ∷ []))) ++ (e ∷ [])) ++ (d ∷ ((inner ++ []) ++ (c ∷ []))))
    ≡ (((((text_of others ++ text_of version) ++ printed_line t) ++ printed_line e) ++ printed_line d) ++ text_of inner) ++ printed_line c
wrapped_apart others version inner t e d c = simp (text_append, append_assoc, append_nil, lines_end) refl

pub bytes_told : (text path : List ℕ) (p : Placed) (s : IsSite text path p) (eol : Ending) (subtype b : List ℕ) → wrap_bytes eol (is_nil s.numbers) p subtype b ≡ text_of (print (wrapped eol s.around p.entity subtype b))
bytes_told text path p s eol subtype b =
    let fs = s.around in
    let fields = field_lines p.entity in
    let others = other_fields false (field_lines p.entity) in
    let version = version_lines eol fs (other_fields false (field_lines p.entity)) in
    let long = as_long s.numbers (tree text).root s.around p.entity s.found in
    let o = (entity_head p.entity).separator in
    let each = each_front (option_to_list o) (body_lines p.entity) (each_line (option_to_list o ++ body_lines p.entity) (after_are text path p s)) in
    let other : other_part (head_text p) ≡ text_of (other_fields false (field_lines p.entity)) = ap (λ ls. text_of (other_fields false ls)) (head_cut text path p s) in
    let own : content_part (head_text p) ≡ text_of (content_fields false (field_lines p.entity)) = ap (λ ls. text_of (content_fields false ls)) (head_cut text path p s) in
    let are = others_are false fields (entity_fields p.entity (entity_are text path p s)) in
    let part = part_bytes eol p (content_part (head_text p)) in
    ap (λ x. (((((x ++ version_bytes eol (is_nil s.numbers) x) ++ type_bytes eol subtype b) ++ ending_bytes eol) ++ delimiter_bytes eol b) ++ part) ++ close_bytes eol b) other
    ∙ (ap (λ x. (((((text_of others ++ x) ++ type_bytes eol subtype b) ++ ending_bytes eol) ++ delimiter_bytes eol b) ++ part) ++ close_bytes eol b) (version_told eol s.numbers fs others long are)
    ∙ (ap (λ x. (((((text_of others ++ text_of version) ++ printed_line (type_line eol subtype b)) ++ ending_bytes eol) ++ delimiter_bytes eol b) ++ x) ++ close_bytes eol b)
    (part_told eol fs p (content_part (head_text p)) (ap (λ (x : Placed). x.followed) s.placed_is) each own)
    ∙ sym (wrapped_apart others version (print (inner_part eol fs p.entity)) (type_line eol subtype b) (text_line [] eol) (delimiter_line eol b) (close_line eol b))))

-- the made lines
made_apart : (version : List TextLine) (t d c : TextLine) → text_of (version ++ (t ∷ d ∷ c ∷ [])) ≡ ((text_of version ++ printed_line t) ++ printed_line d) ++ printed_line c
made_apart version t d c = simp (text_append, append_assoc, append_nil) refl

missing_open : (e : Ending) → e ≡ Missing → is_open e ≡ false → ⊥
missing_open Crlf m o = cc
missing_open Lf m o = cc
missing_open Missing m o = cc

made_closed : (eol : Ending) (fs : List Frame) (others : List TextLine) (subtype b : List ℕ) → is_open eol ≡ false → any_open (made_lines eol fs others subtype b) ≡ false
made_closed eol fs others subtype b c =
    any_join (version_lines eol fs others) (type_line eol subtype b ∷ delimiter_line eol b ∷ close_line eol b ∷ [])
    ∙ rw (version_closed eol fs others c, c) refl

closed_are : (ls : List TextLine) → Each ls → any_open ls ≡ false → AreLines ls
closed_are [] e o = tt
closed_are (l ∷ ls) e o =
    let p = or_parts (is_open l.ending) (any_open ls) o in
    (e.0, (λ m. absurd (missing_open l.ending m p.0)), closed_are ls e.1 p.1)

pub made_told : (text path : List ℕ) (p : Placed) (s : IsSite text path p) (eol : Ending) (subtype b : List ℕ) → is_open eol ≡ false → is_token subtype ≡ true → MayBound b
    → cut (made_bytes eol (is_nil s.numbers) (other_part (head_text p)) subtype b) ≡ made_lines eol s.around (other_fields false (field_lines p.entity)) subtype b
made_told text path p s eol subtype b c h k =
    let fs = s.around in
    let others = other_fields false (field_lines p.entity) in
    let version = version_lines eol s.around (other_fields false (field_lines p.entity)) in
    let bound = made_bound b k in
    let long = as_long s.numbers (tree text).root s.around p.entity s.found in
    let other : other_part (head_text p) ≡ text_of (other_fields false (field_lines p.entity)) = ap (λ ls. text_of (other_fields false ls)) (head_cut text path p s) in
    let are = others_are false (field_lines p.entity) (entity_fields p.entity (entity_are text path p s)) in
    let same : made_bytes eol (is_nil s.numbers) (other_part (head_text p)) subtype b ≡ text_of (made_lines eol s.around (other_fields false (field_lines p.entity)) subtype b) =
    ap (λ x. ((version_bytes eol (is_nil s.numbers) x ++ type_bytes eol subtype b) ++ delimiter_bytes eol b) ++ close_bytes eol b) other
    ∙ (ap (λ x. ((x ++ type_bytes eol subtype b) ++ delimiter_bytes eol b) ++ close_bytes eol b) (version_told eol s.numbers fs others long are)
    ∙ sym (made_apart version (type_line eol subtype b) (delimiter_line eol b) (close_line eol b))) in
    let each : Each (made_lines eol s.around (other_fields false (field_lines p.entity)) subtype b) =
    each_join version (type_line eol subtype b ∷ delimiter_line eol b ∷ close_line eol b ∷ []) (version_each eol fs others c) (type_is eol subtype b c h k, (delimiter_is eol b c bound, (close_is eol b c bound, tt))) in
    ap cut same ∙ cut_text (made_lines eol fs others subtype b) (closed_are (made_lines eol fs others subtype b) each (made_closed eol fs others subtype b c))
