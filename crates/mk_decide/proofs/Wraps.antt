-- A section that becomes the one part of a multipart shows of itself what an edit has to.
use Rattle.std.proofs.Common.{◌<◌, ◌≡◌, ◌++◌, if◌then◌else◌, ℕ, zero, suc, Bool, true, false, not, Some, List, [], ◌∷◌, refl, ap, sym, ◌∙◌, subst, codes}
use Rattle.std.specs.List.{list_all}
use Rattle.std.specs.Str.{bytes_eq}
use Rattle.mk_line.specs.declared.cutting.Ending.{Ending}
use Rattle.mk_line.specs.Lines.{TextLine, text_line, is_nil, is_open, ends_in_return, IsLine}
use Rattle.mk_line.specs.Marks.{dashed, delimiter_line, close_line}
use Rattle.mk_line.proofs.Cuts.{append_nil}
use Rattle.mk_head.specs.Split.{head_lines}
use Rattle.mk_head.specs.Splits.{IsRun}
use Rattle.std.specs.Prelude.{unwrap_or}
use Rattle.mk_line.specs.Parting.{following}
use Rattle.mk_head.specs.Values.{lowered, is_token_byte, is_token}
use Rattle.mk_head.specs.Boundaries.{is_boundary_byte}
use Rattle.mk_head.specs.Types.{field_value, header_encoding, type_by, type_line}
use Rattle.mk_tree.specs.Cutting.{Unmarked}
use Rattle.mk_tree.specs.Kinds.{Kind, Multi, kind_of, kind, kind_at, is_digest}
use Rattle.mk_tree.specs.Tree.{Entity, print, field_lines}
use Rattle.mk_tree.specs.Documents.{levels}
use Rattle.mk_tree.specs.Spans.{digest_below}
use Rattle.mk_tree.specs.Places.{Frame, below, left_at, default_at}
use Rattle.mk_tree.specs.Reading.{IsWellRead}
use Rattle.mk_tree.proofs.Plugs.{unmarked_left, unmarked_right, unmarked_join}
use Rattle.mk_decide.specs.Wrapping.{other_fields, version_lines, made_lines, inner_part, outer_head}
use Rattle.mk_decide.proofs.WrapNames.{outer_fields}
use Rattle.mk_decide.specs.WrapAnswers.{names_field}
use Rattle.mk_decide.specs.Plans.{wrap}
use Rattle.mk_decide.specs.Local.{WrapsWell}
use Rattle.mk_decide.proofs.Openings.{Each, each_join, each_front, each_back}
use Rattle.mk_decide.proofs.Late.{wrap_fair}
use Rattle.mk_decide.proofs.Locals.{IsEdit}
use Rattle.mk_decide.proofs.Renaming.{both, feed_join, feed_tested, ends_after}
use Rattle.mk_decide.proofs.Runs.{run_join}
use Rattle.mk_decide.proofs.FieldChanges.{fields_each, fields_marks, run_read}
use Rattle.mk_decide.proofs.Bounds.{IsBound, made_line, delimiter_is, delimiter_mark, close_mark_is}
use Rattle.mk_decide.proofs.Typed.{made_value, MayBound, made_bound, made_kind}
use Rattle.mk_decide.proofs.WrapFields.{other_each, other_marks, are_runs, skip_others}
use Rattle.mk_decide.proofs.WrapLevels.{level_multi, no_level}
use Rattle.mk_decide.proofs.WrapParts.{inner_each, inner_may, inner_marks, inner_free, inner_read, inner_fits, inner_kind}

-- the made lines are lines
pub ends_front : (xs ys : List ℕ) → is_nil ys ≡ false → ends_in_return (xs ++ ys) ≡ ends_in_return ys
ends_front xs [] h = cc
ends_front xs (y ∷ ys) h = ends_after xs y ys

some_join : (xs ys : List ℕ) → is_nil ys ≡ false → is_nil (xs ++ ys) ≡ false
some_join [] ys h = h
some_join (x ∷ xs) ys h = refl

type_ends : (subtype b : List ℕ) → ends_in_return (codes "Content-Type: multipart/" ++ (subtype ++ (codes "; boundary=\"" ++ (b ++ codes "\"")))) ≡ false
type_ends subtype b =
    ends_front (codes "Content-Type: multipart/") (subtype ++ (codes "; boundary=\"" ++ (b ++ codes "\""))) (some_join subtype (codes "; boundary=\"" ++ (b ++ codes "\"")) refl)
    ∙ (ends_front subtype (codes "; boundary=\"" ++ (b ++ codes "\"")) refl
    ∙ (ends_front (codes "; boundary=\"") (b ++ codes "\"") (some_join b (codes "\"") refl)
    ∙ ends_front b (codes "\"") refl))

pub type_is : (eol : Ending) (subtype b : List ℕ) → is_open eol ≡ false → is_token subtype ≡ true → MayBound b → IsLine (type_line eol subtype b)
type_is eol subtype b c h k =
    made_line eol (codes "Content-Type: multipart/" ++ (subtype ++ (codes "; boundary=\"" ++ (b ++ codes "\"")))) c
    (feed_join (codes "Content-Type: multipart/") (subtype ++ (codes "; boundary=\"" ++ (b ++ codes "\""))) refl
    (feed_join subtype (codes "; boundary=\"" ++ (b ++ codes "\"")) (feed_tested is_token_byte subtype refl (both (not (is_nil subtype)) (list_all is_token_byte subtype) h).1)
    (feed_join (codes "; boundary=\"") (b ++ codes "\"") refl (feed_join b (codes "\"") (feed_tested is_boundary_byte b refl k.bytes) refl))))
    (type_ends subtype b)

pub close_is : (eol : Ending) (b : List ℕ) → is_open eol ≡ false → IsBound b → IsLine (close_line eol b)
close_is eol b c h = made_line eol (dashed b ++ codes "--") c (feed_join (dashed b) (codes "--") h.no_feed refl) (ends_front (dashed b) (codes "--") refl)

version_by : (eol : Ending) (t : Bool) → is_open eol ≡ false → Each (if t then [] else text_line (codes "MIME-Version: 1.0") eol ∷ [])
version_by eol true c = tt
version_by eol false c = (made_line eol (codes "MIME-Version: 1.0") c refl refl, tt)

pub version_each : (eol : Ending) (fs : List Frame) (others : List TextLine) → is_open eol ≡ false → Each (version_lines eol fs others)
version_each eol [] others c = version_by eol (names_field (codes "MIME-Version") others) c
version_each eol (f ∷ fs) others c = tt

-- and fields
version_run_by : (eol : Ending) (t : Bool) → IsRun false (if t then [] else text_line (codes "MIME-Version: 1.0") eol ∷ [])
version_run_by eol true = tt
version_run_by eol false = (refl, tt)

version_run : (eol : Ending) (fs : List Frame) (others : List TextLine) → IsRun false (version_lines eol fs others)
version_run eol [] others = version_run_by eol (names_field (codes "MIME-Version") others)
version_run eol (f ∷ fs) others = tt

pub outer_run : (eol : Ending) (fs : List Frame) (fields : List TextLine) (subtype b : List ℕ) → IsRun false fields → IsRun false (outer_fields eol fs (other_fields false fields) subtype b)
outer_run eol fs fields subtype b r =
    run_join false (other_fields false fields) (version_lines eol fs (other_fields false fields) ++ (type_line eol subtype b ∷ [])) ((are_runs fields).others_out false r)
    (run_join false (version_lines eol fs (other_fields false fields)) (type_line eol subtype b ∷ []) (version_run eol fs (other_fields false fields)) (refl, tt))

-- the kind that they say
version_value_by : (eol : Ending) (t : Bool) (ls : List TextLine) → field_value (codes "Content-Type") ((if t then [] else text_line (codes "MIME-Version: 1.0") eol ∷ []) ++ ls) ≡ field_value (codes "Content-Type") ls
version_value_by eol true ls = refl
version_value_by eol false ls = refl

version_value : (eol : Ending) (fs : List Frame) (others ls : List TextLine) → field_value (codes "Content-Type") (version_lines eol fs others ++ ls) ≡ field_value (codes "Content-Type") ls
version_value eol [] others ls = version_value_by eol (names_field (codes "MIME-Version") others) ls
version_value eol (f ∷ fs) others ls = refl

type_value : (eol : Ending) (subtype b : List ℕ) → field_value (codes "Content-Type") (type_line eol subtype b ∷ []) ≡ Some (made_value subtype b)
type_value eol subtype b = ap (λ cs. Some (unwrap_or (following 58 cs) [])) (append_nil (codes "Content-Type: multipart/" ++ (subtype ++ (codes "; boundary=\"" ++ (b ++ codes "\"")))))

outer_value : (eol : Ending) (fs : List Frame) (fields : List TextLine) (subtype b : List ℕ) → field_value (codes "Content-Type") (outer_fields eol fs (other_fields false fields) subtype b) ≡ Some (made_value subtype b)
outer_value eol fs fields subtype b =
    skip_others (codes "Content-Type") false fields (version_lines eol fs (other_fields false fields) ++ (type_line eol subtype b ∷ [])) refl
    ∙ (version_value eol fs (other_fields false fields) (type_line eol subtype b ∷ []) ∙ type_value eol subtype b)

outer_kind : (d : Bool) (eol : Ending) (fs : List Frame) (fields : List TextLine) (subtype b : List ℕ) → is_token subtype ≡ true → MayBound b → kind (outer_fields eol fs (other_fields false fields) subtype b) d ≡ Multi b (bytes_eq (lowered subtype) (codes "digest"))
unfolding kind
outer_kind d eol fs fields subtype b h k =
    ap (λ o. kind_of (type_by d o) (header_encoding (outer_fields eol fs (other_fields false fields) subtype b))) (outer_value eol fs fields subtype b)
    ∙ made_kind d (header_encoding (outer_fields eol fs (other_fields false fields) subtype b)) subtype b h k

level_kind : (n : ℕ) (fields : List TextLine) (d : Bool) (k : Kind) → 0 < n → kind fields d ≡ k → kind_at n fields d ≡ k
level_kind zero fields d k l e = absurd (no_level l)
level_kind (suc n) fields d k l e = e

-- all lines of the multipart
abbrev wrapped_lines : Ending → List Frame → Entity → List ℕ → List ℕ → List TextLine
wrapped_lines eol fs s subtype b = head_lines (outer_head eol fs s subtype b) ++ (delimiter_line eol b ∷ ((print (inner_part eol fs s) ++ []) ++ (close_line eol b ∷ [])))

each_end : (ls : List TextLine) → Each ls → Each (ls ++ [])
each_end ls e = each_join ls [] e tt

wrapped_each : (eol : Ending) (fs : List Frame) (s : Entity) (subtype b : List ℕ) → is_open eol ≡ false → is_token subtype ≡ true → MayBound b → Each (print s) → Each (print (inner_part eol fs s)) → Each (wrapped_lines eol fs s subtype b)
wrapped_each eol fs s subtype b c h k e i =
    let others = other_fields false (field_lines s) in
    let version = version_lines eol fs (other_fields false (field_lines s)) in
    let bound = made_bound b k in
    each_join (head_lines (outer_head eol fs s subtype b)) (delimiter_line eol b ∷ ((print (inner_part eol fs s) ++ []) ++ (close_line eol b ∷ [])))
    (each_join (others ++ (version ++ (type_line eol subtype b ∷ []))) (text_line [] eol ∷ [])
    (each_join others (version ++ (type_line eol subtype b ∷ [])) (other_each false (field_lines s) (fields_each s e)) (each_join version (type_line eol subtype b ∷ []) (version_each eol fs others c) (type_is eol subtype b c h k, tt)))
    (made_line eol [] c refl refl, tt))
    (delimiter_is eol b c bound, each_join (print (inner_part eol fs s) ++ []) (close_line eol b ∷ []) (each_end (print (inner_part eol fs s)) i) (close_is eol b c bound, tt))

inner_there : (eol : Ending) (fs : List Frame) (s : Entity) (subtype b : List ℕ) → Each (wrapped_lines eol fs s subtype b) → Each (print (inner_part eol fs s))
inner_there eol fs s subtype b e =
    let body = each_back (head_lines (outer_head eol fs s subtype b)) (delimiter_line eol b ∷ ((print (inner_part eol fs s) ++ []) ++ (close_line eol b ∷ []))) e in
    each_front (print (inner_part eol fs s)) [] (each_front (print (inner_part eol fs s) ++ []) (close_line eol b ∷ []) body.1)

wrapped_marks : (m : List ℕ) (eol : Ending) (fs : List Frame) (s : Entity) (subtype b : List ℕ) → Unmarked m (print s) → Unmarked m (made_lines eol fs (other_fields false (field_lines s)) subtype b) → Unmarked m (wrapped_lines eol fs s subtype b)
wrapped_marks m eol fs s subtype b u v =
    let others = other_fields false (field_lines s) in
    let version = version_lines eol fs (other_fields false (field_lines s)) in
    let made = unmarked_right m version (type_line eol subtype b ∷ delimiter_line eol b ∷ close_line eol b ∷ []) v in
    unmarked_join m (head_lines (outer_head eol fs s subtype b)) (delimiter_line eol b ∷ ((print (inner_part eol fs s) ++ []) ++ (close_line eol b ∷ [])))
    (unmarked_join m (others ++ (version ++ (type_line eol subtype b ∷ []))) (text_line [] eol ∷ [])
    (unmarked_join m others (version ++ (type_line eol subtype b ∷ [])) (other_marks m false (field_lines s) (fields_marks m s u))
    (unmarked_join m version (type_line eol subtype b ∷ []) (unmarked_left m version (type_line eol subtype b ∷ delimiter_line eol b ∷ close_line eol b ∷ []) v) (made.0, tt)))
    (refl, tt))
    (made.1.0, unmarked_join m (print (inner_part eol fs s) ++ []) (close_line eol b ∷ []) (unmarked_join m (print (inner_part eol fs s)) [] (inner_marks m eol fs s u) tt) (made.1.1.0, tt))

pub wrap_edit : (eol : Ending) (fs : List Frame) (s : Entity) (subtype b : List ℕ) → is_open eol ≡ false → is_token subtype ≡ true → MayBound b
    → IsEdit (left_at levels fs) (default_at false fs) s (wrap eol fs s subtype b) (WrapsWell (left_at levels fs) (default_at false fs) eol fs s subtype)
wrap_edit eol fs s subtype b c h k =
    let n = left_at levels fs in
    let d = default_at false fs in
    let outer = outer_fields eol fs (other_fields false (field_lines s)) subtype b in
    let says : kind outer d ≡ Multi b (bytes_eq (lowered subtype) (codes "digest")) = outer_kind d eol fs (field_lines s) subtype b h k in
    let digest : digest_below d (outer_head eol fs s subtype b) ≡ bytes_eq (lowered subtype) (codes "digest") = ap is_digest says in
    record {
      fair = wrap_fair eol fs s subtype b;
      lines = λ w a e. wrapped_each eol fs s subtype b c h k e (inner_each eol fs s c a.ends e);
      marks = λ m w u v. wrapped_marks m eol fs s subtype b u v;
      asked_of = λ w e v.
          let inner = subst (λ g. IsWellRead (below n) g (inner_part eol fs s)) digest v.2.2 in
          record {
            level = level_multi n outer d b (digest_below d (outer_head eol fs s subtype b)) v.1;
            depth = inner_fits (below n) (bytes_eq (lowered subtype) (codes "digest")) eol fs s inner;
            kind = inner_kind n d (bytes_eq (lowered subtype) (codes "digest")) eol fs s w inner;
            ends = inner_may eol fs s (inner_there eol fs s subtype b e);
          };
      of_asked = λ w e u a. (
        record { run = outer_run eol fs (field_lines s) subtype b (run_read n d s w); next = refl },
        level_kind n outer d (Multi b (digest_below d (outer_head eol fs s subtype b))) a.level (says ∙ ap (λ g. Multi b g) (sym digest)),
        (delimiter_mark b (made_bound b k).trimmed_so, inner_free n d b eol fs s w u, subst (λ g. IsWellRead (below n) g (inner_part eol fs s)) (sym digest) (inner_read n d (bytes_eq (lowered subtype) (codes "digest")) eol fs s a.depth a.kind w), tt),
        tt,
        close_mark_is b,
      );
    }
