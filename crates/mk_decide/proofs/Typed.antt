-- The made Content-Type field says the multipart that it is made for.
use Rattle.std.proofs.Common.{◌≡◌, ◌==◌, ◌&&◌, ◌++◌, if◌then◌else◌, ℕ, Bool, true, false, not, Some, List, [], ◌∷◌, refl, ap, ◌∙◌, codes, length, nat_le}
use Rattle.std.specs.List.{list_all, onto_first}
use Rattle.std.specs.Str.{bytes_eq}
use Rattle.mk_line.specs.Ascii.{is_blank}
use Rattle.mk_line.specs.Lines.{is_nil}
use Rattle.mk_line.specs.Marks.{trimmed_before, trimmed}
use Rattle.mk_line.proofs.Blanks.{trimmed_kept}
use Rattle.mk_line.proofs.Cuts.{append_nil}
use Rattle.mk_head.specs.Boundaries.{is_boundary_byte, ends_in_space, is_boundary}
use Rattle.mk_line.specs.Parting.{before, following}
use Rattle.mk_head.specs.Values.{Plain, Quoted, uncommented, pieces, stripped, unquoted, parameter_value, lowered, parameters, is_token_byte, is_token, MediaType, media_type, typed_as, type_of_pieces, content_type_of}
use Rattle.mk_head.specs.declared.encodings.Encoding.{Encoding}
use Rattle.mk_head.specs.Types.{type_by}
use Rattle.mk_tree.specs.Kinds.{Multi, kind_of}
use Rattle.mk_decide.proofs.Renaming.{both, differs, feed_tested}
use Rattle.mk_decide.proofs.Bounds.{IsBound, has_return}

-- outside quotes such a byte neither opens nor ends anything, and is no blank
abbrev Simple : List ℕ → Type 0
Simple [] = Unit {0}
Simple (c ∷ cs) = ((c == 34) ≡ false) × ((c == 40) ≡ false) × ((c == 59) ≡ false) × ((c == 47) ≡ false) × (is_blank c ≡ false) × Simple cs

-- inside quotes such a byte stands for itself
abbrev InQuotes : List ℕ → Type 0
InQuotes [] = Unit {0}
InQuotes (c ∷ cs) = ((c == 34) ≡ false) × ((c == 92) ≡ false) × InQuotes cs

blank_tested : (f : ℕ → Bool) (c : ℕ) → f c ≡ true → f 32 ≡ false → f 9 ≡ false → is_blank c ≡ false
blank_tested f c h s t = rw (differs f c 32 h s, differs f c 9 h t) refl

token_simple : (cs : List ℕ) → list_all is_token_byte cs ≡ true → Simple cs
token_simple [] h = tt
token_simple (c ∷ cs) h =
    let p = both (is_token_byte c) (list_all is_token_byte cs) h in
    (differs is_token_byte c 34 p.0 refl, differs is_token_byte c 40 p.0 refl, differs is_token_byte c 59 p.0 refl, differs is_token_byte c 47 p.0 refl, blank_tested is_token_byte c p.0 refl refl, token_simple cs p.1)

boundary_quotes : (cs : List ℕ) → list_all is_boundary_byte cs ≡ true → InQuotes cs
boundary_quotes [] h = tt
boundary_quotes (c ∷ cs) h =
    let p = both (is_boundary_byte c) (list_all is_boundary_byte cs) h in
    (differs is_boundary_byte c 34 p.0 refl, differs is_boundary_byte c 92 p.0 refl, boundary_quotes cs p.1)

-- without comments
plain_uncommented : (cs rest : List ℕ) → Simple cs → uncommented Plain (cs ++ rest) ≡ cs ++ uncommented Plain rest
plain_uncommented [] rest h = refl
plain_uncommented (c ∷ cs) rest h = rw (h.0, h.1) (ap (λ xs. c ∷ xs) (plain_uncommented cs rest h.5))

quoted_uncommented : (cs : List ℕ) → InQuotes cs → uncommented Quoted (cs ++ (34 ∷ [])) ≡ cs ++ (34 ∷ [])
quoted_uncommented [] h = refl
quoted_uncommented (c ∷ cs) h = rw (h.1, h.0) (ap (λ xs. c ∷ xs) (quoted_uncommented cs h.2))

-- what follows the colon of the made line
abbrev pub made_value : List ℕ → List ℕ → List ℕ
made_value subtype b = codes " multipart/" ++ (subtype ++ (codes "; boundary=\"" ++ (b ++ codes "\"")))

value_uncommented : (subtype b : List ℕ) → Simple subtype → InQuotes b → uncommented Plain (made_value subtype b) ≡ made_value subtype b
value_uncommented subtype b h k =
    ap (λ xs. codes " multipart/" ++ xs) (plain_uncommented subtype (codes "; boundary=\"" ++ (b ++ codes "\"")) h ∙ ap (λ xs. subtype ++ (codes "; boundary=\"" ++ xs)) (quoted_uncommented b k))

-- the pieces
plain_pieces : (cs rest x : List ℕ) (ps : List (List ℕ)) → Simple cs → pieces Plain rest ≡ x ∷ ps → pieces Plain (cs ++ rest) ≡ (cs ++ x) ∷ ps
plain_pieces [] rest x ps h e = e
plain_pieces (c ∷ cs) rest x ps h e = rw (h.2, h.0, h.1) (ap (onto_first c) (plain_pieces cs rest x ps h.5 e))

quoted_pieces : (cs : List ℕ) → InQuotes cs → pieces Quoted (cs ++ (34 ∷ [])) ≡ (cs ++ (34 ∷ [])) ∷ []
quoted_pieces [] h = refl
quoted_pieces (c ∷ cs) h = rw (h.1, h.0) (ap (onto_first c) (quoted_pieces cs h.2))

-- the bytes up to the subtype, and the parameter
front_pieces : (subtype rest x : List ℕ) (ps : List (List ℕ)) → Simple subtype → pieces Plain rest ≡ x ∷ ps → pieces Plain (codes " multipart/" ++ (subtype ++ rest)) ≡ (codes " multipart/" ++ (subtype ++ x)) ∷ ps
front_pieces subtype rest x ps h e = ap (λ qs. onto_first 32 (onto_first 109 (onto_first 117 (onto_first 108 (onto_first 116 (onto_first 105 (onto_first 112 (onto_first 97 (onto_first 114 (onto_first 116 (onto_first 47 qs))))))))))) (plain_pieces subtype rest x ps h e)

after_pieces : (b : List ℕ) → InQuotes b → pieces Plain (codes "; boundary=\"" ++ (b ++ codes "\"")) ≡ [] ∷ (codes " boundary=\"" ++ (b ++ codes "\"")) ∷ []
after_pieces b k = ap (λ qs. [] ∷ onto_first 32 (onto_first 98 (onto_first 111 (onto_first 117 (onto_first 110 (onto_first 100 (onto_first 97 (onto_first 114 (onto_first 121 (onto_first 61 (onto_first 34 qs))))))))))) (quoted_pieces b k)

value_pieces : (subtype b : List ℕ) → Simple subtype → InQuotes b → pieces Plain (made_value subtype b) ≡ (codes " multipart/" ++ subtype) ∷ (codes " boundary=\"" ++ (b ++ codes "\"")) ∷ []
value_pieces subtype b h k =
    front_pieces subtype (codes "; boundary=\"" ++ (b ++ codes "\"")) [] ((codes " boundary=\"" ++ (b ++ codes "\"")) ∷ []) h (after_pieces b k)
    ∙ ap (λ xs. (codes " multipart/" ++ xs) ∷ (codes " boundary=\"" ++ (b ++ codes "\"")) ∷ []) (append_nil subtype)

-- without blanks at the ends
simple_trimmed : (cs : List ℕ) → Simple cs → trimmed cs ≡ cs
simple_trimmed [] h = refl
simple_trimmed (c ∷ []) h = rw h.4 refl
simple_trimmed (c ∷ d ∷ cs) h = ap (trimmed_before c) (simple_trimmed (d ∷ cs) h.5)

trimmed_front : (c d : ℕ) (cs : List ℕ) → trimmed (d ∷ cs) ≡ d ∷ cs → trimmed (c ∷ d ∷ cs) ≡ c ∷ d ∷ cs
trimmed_front c d cs h = ap (trimmed_before c) h

slash_trimmed : (cs : List ℕ) → Simple cs → trimmed (47 ∷ cs) ≡ 47 ∷ cs
slash_trimmed [] h = refl
slash_trimmed (c ∷ cs) h = ap (trimmed_before 47) (simple_trimmed (c ∷ cs) h)

type_stripped : (subtype : List ℕ) → Simple subtype → stripped (codes " multipart/" ++ subtype) ≡ codes "multipart/" ++ subtype
type_stripped subtype h =
    ap (λ xs. trimmed_before 109 (trimmed_before 117 (trimmed_before 108 (trimmed_before 116 (trimmed_before 105 (trimmed_before 112 (trimmed_before 97 (trimmed_before 114 (trimmed_before 116 xs))))))))) (slash_trimmed subtype h)

quotes_kept : (b : List ℕ) → InQuotes b → unquoted false (b ++ (34 ∷ [])) ≡ b
quotes_kept [] k = refl
quotes_kept (c ∷ b) k = rw (k.0, k.1) (ap (λ xs. c ∷ xs) (quotes_kept b k.2))

value_kept : (b : List ℕ) → InQuotes b → parameter_value (stripped (34 ∷ (b ++ (34 ∷ [])))) ≡ b
value_kept b k = ap parameter_value (trimmed_kept (34 ∷ b) 34 refl) ∙ quotes_kept b k

made_parameters : (b : List ℕ) → InQuotes b → parameters ((codes " boundary=\"" ++ (b ++ codes "\"")) ∷ []) ≡ (codes "boundary", b) ∷ []
made_parameters b k = ap (λ v. (codes "boundary", v) ∷ []) (value_kept b k)

-- the type that the value says
typed_by : (subtype : List ℕ) (t : Bool) (ps : List (List ℕ × List ℕ)) → t ≡ true → (if t then media_type (codes "multipart") (lowered subtype) ps else media_type (codes "text") (codes "plain") ps) ≡ media_type (codes "multipart") (lowered subtype) ps
typed_by subtype true ps e = refl
typed_by subtype false ps e = cc

pub made_type : (subtype b : List ℕ) → is_token subtype ≡ true → list_all is_boundary_byte b ≡ true → content_type_of (made_value subtype b) ≡ media_type (codes "multipart") (lowered subtype) ((codes "boundary", b) ∷ [])
made_type subtype b h k =
    let s = token_simple subtype (both (not (is_nil subtype)) (list_all is_token_byte subtype) h).1 in
    let q = boundary_quotes b k in
    ap (λ v. type_of_pieces (pieces Plain v)) (value_uncommented subtype b s q)
    ∙ (ap type_of_pieces (value_pieces subtype b s q)
    ∙ (ap (λ v. typed_as (before 47 v) (following 47 v) (parameters ((codes " boundary=\"" ++ (b ++ codes "\"")) ∷ []))) (type_stripped subtype s)
    ∙ (ap (typed_as (codes "multipart") (Some subtype)) (made_parameters b q)
    ∙ typed_by subtype (is_token subtype) ((codes "boundary", b) ∷ []) h)))

-- a boundary that may be made
pub record MayBound (b : List ℕ) : Type 0 where
  pub some : is_nil b ≡ false
  pub bytes : list_all is_boundary_byte b ≡ true
  pub ends : ends_in_space b ≡ false

not_false : (t : Bool) → not t ≡ true → t ≡ false
not_false true h = cc
not_false false h = refl

pub may_bound : (b : List ℕ) → is_boundary b ≡ true → MayBound b
may_bound b h =
    let p = both ((not (is_nil b) && nat_le (length b) 70) && list_all is_boundary_byte b) (not (ends_in_space b)) h in
    let q = both (not (is_nil b) && nat_le (length b) 70) (list_all is_boundary_byte b) p.0 in
    record {
      some = not_false (is_nil b) (both (not (is_nil b)) (nat_le (length b) 70) q.0).0;
      bytes = q.1;
      ends = not_false (ends_in_space b) p.1;
    }

space_blank : (c : ℕ) → is_boundary_byte c ≡ true → (c == 32) ≡ false → is_blank c ≡ false
space_blank c h s = rw (s, differs is_boundary_byte c 9 h refl) refl

bound_trimmed : (b : List ℕ) → list_all is_boundary_byte b ≡ true → ends_in_space b ≡ false → trimmed b ≡ b
bound_trimmed [] h e = refl
bound_trimmed (c ∷ []) h e = rw (space_blank c (both (is_boundary_byte c) true h).0 e) refl
bound_trimmed (c ∷ d ∷ b) h e = ap (trimmed_before c) (bound_trimmed (d ∷ b) (both (is_boundary_byte c) (list_all is_boundary_byte (d ∷ b)) h).1 e)

return_tested : (f : ℕ → Bool) (cs : List ℕ) → f 13 ≡ false → list_all f cs ≡ true → has_return cs ≡ false
return_tested f [] k h = refl
return_tested f (c ∷ cs) k h = let p = both (f c) (list_all f cs) h in rw (differs f c 13 p.0 k) (return_tested f cs k p.1)

pub made_bound : (b : List ℕ) → MayBound b → IsBound b
made_bound b h = record {
  trimmed_so = bound_trimmed b h.bytes h.ends;
  some = h.some;
  no_return = return_tested is_boundary_byte b refl h.bytes;
  no_feed = feed_tested is_boundary_byte b refl h.bytes;
}

bounded : (t : Bool) → t ≡ false → not t ≡ true
bounded true h = cc
bounded false h = refl

-- the kind that it says
pub made_kind : (d : Bool) (e : Encoding) (subtype b : List ℕ) → is_token subtype ≡ true → MayBound b → kind_of (type_by d (Some (made_value subtype b))) e ≡ Multi b (bytes_eq (lowered subtype) (codes "digest"))
made_kind d e subtype b h k =
    let m = made_bound b k in
    ap (λ (t : MediaType). kind_of t e) (made_type subtype b h k.bytes)
    ∙ rw (m.trimmed_so, m.some, m.no_return) refl
