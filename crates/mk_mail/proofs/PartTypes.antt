-- The made Content-Type field of a part says the media type that it is made for.
use Rattle.std.proofs.Common.{◌≡◌, ◌==◌, ◌&&◌, ◌++◌, if◌then◌else◌, ℕ, Bool, true, false, not, Option, None, Some, List, [], ◌∷◌, refl, ap, sym, ◌∙◌, codes, length, nat_le, inl, inr, append_assoc}
use Rattle.std.proofs.lemmas.Bool.{cases_Bool, eqb-true}
use Rattle.std.specs.List.{list_all, onto_first}
use Rattle.std.specs.Str.{bytes_eq}
use Rattle.mk_line.specs.Ascii.{is_blank}
use Rattle.mk_line.specs.Lines.{is_nil}
use Rattle.mk_line.specs.Marks.{trimmed_before, trimmed}
use Rattle.mk_line.proofs.Cuts.{append_nil}
use Rattle.mk_head.specs.declared.encodings.Encoding.{Encoding}
use Rattle.mk_line.specs.Parting.{before, following}
use Rattle.mk_head.specs.Types.{type_by}
use Rattle.mk_head.specs.Values.{Plain, Quoted, uncommented, pieces, unled, stripped, lowered, parameters, is_token_byte, is_token, MediaType, media_type, typed_as, type_of_pieces, content_type_of}
use Rattle.mk_tree.specs.Kinds.{Leaf, kind_of}
use Rattle.mk_build.specs.Building.{longest, is_single, is_media, is_name_byte, is_name}
use Rattle.mk_build.specs.Multiparts.{charset_param}
use Rattle.std.specs.Option.{option_map_or}

-- the name in a type, where there is one
abbrev pub name_param : Option (List ℕ) → List ℕ
name_param name = option_map_or (λ n. codes "; name=\"" ++ (n ++ codes "\"")) name []

pub both : (a b : Bool) → (a && b) ≡ true → (a ≡ true) × (b ≡ true)
both true b h = (refl, h)
both false b h = cc

true_false : {A : Type 0} → true ≡ false → A
true_false e = cc

-- a byte that meets a test is none that doesn't
pub differs : (f : ℕ → Bool) (c d : ℕ) → f c ≡ true → f d ≡ false → (c == d) ≡ false
differs f c d h k =
    elim (cases_Bool (c == d)) [
      | inl e ↦ true_false (sym h ∙ (ap f (eqb-true c d e) ∙ k))
      | inr e ↦ e
    ]

-- outside quotes such a byte neither opens nor ends anything, and is no blank
abbrev pub Simple : List ℕ → Type 0
Simple [] = Unit {0}
Simple (c ∷ cs) = ((c == 34) ≡ false) × ((c == 40) ≡ false) × ((c == 59) ≡ false) × ((c == 47) ≡ false) × (is_blank c ≡ false) × Simple cs

-- inside quotes such a byte stands for itself
abbrev pub InQuotes : List ℕ → Type 0
InQuotes [] = Unit {0}
InQuotes (c ∷ cs) = ((c == 34) ≡ false) × ((c == 92) ≡ false) × InQuotes cs

no_blank : (c : ℕ) → is_token_byte c ≡ true → is_blank c ≡ false
no_blank c h = rw (differs is_token_byte c 32 h refl, differs is_token_byte c 9 h refl) refl

pub token_simple : (cs : List ℕ) → list_all is_token_byte cs ≡ true → Simple cs
token_simple [] h = tt
token_simple (c ∷ cs) h =
    let p = both (is_token_byte c) (list_all is_token_byte cs) h in
    (differs is_token_byte c 34 p.0 refl, differs is_token_byte c 40 p.0 refl, differs is_token_byte c 59 p.0 refl, differs is_token_byte c 47 p.0 refl, no_blank c p.0, token_simple cs p.1)

pub name_quotes : (cs : List ℕ) → list_all is_name_byte cs ≡ true → InQuotes cs
name_quotes [] h = tt
name_quotes (c ∷ cs) h =
    let p = both (is_name_byte c) (list_all is_name_byte cs) h in
    (differs is_name_byte c 34 p.0 refl, differs is_name_byte c 92 p.0 refl, name_quotes cs p.1)

-- without comments
pub plain_uncommented : (cs rest : List ℕ) → Simple cs → uncommented Plain (cs ++ rest) ≡ cs ++ uncommented Plain rest
plain_uncommented [] rest h = refl
plain_uncommented (c ∷ cs) rest h = rw (h.0, h.1) (ap (λ xs. c ∷ xs) (plain_uncommented cs rest h.5))

quoted_uncommented : (cs : List ℕ) → InQuotes cs → uncommented Quoted (cs ++ (34 ∷ [])) ≡ cs ++ (34 ∷ [])
quoted_uncommented [] h = refl
quoted_uncommented (c ∷ cs) h = rw (h.1, h.0) (ap (λ xs. c ∷ xs) (quoted_uncommented cs h.2))

-- the pieces
pub plain_pieces : (cs rest x : List ℕ) (ps : List (List ℕ)) → Simple cs → pieces Plain rest ≡ x ∷ ps → pieces Plain (cs ++ rest) ≡ (cs ++ x) ∷ ps
plain_pieces [] rest x ps h e = e
plain_pieces (c ∷ cs) rest x ps h e = rw (h.2, h.0, h.1) (ap (onto_first c) (plain_pieces cs rest x ps h.5 e))

-- what may stand after a type: it has no comment, and begins a piece of its own
record IsBehind (tail : List ℕ) : Type 0 where
  kept : uncommented Plain tail ≡ tail
  others : List (List ℕ)
  apart : pieces Plain tail ≡ [] ∷ others

quoted_name : List ℕ → List ℕ
quoted_name name = codes "; name=\"" ++ (name ++ codes "\"")

name_kept : (name : List ℕ) → InQuotes name → uncommented Plain (codes "; name=\"" ++ (name ++ codes "\"")) ≡ codes "; name=\"" ++ (name ++ codes "\"")
name_kept name h = ap (λ xs. codes "; name=\"" ++ xs) (quoted_uncommented name h)

name_behind : (name : Option (List ℕ)) → option_map_or is_name name true ≡ true → IsBehind (name_param name)
name_behind None h = record { kept = refl; others = []; apart = refl }
name_behind (Some name) h =
    let p = both (not (is_nil name)) (nat_le (length name) longest && list_all is_name_byte name) h in
    let q = both (nat_le (length name) longest) (list_all is_name_byte name) p.1 in
    record { kept = name_kept name (name_quotes name q.1); others = pieces Plain (codes " name=\"" ++ (name ++ codes "\"")); apart = refl }

-- so may a charset, a token, before a name
after_type : (charset name : Option (List ℕ)) → option_map_or is_token charset true ≡ true → option_map_or is_name name true ≡ true → IsBehind (charset_param charset ++ name_param name)
after_type None name t n = name_behind name n
after_type (Some charset) name t n =
    let p = both (not (is_nil charset)) (list_all is_token_byte charset) t in
    let b = name_behind name n in
    record {
      kept = ap (λ xs. codes "; charset=" ++ xs) (plain_uncommented charset (name_param name) (token_simple charset p.1) ∙ ap (λ xs. charset ++ xs) b.kept);
      others = pieces Plain (codes " charset=" ++ (charset ++ name_param name));
      apart = refl;
    }

-- a media type is its type, a slash, and its subtype
pub parted : (media sub : List ℕ) → following 47 media ≡ Some sub → media ≡ before 47 media ++ 47 ∷ sub
parted [] sub h = absurd cc
parted (c ∷ cs) sub h = elim (cases_Bool (c == 47)) [
  | inl e ↦
      let same : c ≡ 47 = eqb-true c 47 e in
      let rest : ◌≡◌ {A = Option (List ℕ)} (Some cs) (Some sub) = sym (rw e refl) ∙ h in
      let tail : cs ≡ sub = cc in
      rw (e, same, tail) refl
  | inr e ↦ rw e (ap (λ xs. c ∷ xs) (parted cs sub (sym (rw e refl) ∙ h)))
]

-- without blanks at the ends
kept_front : (c : ℕ) (xs : List ℕ) → is_nil xs ≡ false → trimmed xs ≡ xs → trimmed (c ∷ xs) ≡ c ∷ xs
kept_front c [] n h = absurd cc
kept_front c (d ∷ ds) n h = ap (trimmed_before c) h

pub simple_trimmed : (cs : List ℕ) → Simple cs → trimmed cs ≡ cs
simple_trimmed [] h = refl
simple_trimmed (c ∷ []) h = rw h.4 refl
simple_trimmed (c ∷ d ∷ cs) h = kept_front c (d ∷ cs) refl (simple_trimmed (d ∷ cs) h.5)

slash_kept : (sub : List ℕ) → Simple sub → trimmed (47 ∷ sub) ≡ 47 ∷ sub
slash_kept [] h = refl
slash_kept (c ∷ cs) h = kept_front 47 (c ∷ cs) refl (simple_trimmed (c ∷ cs) h)

some_after : (m xs : List ℕ) → is_nil (m ++ 47 ∷ xs) ≡ false
some_after [] xs = refl
some_after (c ∷ m) xs = refl

type_kept : (m sub : List ℕ) → Simple sub → trimmed (m ++ 47 ∷ sub) ≡ m ++ 47 ∷ sub
type_kept [] sub h = slash_kept sub h
type_kept (c ∷ m) sub h = kept_front c (m ++ 47 ∷ sub) (some_after m sub) (type_kept m sub h)

type_stripped : (m sub : List ℕ) → is_nil m ≡ false → Simple m → Simple sub → stripped (32 ∷ (m ++ 47 ∷ sub)) ≡ m ++ 47 ∷ sub
type_stripped [] sub n h k = absurd cc
type_stripped (c ∷ m) sub n h k =
    let led : unled (32 ∷ ((c ∷ m) ++ 47 ∷ sub)) ≡ (c ∷ m) ++ 47 ∷ sub = rw h.4 refl in
    ap trimmed led ∙ type_kept (c ∷ m) sub k

type_before : (m sub : List ℕ) → Simple m → before 47 (m ++ 47 ∷ sub) ≡ m
type_before [] sub h = refl
type_before (c ∷ m) sub h = rw h.3 (ap (λ xs. c ∷ xs) (type_before m sub h.5))

type_after : (m sub : List ℕ) → Simple m → following 47 (m ++ 47 ∷ sub) ≡ Some sub
type_after [] sub h = refl
type_after (c ∷ m) sub h = rw h.3 (type_after m sub h.5)

-- the value after the colon, of a type and a subtype
made_uncommented : (m sub tail : List ℕ) → Simple m → Simple sub → IsBehind tail → uncommented Plain (32 ∷ (m ++ 47 ∷ (sub ++ tail))) ≡ 32 ∷ (m ++ 47 ∷ (sub ++ tail))
made_uncommented m sub tail h k b =
    ap (λ xs. 32 ∷ xs)
    (plain_uncommented m (47 ∷ (sub ++ tail)) h
    ∙ ap (λ xs. m ++ 47 ∷ xs) (plain_uncommented sub tail k ∙ ap (λ xs. sub ++ xs) b.kept))

made_pieces : (m sub tail : List ℕ) → Simple m → Simple sub → (b : IsBehind tail) → pieces Plain (32 ∷ (m ++ 47 ∷ (sub ++ tail))) ≡ (32 ∷ (m ++ 47 ∷ sub)) ∷ b.others
made_pieces m sub tail h k b =
    ap (onto_first 32) (plain_pieces m (47 ∷ (sub ++ tail)) (47 ∷ (sub ++ [])) b.others h (ap (onto_first 47) (plain_pieces sub tail [] b.others k b.apart)))
    ∙ ap (λ xs. (32 ∷ (m ++ 47 ∷ xs)) ∷ b.others) (append_nil sub)

typed_main : (t : Bool) (m sub : List ℕ) (ps : List (List ℕ × List ℕ)) → t ≡ true → (if t then media_type (lowered m) (lowered sub) ps else media_type (codes "text") (codes "plain") ps).main ≡ lowered m
typed_main true m sub ps e = refl
typed_main false m sub ps e = absurd cc

both_true : (a b : Bool) → a ≡ true → b ≡ true → (a && b) ≡ true
both_true a b h k = rw (h, k) refl

made_main : (m sub tail : List ℕ) → is_token m ≡ true → is_token sub ≡ true → IsBehind tail → (content_type_of (32 ∷ (m ++ 47 ∷ (sub ++ tail)))).main ≡ lowered m
made_main m sub tail h k b =
    let p = both (not (is_nil m)) (list_all is_token_byte m) h in
    let sm = token_simple m p.1 in
    let ss = token_simple sub (both (not (is_nil sub)) (list_all is_token_byte sub) k).1 in
    let some : is_nil m ≡ false = not_true (is_nil m) p.0 in
    ap (λ v. (type_of_pieces (pieces Plain v)).main) (made_uncommented m sub tail sm ss b)
    ∙ (ap (λ ps. (type_of_pieces ps).main) (made_pieces m sub tail sm ss b)
    ∙ (ap (λ v. (typed_as (before 47 v) (following 47 v) (parameters b.others)).main) (type_stripped m sub some sm ss)
    ∙ ((λ i. (typed_as (type_before m sub sm i) (type_after m sub sm i) (parameters b.others)).main)
    ∙ typed_main (is_token m && is_token sub) m sub (parameters b.others) (both_true (is_token m) (is_token sub) h k))))
  where
    not_true : (t : Bool) → not t ≡ true → t ≡ false
    not_true true e = absurd cc
    not_true false e = refl

-- the type that a part's value says
pub part_main : (media : List ℕ) (charset name : Option (List ℕ)) → is_media media ≡ true → option_map_or is_token charset true ≡ true → option_map_or is_name name true ≡ true
    → (content_type_of (32 ∷ (media ++ (charset_param charset ++ name_param name)))).main ≡ lowered (before 47 media)
part_main media charset name h t n =
    let p = both (nat_le (length media) longest) (is_token (before 47 media) && (option_map_or is_token (following 47 media) false && is_single (before 47 media))) h in
    let q = both (is_token (before 47 media)) (option_map_or is_token (following 47 media) false && is_single (before 47 media)) p.1 in
    let r = both (option_map_or is_token (following 47 media) false) (is_single (before 47 media)) q.1 in
    by_subtype (following 47 media) refl q.0 r.0
  where
    tail : List ℕ
    tail = charset_param charset ++ name_param name

    by_subtype : (o : Option (List ℕ)) → following 47 media ≡ o → is_token (before 47 media) ≡ true → option_map_or is_token o false ≡ true → (content_type_of (32 ∷ (media ++ tail))).main ≡ lowered (before 47 media)
    by_subtype None e m s = absurd cc
    by_subtype (Some sub) e m s =
        let same = parted media sub e in
        ap (λ v. (content_type_of (32 ∷ v)).main) (ap (λ v. v ++ tail) same ∙ append_assoc (before 47 media) (47 ∷ sub) tail)
        ∙ made_main (before 47 media) sub tail m s (after_type charset name t n)

single_kind : (t : MediaType) (e : Encoding) (m : List ℕ) → t.main ≡ lowered m → is_single m ≡ true → kind_of t e ≡ Leaf
single_kind t e m h s =
    let p = both (not (bytes_eq (lowered m) (codes "multipart"))) (not (bytes_eq (lowered m) (codes "message"))) s in
    let multi : bytes_eq t.main (codes "multipart") ≡ false = ap (λ v. bytes_eq v (codes "multipart")) h ∙ off (bytes_eq (lowered m) (codes "multipart")) p.0 in
    let message : bytes_eq t.main (codes "message") ≡ false = ap (λ v. bytes_eq v (codes "message")) h ∙ off (bytes_eq (lowered m) (codes "message")) p.1 in
    rw (multi, message) refl
  where
    off : (b : Bool) → not b ≡ true → b ≡ false
    off true e = absurd cc
    off false e = refl

-- a part is a leaf
pub part_kind : (digest : Bool) (e : Encoding) (media : List ℕ) (charset name : Option (List ℕ)) → is_media media ≡ true → option_map_or is_token charset true ≡ true → option_map_or is_name name true ≡ true
    → kind_of (type_by digest (Some (32 ∷ (media ++ (charset_param charset ++ name_param name))))) e ≡ Leaf
part_kind digest e media charset name h t n =
    let p = both (nat_le (length media) longest) (is_token (before 47 media) && (option_map_or is_token (following 47 media) false && is_single (before 47 media))) h in
    let q = both (is_token (before 47 media)) (option_map_or is_token (following 47 media) false && is_single (before 47 media)) p.1 in
    let r = both (option_map_or is_token (following 47 media) false) (is_single (before 47 media)) q.1 in
    single_kind (content_type_of (32 ∷ (media ++ (charset_param charset ++ name_param name)))) e (before 47 media) (part_main media charset name h t n) r.1
