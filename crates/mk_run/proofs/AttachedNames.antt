-- The disposition of an attached part says the name that it was made for.
use Rattle.std.proofs.Common.{◌≡◌, ◌==◌, ◌≤◌, ◌&&◌, ◌++◌, ℕ, zero, suc, Bool, true, false, not, None, Option, Some, List, [], ◌∷◌, refl, ap, ◌∙◌, codes, length, nat_le, nat_lt, arith, if◌then◌else◌}
use Rattle.std.proofs.lemmas.Bool.{leb-true}
use Rattle.std.proofs.lemmas.Str.{IsUtf8-from_ascii, is_utf8-from_IsUtf8}
use Rattle.std.specs.List.{list_all, onto_first}
use Rattle.std.specs.Option.{option_or}
use Rattle.std.specs.Prelude.{unwrap_or}
use Rattle.std.specs.Str.{IsAscii, is_utf8}
use Rattle.mk_line.specs.declared.cutting.Ending.{Ending}
use Rattle.mk_line.specs.Lines.{is_nil}
use Rattle.mk_line.specs.Marks.{trimmed, trimmed_before}
use Rattle.mk_line.specs.Parting.{following}
use Rattle.mk_line.proofs.Cuts.{append_nil}
use Rattle.mk_head.specs.Types.{field_value}
use Rattle.mk_head.specs.Values.{Plain, Quoted, content_type_of, param_of, parameter_value, pieces, stripped, type_of_pieces, uncommented, unquoted}
use Rattle.mk_code.specs.EncodedWords.{as_text, words_decoded}
use Rattle.mk_param.specs.Said.{plain_text, said_text}
use Rattle.mk_tree.specs.Sections.{Placed}
use Rattle.mk_tree.specs.Tree.{field_lines}
use Rattle.mk_view.specs.FileNames.{disposed_name}
use Rattle.mk_view.specs.Listing.{type_of}
use Rattle.mk_view.specs.TextNames.{disposed_text, text_name}
use Rattle.mk_build.specs.Building.{Attached, is_name, is_name_byte, longest}
use Rattle.mk_mail.proofs.BuiltParts.{charset_for, part_entity, part_fields}
use Rattle.mk_mail.proofs.PartTypes.{InQuotes, both, name_quotes}
use Rattle.mk_mail.proofs.SaidNames.{disposed, value_of as said_value}
use Rattle.mk_param.specs.Percents.{percent_encoded}
use Rattle.mk_run.specs.AttachLaws.{SaysName}
use Rattle.mk_run.proofs.AttachedParts.{entity_by}

-- ---- the value of the disposition

abbrev value_of : List ℕ → List ℕ
value_of name = codes " attachment; filename=\"" ++ (name ++ 34 ∷ [])

quoted_uncommented : (cs : List ℕ) → InQuotes cs → uncommented Quoted (cs ++ 34 ∷ []) ≡ cs ++ 34 ∷ []
quoted_uncommented [] h = refl
quoted_uncommented (c ∷ cs) h = rw (h.1, h.0) (ap (λ xs. c ∷ xs) (quoted_uncommented cs h.2))

value_uncommented : (name : List ℕ) → InQuotes name → uncommented Plain (value_of name) ≡ value_of name
value_uncommented name h = ap (λ xs. codes " attachment; filename=\"" ++ xs) (quoted_uncommented name h)

quoted_pieces : (cs : List ℕ) → InQuotes cs → pieces Quoted (cs ++ 34 ∷ []) ≡ (cs ++ 34 ∷ []) ∷ []
quoted_pieces [] h = refl
quoted_pieces (c ∷ cs) h = rw (h.1, h.0) (ap (onto_first c) (quoted_pieces cs h.2))

-- bytes that neither open nor end anything outside quotes
abbrev is_calm : ℕ → Bool
is_calm byte = not (byte == 34) && (not (byte == 40) && not (byte == 59))

not_true : (t : Bool) → not t ≡ true → t ≡ false
not_true true e = absurd cc
not_true false e = refl

calm_pieces : (cs rest x : List ℕ) (ps : List (List ℕ)) → list_all is_calm cs ≡ true → pieces Plain rest ≡ x ∷ ps → pieces Plain (cs ++ rest) ≡ (cs ++ x) ∷ ps
calm_pieces [] rest x ps h e = e
calm_pieces (c ∷ cs) rest x ps h e =
    let p = both (is_calm c) (list_all is_calm cs) h in
    let q = both (not (c == 34)) (not (c == 40) && not (c == 59)) p.0 in
    let r = both (not (c == 40)) (not (c == 59)) q.1 in
    rw (not_true (c == 59) r.1, not_true (c == 34) q.0, not_true (c == 40) r.0) (ap (onto_first c) (calm_pieces cs rest x ps p.1 e))

abbrev name_piece : List ℕ → List ℕ
name_piece name = codes " filename=" ++ 34 ∷ (name ++ 34 ∷ [])

name_pieces : (name : List ℕ) → InQuotes name → pieces Plain (name_piece name) ≡ name_piece name ∷ []
name_pieces name h = calm_pieces (codes " filename=") (34 ∷ (name ++ 34 ∷ [])) (34 ∷ (name ++ 34 ∷ [])) [] refl (ap (onto_first 34) (quoted_pieces name h))

value_pieces : (name : List ℕ) → InQuotes name → pieces Plain (value_of name) ≡ codes " attachment" ∷ name_piece name ∷ []
value_pieces name h = calm_pieces (codes " attachment") (59 ∷ name_piece name) [] (name_piece name ∷ []) refl (ap (λ ps. [] ∷ ps) (name_pieces name h))

-- the parameter is the name
trimmed_some : (xs : List ℕ) (c : ℕ) → is_nil xs ≡ false → trimmed xs ≡ xs → trimmed (c ∷ xs) ≡ c ∷ xs
trimmed_some [] c n h = absurd cc
trimmed_some (x ∷ xs) c n h = ap (trimmed_before c) h

quote_some : (cs : List ℕ) → is_nil (cs ++ 34 ∷ []) ≡ false
quote_some [] = refl
quote_some (c ∷ cs) = refl

quote_trimmed : (cs : List ℕ) → trimmed (cs ++ 34 ∷ []) ≡ cs ++ 34 ∷ []
quote_trimmed [] = refl
quote_trimmed (c ∷ cs) = trimmed_some (cs ++ 34 ∷ []) c (quote_some cs) (quote_trimmed cs)

unquoted_name : (cs : List ℕ) → InQuotes cs → unquoted false (cs ++ 34 ∷ []) ≡ cs
unquoted_name [] h = refl
unquoted_name (c ∷ cs) h = rw (h.0, h.1) (ap (λ xs. c ∷ xs) (unquoted_name cs h.2))

name_kept : (name : List ℕ) → InQuotes name → parameter_value (stripped (34 ∷ (name ++ 34 ∷ []))) ≡ name
name_kept name h = ap parameter_value (quote_trimmed (34 ∷ name)) ∙ unquoted_name name h

abbrev made_params : List ℕ → List (List ℕ × List ℕ)
made_params value = (codes "filename", value) ∷ []

params_are : (name : List ℕ) → InQuotes name → (content_type_of (value_of name)).params ≡ made_params name
params_are name h =
    ap (λ v. (type_of_pieces (pieces Plain v)).params) (value_uncommented name h)
    ∙ (ap (λ ps. (type_of_pieces ps).params) (value_pieces name h)
    ∙ ap made_params (name_kept name h))

-- ---- what the fields say

disposition_value : (eol : Ending) (media : List ℕ) (charset : Option (List ℕ)) (name : List ℕ) (base64 : Bool) → field_value (codes "Content-Disposition") (part_fields eol media charset (Some name) None base64) ≡ Some (value_of name)
disposition_value eol media charset name base64 = ap (λ cs. Some (unwrap_or (following 58 cs) [])) (append_nil (codes "Content-Disposition:" ++ value_of name))

text_by_params : (name : List ℕ) → said_text (codes "filename") (made_params name) ≡ plain_text name
unfolding said_text
text_by_params name = refl

-- a name is a text
name_ascii : (name : List ℕ) → list_all is_name_byte name ≡ true → IsAscii name
name_ascii [] h i = omega arith
name_ascii (c ∷ cs) h zero =
    let p = both (is_name_byte c) (list_all is_name_byte cs) h in
    let q = both (nat_le 32 c) (nat_le c 126 && (not (c == 34) && not (c == 92))) p.0 in
    let small : c ≤ 126 = leb-true c 126 (both (nat_le c 126) (not (c == 34) && not (c == 92)) q.1).0 in
    omega (arith, small)
name_ascii (c ∷ cs) h (suc i) = name_ascii cs (both (is_name_byte c) (list_all is_name_byte cs) h).1 i

name_bytes : (name : List ℕ) → is_name name ≡ true → list_all is_name_byte name ≡ true
name_bytes name h =
    let p = both (not (is_nil name)) (nat_le (length name) longest && list_all is_name_byte name) h in
    (both (nat_le (length name) longest) (list_all is_name_byte name) p.1).1

plain_is : (name : List ℕ) → list_all is_name_byte name ≡ true → words_decoded name ≡ name → plain_text name ≡ Some name
plain_is name h w =
    ap as_text w
    ∙ ap (λ t. if t then Some name else None) (is_utf8-from_IsUtf8 name (IsUtf8-from_ascii name (name_ascii name h)))

-- what a part with the fields of a file says
said_by : (eol : Ending) (charset : Option (List ℕ)) (a : Attached) (name : List ℕ) (q : Placed)
    → field_value (codes "Content-Disposition") (field_lines q.entity) ≡ field_value (codes "Content-Disposition") (part_fields eol a.media (charset_for charset a.media) a.name a.said a.base64)
    → a.name ≡ Some name → a.said ≡ None → is_name name ≡ true → SaysName name q
said_by eol charset a name q e n s h =
    let quotes = name_quotes name (name_bytes name h) in
    let value : field_value (codes "Content-Disposition") (field_lines q.entity) ≡ Some (value_of name) =
    e
    ∙ ((λ i. field_value (codes "Content-Disposition") (part_fields eol a.media (charset_for charset a.media) (n i) (s i) a.base64)) ∙ disposition_value eol a.media (charset_for charset a.media) name a.base64) in
    record {
      raw =
          ap (λ o. option_or (disposed_name o) (param_of (codes "name") (type_of q).params)) value
          ∙ ap (λ ps. option_or (param_of (codes "filename") ps) (param_of (codes "name") (type_of q).params)) (params_are name quotes);
      text = λ w.
          ap (λ o. option_or (disposed_text o) (said_text (codes "name") (type_of q).params)) value
          ∙ (ap (λ ps. option_or (said_text (codes "filename") ps) (said_text (codes "name") (type_of q).params)) (params_are name quotes)
          ∙ ap (λ o. option_or o (said_text (codes "name") (type_of q).params)) (text_by_params name ∙ plain_is name (name_bytes name h) w));
    }

-- what a part under a name in UTF-8 says
said_disposition : (eol : Ending) (media : List ℕ) (charset : Option (List ℕ)) (name said : List ℕ) (base64 : Bool)
    → field_value (codes "Content-Disposition") (part_fields eol media charset (Some name) (Some said) base64) ≡ Some (said_value name (percent_encoded said))
said_disposition eol media charset name said base64 = ap (λ cs. Some (unwrap_or (following 58 cs) [])) (append_nil (codes "Content-Disposition:" ++ said_value name (percent_encoded said)))

pub says_text : (eol : Ending) (charset : Option (List ℕ)) (a : Attached) (name said : List ℕ) (followed : Bool) (q : Placed) → q.entity ≡ entity_by eol charset a followed → a.name ≡ Some name → a.said ≡ Some said → is_name name ≡ true
    → list_all (λ byte. nat_lt byte 256) said ≡ true → is_utf8 said ≡ true → text_name q ≡ Some said
says_text eol charset a name said followed q e n s good bytes utf8 =
    let here = charset_for charset a.media in
    ap (λ o. option_or (disposed_text o) (said_text (codes "name") (type_of q).params))
    (ap (λ x. field_value (codes "Content-Disposition") (field_lines x)) e
    ∙ ((λ i. field_value (codes "Content-Disposition") (part_fields eol a.media here (n i) (s i) a.base64)) ∙ said_disposition eol a.media here name said a.base64))
    ∙ ap (λ o. option_or o (said_text (codes "name") (type_of q).params)) (disposed name said (name_quotes name (name_bytes name good)) bytes utf8)

-- what a part that was attached says
pub says_name : (eol : Ending) (charset : Option (List ℕ)) (a : Attached) (name : List ℕ) (followed : Bool) (q : Placed) → q.entity ≡ entity_by eol charset a followed → a.name ≡ Some name → a.said ≡ None → is_name name ≡ true → SaysName name q
says_name eol charset a name followed q e = said_by eol charset a name q (ap (λ x. field_value (codes "Content-Disposition") (field_lines x)) e)

-- what a part of a built message says
pub built_says : (eol : Ending) (charset : Option (List ℕ)) (a : Attached) (name : List ℕ) (q : Placed) → q.entity ≡ part_entity eol charset a → a.name ≡ Some name → a.said ≡ None → is_name name ≡ true → SaysName name q
built_says eol charset a name q e = said_by eol charset a name q (ap (λ x. field_value (codes "Content-Disposition") (field_lines x)) e)
