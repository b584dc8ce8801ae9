-- The disposition of a part says the name that it was made for.
use Rattle.std.proofs.Common.{◌≡◌, ◌==◌, ◌&&◌, ◌||◌, ◌++◌, ◌+◌, ◌/◌, ◌%◌, ◌<◌, ◌≤◌, if◌then◌else◌, ℕ, Bool, true, false, not, Option, Some, List, [], ◌∷◌, refl, ap, sym, ◌∙◌, codes, nat_lt, arith, append-nil}
use Rattle.std.proofs.lemmas.Bool.{ltb-false, ltb-true, ne_eqb}
use Rattle.std.specs.List.{list_all, onto_first}
use Rattle.std.specs.Option.{option_or}
use Rattle.std.specs.Prelude.{option_and_then}
use Rattle.std.specs.Str.{is_utf8}
use Rattle.mk_line.specs.Ascii.{is_blank}
use Rattle.mk_head.specs.Values.{Plain, Quoted, uncommented, pieces, stripped, param_of, parameter_value, type_of_pieces, is_token_byte}
use Rattle.mk_code.specs.QuotedPrintable.{hex_digit}
use Rattle.mk_param.specs.Extended.{extended_text, segments_text}
use Rattle.mk_param.specs.Percents.{byte_encoded, is_attribute_byte, percent_decoded, percent_encoded}
use Rattle.mk_param.specs.Said.{plain_text, said_text}
use Rattle.mk_param.specs.Segments.{segments_from}
use Rattle.mk_param.proofs.Percents.{percent_back}
use Rattle.mk_view.specs.TextNames.{disposed_text}
use Rattle.mk_mail.proofs.PartTypes.{InQuotes, Simple, both, plain_pieces, plain_uncommented, simple_trimmed, token_simple}

-- ---- what is written with percent signs

simple_join : (xs ys : List ℕ) → Simple xs → Simple ys → Simple (xs ++ ys)
simple_join [] ys h k = k
simple_join (x ∷ xs) ys h k = (h.0, h.1, h.2, h.3, h.4, simple_join xs ys h.5 k)

-- a byte from `0` on that is no semicolon
above_simple : (n : ℕ) → 48 ≤ n → (n ≡ 59 → ⊥) → Simple (n ∷ [])
above_simple n l s =
    (ne_eqb n 34 (λ e. absurd (omega (arith, e, l))), ne_eqb n 40 (λ e. absurd (omega (arith, e, l))), ne_eqb n 59 s, ne_eqb n 47 (λ e. absurd (omega (arith, e, l))), no_blank, tt)
  where
    no_blank : is_blank n ≡ false
    no_blank = rw (ne_eqb n 32 (λ e. absurd (omega (arith, e, l))), ne_eqb n 9 (λ e. absurd (omega (arith, e, l)))) refl

digit_simple : (value : ℕ) → Simple (hex_digit value ∷ [])
digit_simple value = by_size (nat_lt value 10) refl
  where
    by_size : (small : Bool) → nat_lt value 10 ≡ small → Simple ((if small then 48 + value else 55 + value) ∷ [])
    by_size true h = let l : value < 10 = ltb-true value 10 h in above_simple (48 + value) (omega arith) (λ e. absurd (omega (arith, e, l)))
    by_size false h = let l : 10 ≤ value = ltb-false value 10 h in above_simple (55 + value) (omega (arith, l)) (λ e. absurd (omega (arith, e, l)))

token_of : (byte : ℕ) → is_attribute_byte byte ≡ true → list_all is_token_byte (byte ∷ []) ≡ true
token_of byte h = let p = both (is_token_byte byte) (not (byte == 42 || byte == 39 || byte == 37)) h in rw p.0 refl

byte_simple : (byte : ℕ) → Simple (byte_encoded byte)
byte_simple byte = by_kind (is_attribute_byte byte) refl
  where
    by_kind : (plain : Bool) → is_attribute_byte byte ≡ plain → Simple (if plain then byte ∷ [] else 37 ∷ hex_digit (byte / 16) ∷ hex_digit (byte % 16) ∷ [])
    by_kind true h = token_simple (byte ∷ []) (token_of byte h)
    by_kind false h = (refl, refl, refl, refl, refl, simple_join (hex_digit (byte / 16) ∷ []) (hex_digit (byte % 16) ∷ []) (digit_simple (byte / 16)) (digit_simple (byte % 16)))

percent_simple : (bytes : List ℕ) → Simple (percent_encoded bytes)
percent_simple [] = tt
percent_simple (byte ∷ bytes) = simple_join (byte_encoded byte) (percent_encoded bytes) (byte_simple byte) (percent_simple bytes)

-- ---- the value of the disposition

abbrev said_value : List ℕ → List ℕ
said_value enc = codes "utf-8''" ++ enc

abbrev pub value_of : List ℕ → List ℕ → List ℕ
value_of name enc = codes " attachment; filename=\"" ++ (name ++ (34 ∷ (codes "; filename*=" ++ said_value enc)))

quoted_uncommented : (cs rest : List ℕ) → InQuotes cs → uncommented Quoted (cs ++ 34 ∷ rest) ≡ cs ++ 34 ∷ uncommented Plain rest
quoted_uncommented [] rest h = refl
quoted_uncommented (c ∷ cs) rest h = rw (h.1, h.0) (ap (λ xs. c ∷ xs) (quoted_uncommented cs rest h.2))

encoded_uncommented : (enc : List ℕ) → Simple enc → uncommented Plain enc ≡ enc
encoded_uncommented enc h = ap (uncommented Plain) (sym (append-nil enc)) ∙ (plain_uncommented enc [] h ∙ append-nil enc)

value_uncommented : (name enc : List ℕ) → InQuotes name → Simple enc → uncommented Plain (value_of name enc) ≡ value_of name enc
value_uncommented name enc h k =
    ap (λ xs. codes " attachment; filename=\"" ++ xs)
    (quoted_uncommented name (codes "; filename*=" ++ said_value enc) h
    ∙ ap (λ xs. name ++ 34 ∷ (codes "; filename*=utf-8''" ++ xs)) (encoded_uncommented enc k))

-- bytes that neither open nor end anything outside quotes
abbrev is_calm : ℕ → Bool
is_calm byte = not (byte == 34) && (not (byte == 40) && not (byte == 59))

not_true : (t : Bool) → not t ≡ true → t ≡ false
not_true true e = absurd cc
not_true false e = refl

calm_pieces : (cs rest x : List ℕ) (ps : List (List ℕ)) → list_all is_calm cs ≡ true → pieces Plain rest ≡ x ∷ ps → pieces Plain (cs ++ rest) ≡ (cs ++ x) ∷ ps
calm_pieces [] rest x ps h e = e
calm_pieces (c ∷ cs) rest x ps h e =
    let p = both (is_calm c) (list_all is_calm cs) h in
    let q = both (not (c == 34)) (not (c == 40) && not (c == 59)) p.0 in
    let r = both (not (c == 40)) (not (c == 59)) q.1 in
    rw (not_true (c == 59) r.1, not_true (c == 34) q.0, not_true (c == 40) r.0) (ap (onto_first c) (calm_pieces cs rest x ps p.1 e))

quoted_pieces : (cs rest x : List ℕ) (ps : List (List ℕ)) → InQuotes cs → pieces Plain rest ≡ x ∷ ps → pieces Quoted (cs ++ 34 ∷ rest) ≡ (cs ++ 34 ∷ x) ∷ ps
quoted_pieces [] rest x ps h e = ap (onto_first 34) e
quoted_pieces (c ∷ cs) rest x ps h e = rw (h.1, h.0) (ap (onto_first c) (quoted_pieces cs rest x ps h.2 e))

abbrev name_piece : List ℕ → List ℕ
name_piece name = codes " filename=" ++ 34 ∷ (name ++ 34 ∷ [])

abbrev said_piece : List ℕ → List ℕ
said_piece enc = codes " filename*=" ++ said_value enc

said_pieces : (enc : List ℕ) → Simple enc → pieces Plain (said_piece enc) ≡ said_piece enc ∷ []
said_pieces enc h =
    calm_pieces (codes " filename*=utf-8''") enc enc [] refl
    (ap (pieces Plain) (sym (append-nil enc)) ∙ (plain_pieces enc [] [] [] h refl ∙ ap (λ xs. xs ∷ []) (append-nil enc)))

name_pieces : (name enc : List ℕ) → InQuotes name → Simple enc → pieces Plain (codes " filename=" ++ 34 ∷ (name ++ (34 ∷ 59 ∷ said_piece enc))) ≡ name_piece name ∷ said_piece enc ∷ []
name_pieces name enc h k =
    calm_pieces (codes " filename=") (34 ∷ (name ++ (34 ∷ 59 ∷ said_piece enc))) (34 ∷ (name ++ 34 ∷ [])) (said_piece enc ∷ []) refl
    (ap (onto_first 34) (quoted_pieces name (59 ∷ said_piece enc) [] (said_piece enc ∷ []) h (ap (λ ps. [] ∷ ps) (said_pieces enc k))))

value_pieces : (name enc : List ℕ) → InQuotes name → Simple enc → pieces Plain (value_of name enc) ≡ codes " attachment" ∷ name_piece name ∷ said_piece enc ∷ []
value_pieces name enc h k =
    calm_pieces (codes " attachment") (59 ∷ (codes " filename=" ++ 34 ∷ (name ++ (34 ∷ 59 ∷ said_piece enc)))) [] (name_piece name ∷ said_piece enc ∷ []) refl
    (ap (λ ps. [] ∷ ps) (name_pieces name enc h k))

-- its second parameter
said_kept : (enc : List ℕ) → Simple enc → parameter_value (stripped (said_value enc)) ≡ said_value enc
said_kept enc h = ap parameter_value (simple_trimmed (said_value enc) (simple_join (codes "utf-8''") enc (token_simple (codes "utf-8''") refl) h))

abbrev made_params : List ℕ → List ℕ → List (List ℕ × List ℕ)
made_params value said = (codes "filename", value) ∷ (codes "filename*", said) ∷ []

text_kept : (said enc : List ℕ) → percent_decoded enc ≡ Some said → is_utf8 said ≡ true → extended_text (said_value enc) ≡ Some said
text_kept said enc d u = rw d (rw (append-nil said, u) refl)

said_by_params : (value said enc : List ℕ) → extended_text (said_value enc) ≡ Some said → said_text (codes "filename") (made_params value (said_value enc)) ≡ Some said
unfolding said_text
said_by_params value said enc e =
    let look : List ℕ → Option (List ℕ) = λ asked. param_of asked (made_params value (said_value enc)) in
    ap (λ o. option_or o (option_or (segments_text (segments_from look (codes "filename") 0 2)) (option_and_then plain_text (look (codes "filename"))))) e

-- the disposition of a part with a name as people write it says this name
pub disposed : (name said : List ℕ) → InQuotes name → list_all (λ byte. nat_lt byte 256) said ≡ true → is_utf8 said ≡ true → disposed_text (Some (value_of name (percent_encoded said))) ≡ Some said
disposed name said h b u =
    let enc = percent_encoded said in
    let simple = percent_simple said in
    let value = parameter_value (stripped (34 ∷ (name ++ 34 ∷ []))) in
    ap (λ v. said_text (codes "filename") (type_of_pieces (pieces Plain v)).params) (value_uncommented name enc h simple)
    ∙ (ap (λ ps. said_text (codes "filename") (type_of_pieces ps).params) (value_pieces name enc h simple)
    ∙ (ap (λ v. said_text (codes "filename") (made_params value v)) (said_kept enc simple)
    ∙ said_by_params value said enc (text_kept said enc (percent_back said b) u)))
