-- A part of a built message: its lines, that they are read back, and what it holds.
use Rattle.std.proofs.Common.{◌≡◌, ◌≢◌, ◌==◌, ◌&&◌, ◌++◌, ◌+◌, ◌/◌, ◌%◌, ◌<◌, if◌then◌else◌, ℕ, suc, Bool, true, false, not, Option, None, Some, List, [], ◌∷◌, refl, ap, sym, ◌∙◌, subst, append_assoc, codes, length, nat_le, nat_lt, arith, inl, inr}
use Rattle.std.proofs.lemmas.Bool.{cases_Bool, ne_eqb}
use Rattle.std.proofs.lemmas.List.Folds.{list_all-append}
use Rattle.std.specs.List.{list_all}
use Rattle.mk_line.specs.declared.cutting.Ending.{Ending}
use Rattle.mk_line.specs.declared.cutting.Ending.TheVariants.{Crlf, Lf, Missing}
use Rattle.mk_line.specs.Lines.{TextLine, text_line, ending_bytes, is_nil, is_open, cut, text_of, has_line_feed, ends_in_return, IsLine, AreLines}
use Rattle.mk_line.proofs.Cuts.{append_nil, lines_cut, text_append, text_cut}
use Rattle.mk_head.specs.declared.encodings.Encoding.{Encoding}
use Rattle.mk_head.specs.declared.encodings.Encoding.TheVariants.{Base64, Qp}
use Rattle.mk_head.specs.Splits.{IsRun}
use Rattle.mk_head.specs.Types.{field_value, header_encoding, type_by}
use Rattle.std.specs.Prelude.{unwrap_or}
use Rattle.mk_head.specs.Values.{is_token, is_token_byte}
use Rattle.mk_line.specs.Parting.{before, following}
use Rattle.mk_code.specs.Contents.{IsContent}
use Rattle.mk_code.specs.Base64Text.{base64_encoded}
use Rattle.mk_code.specs.QuotedPrintable.{hex_digit, qp_encoded}
use Rattle.mk_param.specs.Percents.{byte_encoded, is_attribute_byte, percent_encoded}
use Rattle.mk_code.proofs.Base64Laws.{base64_back}
use Rattle.mk_code.proofs.Base64Safe.{base64_safe}
use Rattle.mk_code.proofs.NoReturns.{base64_others, is_other, qp_others}
use Rattle.mk_code.proofs.QpBack.{qp_back}
use Rattle.mk_code.proofs.QpSafe.{qp_safe}
use Rattle.mk_tree.specs.Cutting.{Unmarked}
use Rattle.mk_tree.specs.Kinds.{Leaf, kind, kind_of}
use Rattle.mk_tree.specs.Reading.{IsWellRead}
use Rattle.mk_tree.specs.Tree.{Entity, leaf, print}
use Rattle.mk_tree.proofs.Plugs.{unmarked_join}
use Rattle.mk_decide.proofs.Bounds.{made_line}
use Rattle.mk_build.specs.Building.{Attached, disposition_line, encoded, encoding_line, is_media, is_name, is_name_byte, is_single, longest}
use Rattle.mk_build.specs.Multiparts.{attached_as, charset_param, is_text}
use Rattle.std.specs.Option.{option_map_or}
use Rattle.mk_mail.specs.BuiltLaws.{AreBytes}
use Rattle.mk_view.specs.Extracts.{IsContentOf}
use Rattle.mk_mail.proofs.BuiltBodies.{AreFree, body_content, free_ended, free_unmarked, safe_free}
use Rattle.mk_mail.proofs.BuiltLines.{AreClosed, closed_joined, cut_ended, lines_joined, some_closed}
use Rattle.mk_mail.proofs.PartTypes.{both, differs, name_param, part_kind, parted}

-- the name as people write it, the encoding, and the charset of a media type
abbrev pub said_param : Option (List ℕ) → List ℕ
said_param said = option_map_or (λ text. codes "; filename*=utf-8''" ++ percent_encoded text) said []

abbrev pub encoding_name : Bool → List ℕ
encoding_name base64 = if base64 then codes "base64" else codes "quoted-printable"

abbrev pub charset_for : Option (List ℕ) → List ℕ → Option (List ℕ)
charset_for charset media = if is_text media then charset else None

-- the lines of its fields
abbrev pub part_type : Ending → List ℕ → Option (List ℕ) → Option (List ℕ) → TextLine
part_type eol media charset name = text_line (codes "Content-Type: " ++ (media ++ (charset_param charset ++ name_param name))) eol

abbrev pub disposition : Ending → Option (List ℕ) → Option (List ℕ) → List TextLine
disposition eol None said = []
disposition eol (Some name) said = text_line (codes "Content-Disposition: attachment; filename=\"" ++ (name ++ (codes "\"" ++ said_param said))) eol ∷ []

abbrev pub part_encoding : Ending → Bool → TextLine
part_encoding eol base64 = text_line (codes "Content-Transfer-Encoding: " ++ encoding_name base64) eol

abbrev pub part_fields : Ending → List ℕ → Option (List ℕ) → Option (List ℕ) → Option (List ℕ) → Bool → List TextLine
part_fields eol media charset name said base64 = part_type eol media charset name ∷ (disposition eol name said ++ (part_encoding eol base64 ∷ []))

abbrev pub empty_line : Ending → TextLine
empty_line eol = text_line [] eol

abbrev pub part_body : Ending → Attached → List TextLine
part_body eol a = cut (encoded eol a ++ ending_bytes eol)

-- the part as an entity, where texts name this charset
abbrev pub part_entity : Ending → Option (List ℕ) → Attached → Entity
part_entity eol charset a = leaf (record { fields = part_fields eol a.media (charset_for charset a.media) a.name a.said a.base64; separator = Some (empty_line eol) }) (part_body eol a)

without_name : (t m s e c n bytes : List ℕ)
    → (((t ++ (m ++ (s ++ []))) ++ e) ++ (((c ++ n) ++ e) ++ (([] ++ e) ++ []))) ++ (bytes ++ e)
    ≡ ((t ++ (m ++ (s ++ ([] ++ e)))) ++ ([] ++ ((c ++ (n ++ e)) ++ (e ++ bytes)))) ++ e
without_name t m s e c n bytes = simp append_assoc

with_name : (t m s p name q u e d c n bytes : List ℕ)
    → (((t ++ (m ++ (s ++ (p ++ (name ++ q))))) ++ e) ++ (((d ++ (name ++ (q ++ u))) ++ e) ++ (((c ++ n) ++ e) ++ (([] ++ e) ++ [])))) ++ (bytes ++ e)
    ≡ ((t ++ (m ++ (s ++ ((p ++ (name ++ q)) ++ e)))) ++ ((d ++ (name ++ (q ++ (u ++ e)))) ++ ((c ++ (n ++ e)) ++ (e ++ bytes)))) ++ e
with_name t m s p name q u e d c n bytes = simp append_assoc

-- its text
text_by : (eol : Ending) (media : List ℕ) (charset name said : Option (List ℕ)) (base64 : Bool) (bytes body : List ℕ) → body ≡ bytes ++ ending_bytes eol
    → text_of (part_fields eol media charset name said base64 ++ (empty_line eol ∷ [])) ++ body
    ≡ ((codes "Content-Type: " ++ (media ++ (charset_param charset ++ (name_param name ++ ending_bytes eol)))) ++ (disposition_line eol name said ++ (encoding_line eol base64 ++ (ending_bytes eol ++ bytes)))) ++ ending_bytes eol
text_by eol media charset None said base64 bytes body h =
    rw h (without_name (codes "Content-Type: ") media (charset_param charset) (ending_bytes eol) (codes "Content-Transfer-Encoding: ") (encoding_name base64) bytes)
text_by eol media charset (Some name) said base64 bytes body h =
    rw h (with_name (codes "Content-Type: ") media (charset_param charset) (codes "; name=\"") name (codes "\"") (said_param said) (ending_bytes eol) (codes "Content-Disposition: attachment; filename=\"") (codes "Content-Transfer-Encoding: ") (encoding_name base64) bytes)

pub part_text : (eol : Ending) (charset : Option (List ℕ)) (a : Attached) → text_of (print (part_entity eol charset a)) ≡ attached_as eol charset a ++ ending_bytes eol
part_text eol charset a =
    text_append (part_fields eol a.media (charset_for charset a.media) a.name a.said a.base64 ++ (empty_line eol ∷ [])) (part_body eol a)
    ∙ text_by eol a.media (charset_for charset a.media) a.name a.said a.base64 (encoded eol a) (text_of (part_body eol a)) (text_cut (encoded eol a ++ ending_bytes eol))

-- bytes that are no part of an ending
abbrev is_inner : ℕ → Bool
is_inner byte = not (byte == 10) && not (byte == 13)

inner_all : (f : ℕ → Bool) (bytes : List ℕ) → f 10 ≡ false → f 13 ≡ false → list_all f bytes ≡ true → list_all is_inner bytes ≡ true
inner_all f [] h k e = refl
inner_all f (byte ∷ bytes) h k e =
    let p = both (f byte) (list_all f bytes) e in
    rw (differs f byte 10 p.0 h, differs f byte 13 p.0 k) (inner_all f bytes h k p.1)

inner_join : (xs ys : List ℕ) → list_all is_inner xs ≡ true → list_all is_inner ys ≡ true → list_all is_inner (xs ++ ys) ≡ true
inner_join xs ys h k = list_all-append is_inner xs ys ∙ rw (h, k) refl

not_true : (t : Bool) → not t ≡ true → t ≡ false
not_true true e = absurd cc
not_true false e = refl

inner_feed : (bytes : List ℕ) → list_all is_inner bytes ≡ true → has_line_feed bytes ≡ false
inner_feed [] h = refl
inner_feed (byte ∷ bytes) h =
    let p = both (is_inner byte) (list_all is_inner bytes) h in
    rw (not_true (byte == 10) (both (not (byte == 10)) (not (byte == 13)) p.0).0) (inner_feed bytes p.1)

inner_return : (bytes : List ℕ) → list_all is_inner bytes ≡ true → ends_in_return bytes ≡ false
inner_return [] h = refl
inner_return (byte ∷ []) h = let p = both (is_inner byte) true h in not_true (byte == 13) (both (not (byte == 10)) (not (byte == 13)) p.0).1
inner_return (byte ∷ next ∷ bytes) h = inner_return (next ∷ bytes) (both (is_inner byte) (list_all is_inner (next ∷ bytes)) h).1

pub inner_line : (eol : Ending) (content : List ℕ) → is_open eol ≡ false → list_all is_inner content ≡ true → IsLine (text_line content eol)
inner_line eol content c h = made_line eol content c (inner_feed content h) (inner_return content h)

-- the bytes of a media type, of a charset and of a name
token_inner : (bytes : List ℕ) → is_token bytes ≡ true → list_all is_inner bytes ≡ true
token_inner bytes t = inner_all is_token_byte bytes refl refl (both (not (is_nil bytes)) (list_all is_token_byte bytes) t).1

media_inner : (media : List ℕ) → is_media media ≡ true → list_all is_inner media ≡ true
media_inner media h =
    let p = both (nat_le (length media) longest) (is_token (before 47 media) && (option_map_or is_token (following 47 media) false && is_single (before 47 media))) h in
    let q = both (is_token (before 47 media)) (option_map_or is_token (following 47 media) false && is_single (before 47 media)) p.1 in
    let r = both (option_map_or is_token (following 47 media) false) (is_single (before 47 media)) q.1 in
    by_subtype (following 47 media) refl (token_inner (before 47 media) q.0) r.0
  where
    by_subtype : (o : Option (List ℕ)) → following 47 media ≡ o → list_all is_inner (before 47 media) ≡ true → option_map_or is_token o false ≡ true → list_all is_inner media ≡ true
    by_subtype None e t s = absurd cc
    by_subtype (Some sub) e t s = ap (list_all is_inner) (parted media sub e) ∙ inner_join (before 47 media) (47 ∷ sub) t (token_inner sub s)

charset_inner : (charset : Option (List ℕ)) → option_map_or is_token charset true ≡ true → list_all is_inner (charset_param charset) ≡ true
charset_inner None h = refl
charset_inner (Some charset) h = inner_join (codes "; charset=") charset refl (token_inner charset h)

-- the charset of a part is that of all texts, or none
charset_given : (charset : Option (List ℕ)) (media : List ℕ) → option_map_or is_token charset true ≡ true → option_map_or is_token (charset_for charset media) true ≡ true
charset_given charset media h = by_type (is_text media)
  where
    by_type : (t : Bool) → option_map_or is_token (if t then charset else None) true ≡ true
    by_type true = h
    by_type false = refl

name_inner : (name : List ℕ) → is_name name ≡ true → list_all is_inner name ≡ true
name_inner name h =
    let p = both (not (is_nil name)) (nat_le (length name) longest && list_all is_name_byte name) h in
    inner_all is_name_byte name refl refl (both (nat_le (length name) longest) (list_all is_name_byte name) p.1).1

param_inner : (name : Option (List ℕ)) → option_map_or is_name name true ≡ true → list_all is_inner (name_param name) ≡ true
param_inner None h = refl
param_inner (Some name) h = inner_join (codes "; name=\"") (name ++ codes "\"") refl (inner_join name (codes "\"") (name_inner name h) refl)

-- and those of a name as people write it
digit_inner : (value : ℕ) → is_inner (hex_digit value) ≡ true
digit_inner value = by_size (nat_lt value 10)
  where
    past : (n : ℕ) → 13 < n → is_inner n ≡ true
    past n l = rw (ne_eqb n 10 (λ e. absurd (omega (arith, e, l))), ne_eqb n 13 (λ e. absurd (omega (arith, e, l)))) refl

    by_size : (small : Bool) → is_inner (if small then 48 + value else 55 + value) ≡ true
    by_size true = past (48 + value) (omega arith)
    by_size false = past (55 + value) (omega arith)

byte_inner : (byte : ℕ) → list_all is_inner (byte_encoded byte) ≡ true
byte_inner byte =
    elim (cases_Bool (is_attribute_byte byte)) [
      | inl t ↦ rw (t, differs is_attribute_byte byte 10 t refl, differs is_attribute_byte byte 13 t refl) refl
      | inr f ↦ rw (f, digit_inner (byte / 16), digit_inner (byte % 16)) refl
    ]

percent_inner : (bytes : List ℕ) → list_all is_inner (percent_encoded bytes) ≡ true
percent_inner [] = refl
percent_inner (byte ∷ bytes) = inner_join (byte_encoded byte) (percent_encoded bytes) (byte_inner byte) (percent_inner bytes)

said_inner : (said : Option (List ℕ)) → list_all is_inner (said_param said) ≡ true
said_inner None = refl
said_inner (Some said) = inner_join (codes "; filename*=utf-8''") (percent_encoded said) refl (percent_inner said)

-- its lines are lines, and none is open
pub record AreFull (ls : List TextLine) : Type 0 where
  pub lines : AreLines ls
  pub closed : AreClosed ls

pub full_join : (xs ys : List TextLine) → AreFull xs → AreFull ys → AreFull (xs ++ ys)
full_join xs ys h k = record { lines = lines_joined xs ys h.lines h.closed k.lines; closed = closed_joined xs ys h.closed k.closed }

pub full_one : (content : List ℕ) (eol : Ending) → is_open eol ≡ false → IsLine (text_line content eol) → AreFull (text_line content eol ∷ [])
full_one content eol c h = record { lines = (h, (λ _. refl), tt); closed = (c, tt) }

pub full_none : AreFull []
full_none = record { lines = tt; closed = tt }

disposition_full : (eol : Ending) (name said : Option (List ℕ)) → is_open eol ≡ false → option_map_or is_name name true ≡ true → AreFull (disposition eol name said)
disposition_full eol None said c h = full_none
disposition_full eol (Some name) said c h =
    let content = codes "Content-Disposition: attachment; filename=\"" ++ (name ++ (codes "\"" ++ said_param said)) in
    full_one content eol c
    (inner_line eol content c
    (inner_join (codes "Content-Disposition: attachment; filename=\"") (name ++ (codes "\"" ++ said_param said)) refl
    (inner_join name (codes "\"" ++ said_param said) (name_inner name h) (inner_join (codes "\"") (said_param said) refl (said_inner said)))))

encoding_inner : (base64 : Bool) → list_all is_inner (codes "Content-Transfer-Encoding: " ++ encoding_name base64) ≡ true
encoding_inner true = refl
encoding_inner false = refl

fields_full : (eol : Ending) (media : List ℕ) (charset name said : Option (List ℕ)) (base64 : Bool)
    → is_open eol ≡ false → is_media media ≡ true → option_map_or is_token charset true ≡ true → option_map_or is_name name true ≡ true → AreFull (part_fields eol media charset name said base64)
fields_full eol media charset name said base64 c h t n =
    let behind = charset_param charset ++ name_param name in
    let content = codes "Content-Type: " ++ (media ++ behind) in
    full_join (part_type eol media charset name ∷ []) (disposition eol name said ++ (part_encoding eol base64 ∷ []))
    (full_one content eol c (inner_line eol content c (inner_join (codes "Content-Type: ") (media ++ behind) refl (inner_join media behind (media_inner media h) (inner_join (charset_param charset) (name_param name) (charset_inner charset t) (param_inner name n))))))
    (full_join (disposition eol name said) (part_encoding eol base64 ∷ []) (disposition_full eol name said c n)
    (full_one (codes "Content-Transfer-Encoding: " ++ encoding_name base64) eol c (inner_line eol (codes "Content-Transfer-Encoding: " ++ encoding_name base64) c (encoding_inner base64))))

pub part_full : (eol : Ending) (charset : Option (List ℕ)) (a : Attached) → is_open eol ≡ false → option_map_or is_token charset true ≡ true → is_media a.media ≡ true → option_map_or is_name a.name true ≡ true → AreFull (print (part_entity eol charset a))
part_full eol charset a c t h n =
    let fields = part_fields eol a.media (charset_for charset a.media) a.name a.said a.base64 in
    let head = full_join fields (empty_line eol ∷ []) (fields_full eol a.media (charset_for charset a.media) a.name a.said a.base64 c h (charset_given charset a.media t) n) (full_one [] eol c (inner_line eol [] c refl)) in
    let body : AreFull (part_body eol a) = record { lines = lines_cut (encoded eol a ++ ending_bytes eol); closed = some_closed (part_body eol a) (cut_ended (encoded eol a) eol c) } in
    full_join (fields ++ (empty_line eol ∷ [])) (part_body eol a) head body

-- no line of it is a mark
fields_free : (eol : Ending) (media : List ℕ) (charset name said : Option (List ℕ)) (base64 : Bool) → AreFree (part_fields eol media charset name said base64 ++ (empty_line eol ∷ []))
fields_free eol media charset None said base64 = (refl, (refl, (refl, tt)))
fields_free eol media charset (Some name) said base64 = (refl, (refl, (refl, (refl, tt))))

not_missing : (eol : Ending) → is_open eol ≡ false → eol ≢ Missing
not_missing Crlf c e = cc
not_missing Lf c e = cc
not_missing Missing c e = cc

encoded_by : (t : Bool) (P : List ℕ → Type 0) (x y : List ℕ) → (t ≡ true → P x) → (t ≡ false → P y) → P (if t then x else y)
encoded_by true P x y h k = h refl
encoded_by false P x y h k = k refl

pub part_free : (b : List ℕ) (eol : Ending) (charset : Option (List ℕ)) (a : Attached) → is_open eol ≡ false → AreBytes a.text → Unmarked b (print (part_entity eol charset a))
part_free b eol charset a c small =
    let is = not_missing eol c in
    let head = part_fields eol a.media (charset_for charset a.media) a.name a.said a.base64 ++ (empty_line eol ∷ []) in
    let safe : AreFree (cut (encoded eol a)) =
    encoded_by a.base64 (λ xs. AreFree (cut xs)) (base64_encoded eol a.text) (qp_encoded eol a.text) (λ _. safe_free (cut (base64_encoded eol a.text)) (base64_safe eol a.text is small)) (λ _. safe_free (cut (qp_encoded eol a.text)) (qp_safe eol a.text is small)) in
    unmarked_join b head (part_body eol a)
    (free_unmarked b head (fields_free eol a.media (charset_for charset a.media) a.name a.said a.base64))
    (free_unmarked b (part_body eol a) (free_ended (encoded eol a) eol c safe))

-- what its fields say
type_value : (eol : Ending) (media : List ℕ) (charset name said : Option (List ℕ)) (base64 : Bool)
    → field_value (codes "Content-Type") (part_fields eol media charset name said base64) ≡ Some (32 ∷ (media ++ (charset_param charset ++ name_param name)))
type_value eol media charset None said base64 = ap (λ cs. Some (unwrap_or (following 58 cs) [])) (append_nil (codes "Content-Type: " ++ (media ++ (charset_param charset ++ name_param None))))
type_value eol media charset (Some name) said base64 = ap (λ cs. Some (unwrap_or (following 58 cs) [])) (append_nil (codes "Content-Type: " ++ (media ++ (charset_param charset ++ name_param (Some name)))))

-- the encoding that is named
abbrev coding : Bool → Encoding
coding true = Base64
coding false = Qp

says_encoding : (eol : Ending) (media : List ℕ) (charset name said : Option (List ℕ)) (base64 : Bool) → header_encoding (part_fields eol media charset name said base64) ≡ coding base64
says_encoding eol media charset None said true = refl
says_encoding eol media charset None said false = refl
says_encoding eol media charset (Some name) said true = refl
says_encoding eol media charset (Some name) said false = refl

fields_kind : (digest : Bool) (eol : Ending) (media : List ℕ) (charset name said : Option (List ℕ)) (base64 : Bool)
    → is_media media ≡ true → option_map_or is_token charset true ≡ true → option_map_or is_name name true ≡ true → kind (part_fields eol media charset name said base64) digest ≡ Leaf
unfolding kind
fields_kind digest eol media charset name said base64 h t n =
    ap (λ o. kind_of (type_by digest o) (header_encoding (part_fields eol media charset name said base64))) (type_value eol media charset name said base64)
    ∙ part_kind digest (header_encoding (part_fields eol media charset name said base64)) media charset name h t n

fields_run : (eol : Ending) (media : List ℕ) (charset name said : Option (List ℕ)) (base64 : Bool) → IsRun false (part_fields eol media charset name said base64)
fields_run eol media charset None said base64 = (refl, (refl, tt))
fields_run eol media charset (Some name) said base64 = (refl, (refl, (refl, tt)))

-- it is read back
pub part_read : (n : ℕ) (digest : Bool) (eol : Ending) (charset : Option (List ℕ)) (a : Attached) → option_map_or is_token charset true ≡ true → is_media a.media ≡ true → option_map_or is_name a.name true ≡ true → IsWellRead (suc n) digest (part_entity eol charset a)
part_read n digest eol charset a t h k =
    let here = charset_for charset a.media in
    (record { run = fields_run eol a.media here a.name a.said a.base64; next = refl }, fields_kind digest eol a.media here a.name a.said a.base64 h (charset_given charset a.media t) k)

no_returns : (eol : Ending) (a : Attached) → AreBytes a.text → eol ≡ Lf → list_all is_other (encoded eol a) ≡ true
no_returns eol a small e =
    subst (λ l. list_all is_other (encoded l a) ≡ true) (sym e)
    (encoded_by a.base64 (λ xs. list_all is_other xs ≡ true) (base64_encoded Lf a.text) (qp_encoded Lf a.text) (λ _. base64_others a.text small) (λ _. qp_others a.text))

content_by : (eol : Ending) (base64 : Bool) (text : List ℕ) → is_open eol ≡ false → AreBytes text → IsContent (coding base64) (if base64 then base64_encoded eol text else qp_encoded eol text) text
content_by eol true text c small = base64_back eol text (not_missing eol c) small
content_by eol false text c small = sym (qp_back eol text (not_missing eol c) small)

-- the content of the part, where lines stand after it, is what was attached
pub part_content : (start : ℕ) (digest : Bool) (eol : Ending) (charset : Option (List ℕ)) (a : Attached) → is_open eol ≡ false → AreBytes a.text
    → IsContentOf (record { start = start; followed = true; digest = digest; entity = part_entity eol charset a }) a.text
part_content start digest eol charset a c small =
    rw (says_encoding eol a.media (charset_for charset a.media) a.name a.said a.base64, body_content (encoded eol a) eol c (no_returns eol a small)) (content_by eol a.base64 a.text c small)
