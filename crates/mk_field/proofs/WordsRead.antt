-- A value that was written in encoded words is read again.
use Rattle.mk_line.specs.Kinds.{is_name}
use Rattle.std.proofs.Common.{◌≡◌, ◌==◌, ◌||◌, ◌++◌, ◌<◌, if◌then◌else◌, ℕ, Bool, Option, suc, zero, true, false, not, List, [], ◌∷◌, Some, refl, ap, sym, ◌∙◌, get_or, lit<, map}
use Rattle.std.specs.Prelude.{codes}
use Rattle.std.specs.List.{list_all}
use Rattle.std.specs.Str.{IsUtf8, is_utf8}
use Rattle.std.proofs.lemmas.Str.{IsUtf8-append, IsUtf8-from_ascii, is_utf8-from_IsUtf8}
use Rattle.std.proofs.lemmas.Bool.{and_parts, not-true}
use Rattle.base64.specs.GeneralPurpose.{IsBytes}
use Rattle.mk_line.specs.declared.cutting.Ending.{Ending}
use Rattle.mk_line.specs.Ascii.{is_blank, is_name_byte}
use Rattle.mk_line.specs.Lines.{is_nil}
use Rattle.mk_line.specs.Marks.{trimmed, trimmed_before}
use Rattle.mk_head.specs.Values.{stripped}
use Rattle.mk_code.specs.EncodedWords.{has_pair, is_shown, text_decoded, words_decoded, words_encoded}
use Rattle.mk_code.proofs.OutputCuts.{differs}
use Rattle.mk_code.proofs.WordsBack.{words_back}
use Rattle.mk_code.proofs.Spaced.{space_decoded, text_whole}
use Rattle.mk_code.proofs.WordsKept.{words_kept}
use Rattle.mk_script.specs.Paths.{parted}
use Rattle.mk_script.proofs.PieceLemmas.{HoldsNo, parted-append}
use Rattle.mk_field.specs.Filtering.{after_colon}
use Rattle.std.specs.Option.{option_map_or}
use Rattle.mk_mail.specs.Prepended.{is_one_line, is_plain}
use Rattle.mk_wording.specs.Wording.{field_kind, is_structured, worded_field, worded_field_of, worded_value}
use Rattle.mk_wording.proofs.FieldLemmas.{text_written}
use Rattle.mk_wording.specs.Values.{decoded_value, line_byte}
use Rattle.mk_mail.proofs.Plainness.{needed, plain_stays}

-- a text on one line stays as it is
line_kept : (text : List ℕ) → is_one_line text ≡ true → map line_byte text ≡ text
line_kept [] h = refl
line_kept (x ∷ xs) h =
    let both = and_parts (not (x == 13 || x == 10)) (is_one_line xs) h in
    rw (not-true (x == 13 || x == 10) both.0) (ap (λ ys. x ∷ ys) (line_kept xs both.1))

all_decoded : (value text : List ℕ) → words_decoded value ≡ text → IsUtf8 text → text_decoded value ≡ text
all_decoded value text d u = text_whole value (ap is_utf8 d ∙ is_utf8-from_IsUtf8 text u) ∙ d

space_ascii : (i : ℕ) → get_or (32 ∷ []) i 0 < 128
space_ascii zero = lit< tt
space_ascii (suc i) = lit< tt

space_is_text : (text : List ℕ) → IsUtf8 text → IsUtf8 (32 ∷ text)
space_is_text text u = IsUtf8-append (32 ∷ []) text (IsUtf8-from_ascii (32 ∷ []) space_ascii) u

spaced_value : (value text : List ℕ) → words_decoded value ≡ text → IsUtf8 text → is_one_line text ≡ true → stripped text ≡ text → decoded_value (32 ∷ value) ≡ text
spaced_value value text d u l s =
    ap (λ bytes. stripped (map line_byte bytes)) (all_decoded (32 ∷ value) (32 ∷ text) (space_decoded value ∙ ap (λ bytes. 32 ∷ bytes) d) (space_is_text text u))
    ∙ (ap stripped (line_kept text l) ∙ s)

-- a name holds no colon and no blank
no_colon : (name : List ℕ) → list_all is_name_byte name ≡ true → HoldsNo 58 name
no_colon [] h = tt
no_colon (x ∷ xs) h =
    let both = and_parts (is_name_byte x) (list_all is_name_byte xs) h in
    (λ e. let bad : true ≡ false = sym both.0 ∙ ap is_name_byte e in absurd (cc bad), no_colon xs both.1)

no_blank : (byte : ℕ) → is_name_byte byte ≡ true → is_blank byte ≡ false
no_blank byte h = rw (differs is_name_byte byte 32 refl h, differs is_name_byte byte 9 refl h) refl

name_kept : (name : List ℕ) → list_all is_name_byte name ≡ true → trimmed name ≡ name
name_kept [] h = refl
name_kept (x ∷ xs) h =
    let both = and_parts (is_name_byte x) (list_all is_name_byte xs) h in
    ap (trimmed_before x) (name_kept xs both.1) ∙ before_name x xs (no_blank x both.0)
  where
    before_name : (byte : ℕ) (bytes : List ℕ) → is_blank byte ≡ false → trimmed_before byte bytes ≡ byte ∷ bytes
    before_name byte [] n = rw n refl
    before_name byte (next ∷ bytes) n = refl

-- a field is parted at its colon
abbrev field : List ℕ → List ℕ → List ℕ
field name value = name ++ (codes ": " ++ value)

field_parted : (name value : List ℕ) → list_all is_name_byte name ≡ true → parted 58 (field name value) ≡ Some (name, 32 ∷ value)
field_parted name value h = parted-append 58 name (32 ∷ value) (no_colon name h)

value_after : (name value : List ℕ) → list_all is_name_byte name ≡ true → after_colon (field name value) ≡ 32 ∷ value
value_after name value h = ap (λ o. option_map_or (λ p. p.1) o []) (field_parted name value h)

-- the field that is made of a name and a text
field_worded : (eol : Ending) (name text : List ℕ) → list_all is_name_byte name ≡ true → stripped text ≡ text
    → worded_field eol (field name text) ≡ worded_field_of eol (field name text) name text
field_worded eol name text h s =
    ap (λ o. option_map_or (λ q. worded_field_of eol (field name text) (trimmed q.0) (stripped q.1)) o (field name text)) (field_parted name text h)
    ∙ ((λ i. worded_field_of eol (field name text) (name_kept name h i) (stripped text)) ∙ ap (worded_field_of eol (field name text) name) s)

-- what is read where the text stays, and where it goes in as encoded words
plain_read : (name text : List ℕ) → list_all is_name_byte name ≡ true → is_plain text ≡ true → IsUtf8 text → is_one_line text ≡ true → stripped text ≡ text
    → decoded_value (after_colon (field name text)) ≡ text
plain_read name text h p u l s =
    let both = and_parts (list_all is_shown text) (not (has_pair 61 63 text)) p in
    ap decoded_value (value_after name text h)
    ∙ spaced_value text text (words_kept text both.0 (not-true (has_pair 61 63 text) both.1)) u l s

words_read : (eol : Ending) (name text : List ℕ) → list_all is_name_byte name ≡ true → IsUtf8 text → IsBytes text → is_one_line text ≡ true → stripped text ≡ text
    → decoded_value (after_colon (field name (words_encoded eol text))) ≡ text
words_read eol name text h u b l s =
    ap decoded_value (value_after name (words_encoded eol text) h)
    ∙ spaced_value (words_encoded eol text) text (words_back eol text b) u l s

-- the field of a name and a value that was written, or as it is given
abbrev pub field_or : List ℕ → List ℕ → Option (List ℕ) → List ℕ
field_or given name o = option_map_or (λ worded. name ++ (codes ": " ++ worded)) o given

-- what is read of a field whose text needs encoded words or not
abbrev pub made_by : Ending → List ℕ → List ℕ → Bool → List ℕ
made_by eol name text needs = decoded_value (after_colon (if needs then field_or (field name text) name (worded_value (field_kind name) eol text) else field name text))

-- what is read of the field that is made of a name and a text
parts_read : (eol : Ending) (name text : List ℕ) (stays : Bool) → is_plain text ≡ stays → list_all is_name_byte name ≡ true → is_structured name ≡ false → IsUtf8 text → IsBytes text → is_one_line text ≡ true
    → stripped text ≡ text → decoded_value (after_colon (worded_field_of eol (field name text) name text)) ≡ text
parts_read eol name text true e h a u b l s = ap (made_by eol name text) (plain_stays text u e) ∙ plain_read name text h e u l s
parts_read eol name text false e h a u b l s =
    ap (made_by eol name text) (needed text u e)
    ∙ (ap (λ o. decoded_value (after_colon (field_or (field name text) name o))) (text_written eol name text a) ∙ words_read eol name text h u b l s)

pub worded_read : (eol : Ending) (name text : List ℕ) → is_name name ≡ true → is_structured name ≡ false → IsUtf8 text → IsBytes text → is_one_line text ≡ true → stripped text ≡ text → decoded_value (after_colon (worded_field eol (name ++ (codes ": " ++ text)))) ≡ text
worded_read eol name text n a u b l s =
    let h = (and_parts (not (is_nil name)) (list_all is_name_byte name) n).1 in
    ap (λ made. decoded_value (after_colon made)) (field_worded eol name text h s)
    ∙ parts_read eol name text (is_plain text) refl h a u b l s
