-- Encoded words in the value of a field (RFC 2047; that a word of any length and an empty text are decoded is our own).
use Rattle.std.specs.Prelude.{◌==◌, ◌≤◌, ◌&&◌, ◌||◌, ◌+◌, if◌then◌else◌, ℕ, Bool, false, nat_le, nat_lt, not, List, [], ◌∷◌, ◌++◌, length, drop, codes, Option, Some, None, is_some, unwrap_or, option_and_then, take_while, encode_utf8}
use Rattle.std.specs.Option.{option_map}
use Rattle.std.specs.List.{flat_map, join_by, list_all, list_any, onto_first, slice_split}
use Rattle.std.specs.Str.{bytes_eq, is_utf8, str_to_ascii_lowercase}
use Rattle.base64.specs.GeneralPurpose.{encode_of, decoded_of}
use Rattle.base64.specs.Engines.{standard, standard_no_pad}
use Rattle.mk_line.specs.declared.cutting.Ending.{Ending}
use Rattle.mk_line.specs.Parting.{before}
use Rattle.mk_code.specs.Charsets.{text_in_table, upper_of}
use Rattle.mk_line.specs.Ascii.{asterisk, is_blank, space, equals_sign, question_mark, underscore}
use Rattle.mk_line.specs.Lines.{cut, ending_bytes}
use Rattle.mk_head.specs.Unfolding.{contents}
use Rattle.mk_code.specs.Base64Text.{is_letter}
use Rattle.mk_code.specs.QuotedPrintable.{is_hex_digit, pair_value}
use Rattle.mk_code.specs.declared.one_word.Readable.{Readable}
use Rattle.mk_code.specs.declared.one_word.Readable.TheVariants.{All, Texts}

-- these two bytes stand side by side
abbrev pub has_pair : ℕ → ℕ → List ℕ → Bool
has_pair first second [] = false
has_pair first second (byte ∷ []) = false
has_pair first second (byte ∷ next ∷ bytes) = (byte == first && next == second) || has_pair first second (next ∷ bytes)

-- a value without its line endings (RFC 5322, 2.2.3)
abbrev pub unfolded : List ℕ → List ℕ
unfolded value = contents (cut value)

-- a run of blanks, or a word: a run of other bytes
pub data Run : Type 0 where
  Gap : (bytes : List ℕ) → Run
  Word : (bytes : List ℕ) → Run

-- runs with a byte put before them
abbrev pub run_before : ℕ → List Run → List Run
run_before byte [] = if is_blank byte then Gap (byte ∷ []) ∷ [] else Word (byte ∷ []) ∷ []
run_before byte (Gap gap ∷ runs) = if is_blank byte then Gap (byte ∷ gap) ∷ runs else Word (byte ∷ []) ∷ Gap gap ∷ runs
run_before byte (Word word ∷ runs) = if is_blank byte then Gap (byte ∷ []) ∷ Word word ∷ runs else Word (byte ∷ word) ∷ runs

-- words and runs of blanks in turn
abbrev pub runs : List ℕ → List Run
runs [] = []
runs (byte ∷ bytes) = run_before byte (runs bytes)

-- nothing but `=`, twice at most
abbrev pub is_padding : List ℕ → Bool
is_padding bytes = nat_le (length bytes) 2 && list_all (λ byte. byte == equals_sign) bytes

-- the bytes of base64's letters (RFC 2047, 4.1), with padding or none after them (own)
abbrev pub b_text : List ℕ → Option (List ℕ)
b_text text =
    let front = take_while is_letter text in
    if is_padding (drop (length front) text) then decoded_of standard_no_pad front else None

-- a byte before the bytes of what follows it, if these are known
abbrev pub put_before : ℕ → Option (List ℕ) → Option (List ℕ)
put_before byte rest = option_map (λ bytes. byte ∷ bytes) rest

-- `_` is a space, `=` without two digits is invalid, and other printable bytes stand for themselves (RFC 2047, 4.2)
abbrev pub q_byte : ℕ → Option (List ℕ) → Option (List ℕ)
q_byte byte rest =
    if byte == underscore then put_before space rest
    else (if byte == equals_sign then None
    else (if nat_le 33 byte && nat_le byte 126 then put_before byte rest else None))

-- the bytes of the encoding Q: `=` and two digits are a byte (RFC 2047, 4.2)
abbrev pub q_text : List ℕ → Option (List ℕ)
q_text [] = Some []
q_text (byte ∷ []) = q_byte byte (Some [])
q_text (byte ∷ next ∷ []) = q_byte byte (q_text (next ∷ []))
q_text (byte ∷ high ∷ low ∷ bytes) =
    if byte == equals_sign && (is_hex_digit high && is_hex_digit low) then put_before (pair_value high low) (q_text bytes)
    else q_byte byte (q_text (high ∷ low ∷ bytes))

-- the bytes of a text by the name of its encoding in lower case
abbrev pub text_bytes : List ℕ → List ℕ → Option (List ℕ)
text_bytes name text =
    if bytes_eq name (codes "b") then b_text text else (if bytes_eq name (codes "q") then q_text text else None)

-- labels of UTF-8 (WHATWG Encoding Standard, 4.2)
abbrev pub utf8_labels : List (List ℕ)
utf8_labels = codes "utf-8" ∷ codes "unicode-1-1-utf-8" ∷ codes "unicode11utf8" ∷ codes "unicode20utf8" ∷ codes "utf8" ∷ codes "x-unicode20utf8" ∷ []

-- bytes of a charset, named in lower case, in UTF-8: these three, and those of one byte a character (own)
abbrev pub in_utf8 : List ℕ → List ℕ → Option (List ℕ)
in_utf8 charset bytes =
    if list_any (bytes_eq charset) utf8_labels then Some bytes
    else (if bytes_eq charset (codes "us-ascii") then (if list_all (λ byte. nat_lt byte 128) bytes then Some bytes else None)
    else (if bytes_eq charset (codes "iso-8859-1") then Some (flat_map encode_utf8 bytes)
    else option_and_then (λ upper. text_in_table upper bytes) (upper_of charset)))

-- what the parts of an encoded word stand for; a language may follow the charset after an asterisk (RFC 2231, 5)
abbrev pub inner_decoded : List ℕ → List ℕ → List ℕ → Option (List ℕ)
inner_decoded charset name text = option_and_then (in_utf8 (str_to_ascii_lowercase (before asterisk charset))) (text_bytes (str_to_ascii_lowercase name) text)

-- an encoded word has five parts: `=`, a charset, the name of an encoding, a text and `=` (RFC 2047, 2)
abbrev pub parts_decoded : List (List ℕ) → Option (List ℕ)
parts_decoded [] = None
parts_decoded (start ∷ []) = None
parts_decoded (start ∷ charset ∷ []) = None
parts_decoded (start ∷ charset ∷ name ∷ []) = None
parts_decoded (start ∷ charset ∷ name ∷ text ∷ []) = None
parts_decoded (start ∷ charset ∷ name ∷ text ∷ end ∷ []) =
    if bytes_eq start (equals_sign ∷ []) && bytes_eq end (equals_sign ∷ []) then inner_decoded charset name text else None
parts_decoded (start ∷ charset ∷ name ∷ text ∷ end ∷ more ∷ others) = None

-- what an encoded word stands for: its parts stand between question marks
abbrev pub word_decoded : List ℕ → Option (List ℕ)
word_decoded word = parts_decoded (slice_split (λ byte. byte == question_mark) word)

-- the bytes, where they are a text in UTF-8
abbrev pub as_text : List ℕ → Option (List ℕ)
as_text bytes = if is_utf8 bytes then Some bytes else None

-- what an encoded word stands for, if it is among those that are decoded: all that can be, or those whose bytes are UTF-8
abbrev pub word_read : Readable → List ℕ → Option (List ℕ)
word_read All word = word_decoded word
word_read Texts word = option_and_then as_text (word_decoded word)

-- the word is decoded
abbrev pub is_decoded : Readable → List ℕ → Bool
is_decoded which word = is_some (word_read which word)

-- a gap before a word, after a decoded word or not: between two decoded words it is dropped (RFC 2047, 6.2)
abbrev pub gap_shown : Readable → Bool → List ℕ → List ℕ → List ℕ
gap_shown which after gap word = if after && is_decoded which word then [] else gap

-- the first run is a word that is decoded
abbrev pub begins_decoded : Readable → List Run → Bool
begins_decoded which [] = false
begins_decoded which (Gap gap ∷ others) = false
begins_decoded which (Word word ∷ others) = is_decoded which word

-- the runs, each word decoded or as it stands, after a decoded word or not: a gap between two decoded words is dropped
abbrev pub shown : Readable → Bool → List Run → List ℕ
shown which after [] = []
shown which after (Gap gap ∷ others) = (if after && begins_decoded which others then [] else gap) ++ shown which false others
shown which after (Word word ∷ others) = unwrap_or (word_read which word) word ++ shown which (is_decoded which word) others

-- a value with those of its encoded words decoded
abbrev pub decoded_with : Readable → List ℕ → List ℕ
decoded_with which value = shown which false (runs (unfolded value))

-- a value with its encoded words decoded
abbrev pub words_decoded : List ℕ → List ℕ
words_decoded value = decoded_with All value

-- a value with its encoded words decoded; where that isn't UTF-8, each word stays whose bytes by themselves aren't (own)
abbrev pub text_decoded : List ℕ → List ℕ
text_decoded value = if is_utf8 (words_decoded value) then words_decoded value else decoded_with Texts value

-- a byte of a character in UTF-8 after its first (RFC 3629)
abbrev pub is_continuation_byte : ℕ → Bool
is_continuation_byte byte = nat_le 128 byte && nat_le byte 191

-- the bytes begin inside a character
abbrev pub goes_on : List ℕ → Bool
goes_on [] = false
goes_on (byte ∷ bytes) = is_continuation_byte byte

-- the characters of a text in UTF-8, each by its bytes
abbrev pub characters : List ℕ → List (List ℕ)
characters [] = []
characters (byte ∷ bytes) = if goes_on bytes then onto_first byte (characters bytes) else (byte ∷ []) ∷ characters bytes

-- pieces with bytes put before the first
abbrev pub front_onto : List ℕ → List (List ℕ) → List (List ℕ)
front_onto front [] = front ∷ []
front_onto front (piece ∷ others) = (front ++ piece) ∷ others

-- the most bytes of a text in one encoded word (own)
abbrev pub piece_room : ℕ
piece_room = 45

-- a character goes into a piece that has so many bytes already: there is room for it, or it is the first
abbrev pub goes_in : ℕ → List ℕ → Bool
goes_in used character = used == 0 || nat_le (used + length character) piece_room

-- pieces of as many characters as go in, of which the first has so many bytes already
abbrev pub pieces : List (List ℕ) → ℕ → List (List ℕ)
pieces [] used = [] ∷ []
pieces (character ∷ others) used =
    if goes_in used character then front_onto character (pieces others (used + length character))
    else [] ∷ front_onto character (pieces others (length character))

-- the encoded word of a piece
abbrev pub encoded_word : List ℕ → List ℕ
encoded_word piece = codes "=?utf-8?B?" ++ (encode_of standard piece ++ codes "?=")

-- the most characters of a made word (own; RFC 2047, 2, has 75)
abbrev pub word_width : ℕ
word_width = 72

-- the words of these pieces are that short
abbrev pub AreShort : List (List ℕ) → Type 0
AreShort [] = Unit {0}
AreShort (piece ∷ others) = (length (encoded_word piece) ≤ word_width) × AreShort others

-- printable ASCII and the space
abbrev pub is_shown : ℕ → Bool
is_shown byte = nat_le 32 byte && nat_le byte 126

-- the text needs no encoded word: it is short and printable, and nothing in it begins like one (the length is own)
abbrev pub stays : List ℕ → Bool
stays text = nat_le (length text) 200 && (list_all is_shown text && not (has_pair equals_sign question_mark text))

-- a text as it is, or as encoded words with an ending and a space between two
abbrev pub words_encoded : Ending → List ℕ → List ℕ
words_encoded eol text = if stays text then text else join_by encoded_word (ending_bytes eol ++ space ∷ []) (pieces (characters text) 0)
