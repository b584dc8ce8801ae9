-- Quoted-printable comes back.
use Rattle.std.proofs.Common.{◌≡◌, ◌≢◌, ◌==◌, ◌&&◌, ◌<◌, ◌+◌, ◌/◌, ◌%◌, if◌then◌else◌, ℕ, Bool, suc, zero, true, false, not, List, [], ◌∷◌, ◌++◌, refl, ap, sym, ◌∙◌, length, arith, inl, inr, append_assoc}
use Rattle.std.specs.Prelude.{nat_le}
use Rattle.std.proofs.lemmas.Bool.{cases_Bool, and_parts, and_left, agree_below_at, eqb-true, not-true}
use Rattle.std.specs.List.{flat_map, join_by}
use Rattle.base64.specs.GeneralPurpose.{IsBytes}
use Rattle.mk_line.specs.declared.cutting.Ending.{Ending}
use Rattle.mk_line.specs.declared.cutting.Ending.TheVariants.{Crlf, Lf, Missing}
use Rattle.mk_line.specs.Ascii.{is_blank}
use Rattle.mk_line.specs.Lines.{TextLine, text_line, ending_bytes, cut, onto_first, is_nil}
use Rattle.mk_line.specs.Marks.{trimmed, trimmed_before}
use Rattle.mk_line.proofs.Cuts.{cut_other}
use Rattle.mk_code.specs.QuotedPrintable.{is_hex_digit, pair_value, unquoted, line_unquoted, qp_decoded, hex_digit, escaped, is_quiet, is_guarded, is_plain, form, limit, packed, before_lines, logical_lines, qp_encoded}
use Rattle.mk_code.proofs.OutputCuts.{differs, with_other}
use Rattle.mk_code.proofs.Unquoting.{unquoted_other}

-- what stays of the first line
abbrev first_trimmed : List TextLine → List ℕ
first_trimmed [] = []
first_trimmed (l ∷ ls) = trimmed l.content

-- more than blanks stands before the end of the line
abbrev HasMore : List ℕ → Type 0
HasMore text = is_nil (first_trimmed (cut text)) ≡ false

trimmed_kept : (byte : ℕ) (rest : List ℕ) → (is_blank byte && is_nil rest) ≡ false → trimmed_before byte rest ≡ byte ∷ rest
trimmed_kept byte [] h = elim (cases_Bool (is_blank byte)) [
  | inl t ↦ let bad : true ≡ false = (rw t at h) in absurd (cc bad)
  | inr f ↦ rw f refl
]
trimmed_kept byte (next ∷ rest) h = refl

-- a byte that isn't blank, or has more after it, stands for itself
line_onto : (byte : ℕ) (ls : List TextLine) → (byte == 13) ≡ false → (byte == 61) ≡ false → (is_blank byte && is_nil (first_trimmed ls)) ≡ false → flat_map line_unquoted (onto_first byte ls) ≡ byte ∷ flat_map line_unquoted ls
line_onto byte [] r e h = rw (trimmed_kept byte [] h, e) refl
line_onto byte (l ∷ ls) r e h =
    rw (with_other byte l r, trimmed_kept byte (trimmed l.content) h, unquoted_other (ending_bytes l.ending) byte (trimmed l.content) e) refl

plain_back : (byte : ℕ) (text : List ℕ) → is_quiet byte ≡ true → (is_blank byte && is_nil (first_trimmed (cut text))) ≡ false → qp_decoded (byte ∷ text) ≡ byte ∷ qp_decoded text
plain_back byte text q h =
    rw (cut_other byte text (differs is_quiet byte 10 refl q)) (line_onto byte (cut text) (differs is_quiet byte 13 refl q) (differs is_quiet byte 61 refl q) h)

-- a digit isn't blank
is_dark : (byte : ℕ) → is_hex_digit byte ≡ true → is_blank byte ≡ false
is_dark byte h = rw (differs is_hex_digit byte 32 refl h, differs is_hex_digit byte 9 refl h) refl

-- `=` and two digits come back as their byte
digit_kept : (low : ℕ) (rest : List ℕ) → is_hex_digit low ≡ true → trimmed_before low rest ≡ low ∷ rest
digit_kept low rest l = trimmed_kept low rest (and_left (is_blank low) (is_nil rest) (is_dark low l))

digits_content : (ending rest : List ℕ) (high low : ℕ) → is_hex_digit high ≡ true → is_hex_digit low ≡ true → unquoted ending (trimmed_before 61 (trimmed_before high (trimmed_before low rest))) ≡ pair_value high low ∷ unquoted ending rest
digits_content ending rest high low h l = rw (digit_kept low rest l, h, l) refl

digits_onto : (high low : ℕ) (ls : List TextLine) → is_hex_digit high ≡ true → is_hex_digit low ≡ true → flat_map line_unquoted (onto_first 61 (onto_first high (onto_first low ls))) ≡ pair_value high low ∷ flat_map line_unquoted ls
digits_onto high low [] h l = ap (λ xs. xs ++ []) (digits_content [] [] high low h l)
digits_onto high low (line ∷ ls) h l =
    rw (with_other low line (differs is_hex_digit low 13 refl l), with_other high (text_line (low ∷ line.content) line.ending) (differs is_hex_digit high 13 refl h), with_other 61 (text_line (high ∷ low ∷ line.content) line.ending) refl)
    (ap (λ xs. xs ++ flat_map line_unquoted ls) (digits_content (ending_bytes line.ending) (trimmed line.content) high low h l))

digits_back : (high low : ℕ) (text : List ℕ) → is_hex_digit high ≡ true → is_hex_digit low ≡ true → qp_decoded (61 ∷ high ∷ low ∷ text) ≡ pair_value high low ∷ qp_decoded text
digits_back high low text h l =
    rw (cut_other high (low ∷ text) (differs is_hex_digit high 10 refl h), cut_other low text (differs is_hex_digit low 10 refl l)) (digits_onto high low (cut text) h l)

-- the digits of a byte give it back
abbrev is_written : ℕ → Bool
is_written byte = is_hex_digit (hex_digit (byte / 16)) && (is_hex_digit (hex_digit (byte % 16)) && (pair_value (hex_digit (byte / 16)) (hex_digit (byte % 16)) == byte))

written : (byte : ℕ) → byte < 256 → is_written byte ≡ true
written byte l = agree_below_at is_written (λ _. true) 256 byte refl l

escaped_back : (byte : ℕ) (text : List ℕ) → byte < 256 → qp_decoded (escaped byte ++ text) ≡ byte ∷ qp_decoded text
escaped_back byte text l =
    let first = and_parts (is_hex_digit (hex_digit (byte / 16))) (is_hex_digit (hex_digit (byte % 16)) && (pair_value (hex_digit (byte / 16)) (hex_digit (byte % 16)) == byte)) (written byte l) in
    let second = and_parts (is_hex_digit (hex_digit (byte % 16))) (pair_value (hex_digit (byte / 16)) (hex_digit (byte % 16)) == byte) first.1 in
    digits_back (hex_digit (byte / 16)) (hex_digit (byte % 16)) text first.0 second.0
    ∙ ap (λ b. b ∷ qp_decoded text) (eqb-true (pair_value (hex_digit (byte / 16)) (hex_digit (byte % 16))) byte second.1)

-- a soft break gives nothing, an ending gives itself
soft : (eol : Ending) (text : List ℕ) → eol ≢ Missing → qp_decoded (61 ∷ (ending_bytes eol ++ text)) ≡ qp_decoded text
soft Crlf text is = refl
soft Lf text is = refl
soft Missing text is = absurd (is refl)

hard : (eol : Ending) (text : List ℕ) → eol ≢ Missing → qp_decoded (ending_bytes eol ++ text) ≡ ending_bytes eol ++ qp_decoded text
hard Crlf text is = refl
hard Lf text is = refl
hard Missing text is = absurd (is refl)

-- what stands before the end of a line
some_kept : (byte : ℕ) (rest : List ℕ) → (is_blank byte && is_nil rest) ≡ false → is_nil (trimmed_before byte rest) ≡ false
some_kept byte rest h = rw (trimmed_kept byte rest h) refl

more_onto : (byte : ℕ) (ls : List TextLine) → (byte == 13) ≡ false → (is_blank byte && is_nil (first_trimmed ls)) ≡ false → is_nil (first_trimmed (onto_first byte ls)) ≡ false
more_onto byte [] r h = some_kept byte [] h
more_onto byte (l ∷ ls) r h = rw (with_other byte l r) (some_kept byte (trimmed l.content) h)

more_byte : (byte : ℕ) (text : List ℕ) → (byte == 10) ≡ false → (byte == 13) ≡ false → (is_blank byte && is_nil (first_trimmed (cut text))) ≡ false → HasMore (byte ∷ text)
more_byte byte text f r h = rw (cut_other byte text f) (more_onto byte (cut text) r h)

more_equals : (text : List ℕ) → HasMore (61 ∷ text)
more_equals text = more_byte 61 text refl refl refl

-- a plain byte: it is quiet, and isn't both blank and the last
pub plain_quiet : (first last : Bool) (byte : ℕ) → is_plain first last byte ≡ true → is_quiet byte ≡ true
plain_quiet first last byte h = (and_parts (is_quiet byte) (not (first && is_guarded byte)) (and_parts (is_quiet byte && not (first && is_guarded byte)) (not (last && is_blank byte)) h).0).0

plain_end : (first last : Bool) (byte : ℕ) → is_plain first last byte ≡ true → (last && is_blank byte) ≡ false
plain_end first last byte h = not-true (last && is_blank byte) (and_parts (is_quiet byte && not (first && is_guarded byte)) (not (last && is_blank byte)) h).1

-- a blank that is plain has more of its line after it
blank_inside : (first last : Bool) (byte : ℕ) → is_plain first last byte ≡ true → is_blank byte ≡ true → last ≡ false
blank_inside first true byte h b = sym (sym (plain_end first true byte h) ∙ b)
blank_inside first false byte h b = refl

-- a plain byte comes back where what follows it in its line has more than blanks
inside : (first last : Bool) (byte : ℕ) (text : List ℕ) → is_plain first last byte ≡ true → (last ≡ false → HasMore text) → (is_blank byte && is_nil (first_trimmed (cut text))) ≡ false
inside first last byte text h more =
    elim (cases_Bool (is_blank byte)) [
      | inl b ↦ rw b (more (blank_inside first last byte h b))
      | inr d ↦ and_left (is_blank byte) (is_nil (first_trimmed (cut text))) d
    ]

form_more : (column byte : ℕ) (rest text : List ℕ) → (is_nil rest ≡ false → HasMore text) → HasMore (form column byte rest ++ text)
form_more column byte rest text more =
    elim (cases_Bool (is_plain (column == 0) (is_nil rest) byte)) [
      | inl p ↦
          let q = plain_quiet (column == 0) (is_nil rest) byte p in
          rw p (more_byte byte text (differs is_quiet byte 10 refl q) (differs is_quiet byte 13 refl q) (inside (column == 0) (is_nil rest) byte text p more))
      | inr f ↦ rw f (more_equals (hex_digit (byte / 16) ∷ hex_digit (byte % 16) ∷ text))
    ]

packed_more : (eol bytes : List ℕ) (column : ℕ) (text : List ℕ) → is_nil bytes ≡ false → HasMore (packed eol column bytes ++ text)
packed_more eol [] column text n = let bad : true ≡ false = n in absurd (cc bad)
packed_more eol (byte ∷ rest) column text n =
    elim (cases_Bool (nat_le (column + length (form column byte rest)) (limit rest))) [
      | inl fits ↦
          rw (fits, append_assoc)
          (form_more column byte rest (packed eol (column + length (form column byte rest)) rest ++ text)
          (λ m. packed_more eol rest (column + length (form column byte rest)) text m))
      | inr tight ↦ rw tight (more_equals (eol ++ (form 0 byte rest ++ packed eol (length (form 0 byte rest)) rest) ++ text))
    ]

form_back : (column byte : ℕ) (rest text : List ℕ) → byte < 256 → (is_nil rest ≡ false → HasMore text) → qp_decoded (form column byte rest ++ text) ≡ byte ∷ qp_decoded text
form_back column byte rest text small more =
    elim (cases_Bool (is_plain (column == 0) (is_nil rest) byte)) [
      | inl p ↦ rw p (plain_back byte text (plain_quiet (column == 0) (is_nil rest) byte p) (inside (column == 0) (is_nil rest) byte text p more))
      | inr f ↦ rw f (escaped_back byte text small)
    ]

-- a packed logical line comes back, whatever stands after it
pub packed_back : (eol : Ending) (bytes : List ℕ) (column : ℕ) (text : List ℕ) → eol ≢ Missing → IsBytes bytes → qp_decoded (packed (ending_bytes eol) column bytes ++ text) ≡ bytes ++ qp_decoded text
packed_back eol [] column text is small = refl
packed_back eol (byte ∷ rest) column text is small =
    let from : (k : ℕ) → List ℕ = λ k. packed (ending_bytes eol) k rest ++ text in
    elim (cases_Bool (nat_le (column + length (form column byte rest)) (limit rest))) [
      | inl fits ↦
          rw (fits, append_assoc)
          (form_back column byte rest (from (column + length (form column byte rest))) (small 0) (packed_more (ending_bytes eol) rest (column + length (form column byte rest)) text)
          ∙ ap (λ xs. byte ∷ xs) (packed_back eol rest (column + length (form column byte rest)) text is (λ i. small (suc i))))
      | inr tight ↦
          rw tight
          (ap (λ xs. qp_decoded (61 ∷ xs)) (append_assoc (ending_bytes eol) (form 0 byte rest ++ packed (ending_bytes eol) (length (form 0 byte rest)) rest) text ∙ ap (λ xs. ending_bytes eol ++ xs) (append_assoc (form 0 byte rest) (packed (ending_bytes eol) (length (form 0 byte rest)) rest) text))
          ∙ (soft eol (form 0 byte rest ++ from (length (form 0 byte rest))) is
          ∙ (form_back 0 byte rest (from (length (form 0 byte rest))) (small 0) (packed_more (ending_bytes eol) rest (length (form 0 byte rest)) text)
          ∙ ap (λ xs. byte ∷ xs) (packed_back eol rest (length (form 0 byte rest)) text is (λ i. small (suc i))))))
    ]

-- the logical lines joined are the bytes

abbrev joined : List ℕ → List (List ℕ) → List ℕ
joined sep lines = join_by (λ line. line) sep lines

feed_if : (t : Bool) (byte : ℕ) (line : List ℕ) (lines : List (List ℕ)) → (byte == 10) ≡ t → joined (10 ∷ []) (if t then [] ∷ line ∷ lines else (byte ∷ line) ∷ lines) ≡ byte ∷ joined (10 ∷ []) (line ∷ lines)
feed_if true byte line lines h = ap (λ b. b ∷ joined (10 ∷ []) (line ∷ lines)) (sym (eqb-true byte 10 h))
feed_if false byte line lines h = refl

crlf_if : (t : Bool) (byte next : ℕ) (line : List ℕ) (lines : List (List ℕ)) → (byte == 13 && next == 10) ≡ t → joined (13 ∷ 10 ∷ []) (if t then [] ∷ line ∷ lines else (byte ∷ next ∷ line) ∷ lines) ≡ byte ∷ joined (13 ∷ 10 ∷ []) ((next ∷ line) ∷ lines)
crlf_if true byte next line lines h =
    let both = and_parts (byte == 13) (next == 10) h in
    ap (λ b. b ∷ 10 ∷ joined (13 ∷ 10 ∷ []) (line ∷ lines)) (sym (eqb-true byte 13 both.0)) ∙ ap (λ b. byte ∷ b ∷ joined (13 ∷ 10 ∷ []) (line ∷ lines)) (sym (eqb-true next 10 both.1))
crlf_if false byte next line lines h = refl

joined_before : (eol : Ending) (byte : ℕ) (lines : List (List ℕ)) → joined (ending_bytes eol) (before_lines eol byte lines) ≡ byte ∷ joined (ending_bytes eol) lines
joined_before eol byte [] = refl
joined_before Lf byte (line ∷ lines) = feed_if (byte == 10) byte line lines refl
joined_before Crlf byte ([] ∷ lines) = refl
joined_before Crlf byte ((next ∷ line) ∷ lines) = crlf_if (byte == 13 && next == 10) byte next line lines refl
joined_before Missing byte (line ∷ lines) = refl

joined_logical : (eol : Ending) (bytes : List ℕ) → joined (ending_bytes eol) (logical_lines eol bytes) ≡ bytes
joined_logical eol [] = refl
joined_logical eol (byte ∷ bytes) = joined_before eol byte (logical_lines eol bytes) ∙ ap (λ xs. byte ∷ xs) (joined_logical eol bytes)

-- the lines of bytes are bytes
abbrev pub AreBytes : List (List ℕ) → Type 0
AreBytes [] = Unit {0}
AreBytes (line ∷ lines) = IsBytes line × AreBytes lines

bytes_cons : (byte : ℕ) (bytes : List ℕ) → byte < 256 → IsBytes bytes → IsBytes (byte ∷ bytes)
bytes_cons byte bytes h small zero = h
bytes_cons byte bytes h small (suc i) = small i

bytes_nil : IsBytes []
bytes_nil i = omega arith

bytes_if : (t : Bool) (byte : ℕ) (line following : List ℕ) (lines : List (List ℕ)) → byte < 256 → IsBytes line → IsBytes following → AreBytes lines → AreBytes (if t then [] ∷ following ∷ lines else (byte ∷ line) ∷ lines)
bytes_if true byte line following lines h l b ls = (bytes_nil, (b, ls))
bytes_if false byte line following lines h l b ls = (bytes_cons byte line h l, ls)

bytes_before : (eol : Ending) (byte : ℕ) (lines : List (List ℕ)) → byte < 256 → AreBytes lines → AreBytes (before_lines eol byte lines)
bytes_before eol byte [] h ls = (bytes_cons byte [] h bytes_nil, tt)
bytes_before Lf byte (line ∷ lines) h ls = bytes_if (byte == 10) byte line line lines h ls.0 ls.0 ls.1
bytes_before Crlf byte ([] ∷ lines) h ls = (bytes_cons byte [] h bytes_nil, ls.1)
bytes_before Crlf byte ((next ∷ line) ∷ lines) h ls = bytes_if (byte == 13 && next == 10) byte (next ∷ line) line lines h ls.0 (λ i. ls.0 (suc i)) ls.1
bytes_before Missing byte (line ∷ lines) h ls = (bytes_cons byte line h ls.0, ls.1)

pub bytes_logical : (eol : Ending) (bytes : List ℕ) → IsBytes bytes → AreBytes (logical_lines eol bytes)
bytes_logical eol [] small = (bytes_nil, tt)
bytes_logical eol (byte ∷ bytes) small = bytes_before eol byte (logical_lines eol bytes) (small 0) (bytes_logical eol bytes (λ i. small (suc i)))

-- the lines after the first, each after an ending
ends_back : (eol : Ending) (lines : List (List ℕ)) → eol ≢ Missing → AreBytes lines → qp_decoded (flat_map (λ line. ending_bytes eol ++ packed (ending_bytes eol) 0 line) lines) ≡ flat_map (λ line. ending_bytes eol ++ line) lines
ends_back eol [] is ls = refl
ends_back eol (line ∷ lines) is ls =
    let following : List ℕ = flat_map (λ line. ending_bytes eol ++ packed (ending_bytes eol) 0 line) lines in
    ap qp_decoded (append_assoc (ending_bytes eol) (packed (ending_bytes eol) 0 line) following)
    ∙ (hard eol (packed (ending_bytes eol) 0 line ++ following) is
    ∙ (ap (λ xs. ending_bytes eol ++ xs) (packed_back eol line 0 following is ls.0 ∙ ap (λ xs. line ++ xs) (ends_back eol lines is ls.1))
    ∙ sym (append_assoc (ending_bytes eol) line (flat_map (λ line. ending_bytes eol ++ line) lines))))

lines_back : (eol : Ending) (lines : List (List ℕ)) → eol ≢ Missing → AreBytes lines → qp_decoded (join_by (packed (ending_bytes eol) 0) (ending_bytes eol) lines) ≡ joined (ending_bytes eol) lines
lines_back eol [] is ls = refl
lines_back eol (line ∷ lines) is ls =
    packed_back eol line 0 (flat_map (λ line. ending_bytes eol ++ packed (ending_bytes eol) 0 line) lines) is ls.0
    ∙ ap (λ xs. line ++ xs) (ends_back eol lines is ls.1)

pub qp_back : (eol : Ending) (bytes : List ℕ) → eol ≢ Missing → IsBytes bytes → qp_decoded (qp_encoded eol bytes) ≡ bytes
qp_back eol bytes is small = lines_back eol (logical_lines eol bytes) is (bytes_logical eol bytes small) ∙ joined_logical eol bytes
