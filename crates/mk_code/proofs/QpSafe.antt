-- The lines of quoted-printable are safe.
use Rattle.std.proofs.Common.{◌≡◌, ◌≢◌, ◌==◌, ◌&&◌, ◌||◌, ◌<◌, ◌≤◌, ◌+◌, ◌/◌, ◌%◌, ℕ, Bool, suc, true, false, not, List, [], ◌∷◌, ◌++◌, refl, sym, length, arith, inl, inr, append_assoc, zero-add}
use Rattle.std.specs.Prelude.{nat_le}
use Rattle.std.proofs.lemmas.Bool.{cases_Bool, and_parts, or_parts, leb-true, agree_below_at, eq-eqb, not-true}
use Rattle.std.specs.List.{flat_map, join_by}
use Rattle.base64.specs.GeneralPurpose.{IsBytes}
use Rattle.mk_line.specs.declared.cutting.Ending.{Ending}
use Rattle.mk_line.specs.declared.cutting.Ending.TheVariants.{Crlf, Lf, Missing}
use Rattle.mk_line.specs.Ascii.{is_blank}
use Rattle.mk_line.specs.Lines.{TextLine, ending_bytes, cut, onto_first, is_nil}
use Rattle.mk_line.proofs.Cuts.{cut_other}
use Rattle.mk_code.specs.OutputLines.{AreSafe, widest}
use Rattle.mk_code.specs.QuotedPrintable.{is_hex_digit, hex_digit, escaped, is_quiet, is_guarded, is_plain, form, limit, packed, logical_lines, qp_encoded}
use Rattle.mk_code.proofs.OutputCuts.{differs, with_other}
use Rattle.mk_code.proofs.SafeLines.{opens_well, safe_opened}
use Rattle.mk_code.proofs.QpBack.{plain_quiet, AreBytes, bytes_logical}

-- safe lines, of which the first goes on at a column
abbrev Lined : ℕ → List TextLine → Type 0
Lined column [] = column ≤ widest
Lined column (l ∷ ls) = (column + length l.content ≤ widest) × (column ≡ 0 → opens_well l.content ≡ true) × AreSafe ls

lined_safe : (ls : List TextLine) → Lined 0 ls → AreSafe ls
lined_safe [] h = tt
lined_safe (l ∷ ls) h = (safe_opened l.content (omega (arith, h.0)) (h.1 refl), h.2)

lined_onto : (next column byte : ℕ) (ls : List TextLine) → next ≡ column + 1 → (byte == 13) ≡ false → (column ≡ 0 → opens_well (byte ∷ []) ≡ true) → Lined next ls → Lined column (onto_first byte ls)
lined_onto next column byte [] e r w h = (omega arith, w, tt)
lined_onto next column byte (l ∷ ls) e r w h = rw (with_other byte l r) (omega (arith, h.0), w, h.2)

lined_byte : (next column byte : ℕ) (text : List ℕ) → next ≡ column + 1 → (byte == 10) ≡ false → (byte == 13) ≡ false → (column ≡ 0 → opens_well (byte ∷ []) ≡ true) → Lined next (cut text) → Lined column (cut (byte ∷ text))
lined_byte next column byte text e f r w h = rw (cut_other byte text f) (lined_onto next column byte (cut text) e r w h)

-- where a line has ended
abbrev Ended : List ℕ → Type 0
Ended text = (column : ℕ) → column ≤ widest → Lined column (cut text)

ended_after : (eol : Ending) (text : List ℕ) → eol ≢ Missing → Lined 0 (cut text) → Ended (ending_bytes eol ++ text)
ended_after Crlf text is h column l = (omega arith, (λ _. refl), lined_safe (cut text) h)
ended_after Lf text is h column l = (omega arith, (λ _. refl), lined_safe (cut text) h)
ended_after Missing text is h column l = absurd (is refl)

-- the digits of a byte are digits
abbrev has_digits : ℕ → Bool
has_digits byte = is_hex_digit (hex_digit (byte / 16)) && is_hex_digit (hex_digit (byte % 16))

digits_of : (byte : ℕ) → byte < 256 → has_digits byte ≡ true
digits_of byte l = agree_below_at has_digits (λ _. true) 256 byte refl l

lined_escaped : (column next byte : ℕ) (text : List ℕ) → byte < 256 → next ≡ column + 3 → Lined next (cut text) → Lined column (cut (escaped byte ++ text))
lined_escaped column next byte text small e h =
    let both = and_parts (is_hex_digit (hex_digit (byte / 16))) (is_hex_digit (hex_digit (byte % 16))) (digits_of byte small) in
    let high = hex_digit (byte / 16) in
    let low = hex_digit (byte % 16) in
    let last : Lined (column + 2) (cut (low ∷ text)) =
    lined_byte next (column + 2) low text (omega arith) (differs is_hex_digit low 10 refl both.1) (differs is_hex_digit low 13 refl both.1) (λ z. absurd (omega arith)) h in
    let second : Lined (column + 1) (cut (high ∷ low ∷ text)) =
    lined_byte (column + 2) (column + 1) high (low ∷ text) (omega arith) (differs is_hex_digit high 10 refl both.0) (differs is_hex_digit high 13 refl both.0) (λ z. absurd (omega arith)) last in
    lined_byte (column + 1) column 61 (high ∷ low ∷ text) refl refl refl (λ _. refl) second

-- a plain byte in column one is no guarded one
opens_unguarded : (byte : ℕ) → is_guarded byte ≡ false → opens_well (byte ∷ []) ≡ true
opens_unguarded byte h =
    let last = or_parts (byte == 45 || byte == 46) (byte == 70) h in
    rw ((or_parts (byte == 45) (byte == 46) last.0).0, last.1) refl

plain_opens : (first last : Bool) (byte : ℕ) → is_plain first last byte ≡ true → first ≡ true → opens_well (byte ∷ []) ≡ true
plain_opens true last byte h e =
    opens_unguarded byte (not-true (is_guarded byte) (and_parts (is_quiet byte) (not (is_guarded byte)) (and_parts (is_quiet byte && not (is_guarded byte)) (not (last && is_blank byte)) h).0).1)
plain_opens false last byte h e = absurd (cc e)

lined_form : (column next byte : ℕ) (rest text : List ℕ) → byte < 256 → next ≡ column + length (form column byte rest) → Lined next (cut text) → Lined column (cut (form column byte rest ++ text))
lined_form column next byte rest text small e h =
    elim (cases_Bool (is_plain (column == 0) (is_nil rest) byte)) [
      | inl p ↦
          let q = plain_quiet (column == 0) (is_nil rest) byte p in
          let step : next ≡ column + 1 = rw p at e in
          rw p (lined_byte next column byte text step (differs is_quiet byte 10 refl q) (differs is_quiet byte 13 refl q)
          (λ z. plain_opens (column == 0) (is_nil rest) byte p (eq-eqb column 0 z)) h)
      | inr f ↦
          let step : next ≡ column + 3 = rw f at e in
          rw f (lined_escaped column next byte text small step h)
    ]

form_short : (column byte : ℕ) (rest : List ℕ) → length (form column byte rest) ≤ 3
form_short column byte rest =
    elim (cases_Bool (is_plain (column == 0) (is_nil rest) byte)) [ inl p ↦ rw p (omega arith) | inr f ↦ rw f (omega arith) ]

limit_last : (rest : List ℕ) → (limit rest ≤ 76) × (75 ≤ limit rest) × (is_nil rest ≡ false → limit rest ≤ 75)
limit_last [] = (omega arith, omega arith, (λ h. let bad : true ≡ false = h in absurd (cc bad)))
limit_last (byte ∷ rest) = (omega arith, omega arith, (λ _. omega arith))

-- the output lines of a logical line
packed_lined : (eol : Ending) (bytes : List ℕ) (column : ℕ) (text : List ℕ) → eol ≢ Missing → IsBytes bytes → column ≤ 76 → (is_nil bytes ≡ false → column ≤ 75) → Ended text → Lined column (cut (packed (ending_bytes eol) column bytes ++ text))
packed_lined eol [] column text is small l r ended = ended column l
packed_lined eol (byte ∷ rest) column text is small l r ended =
    let most = limit_last rest in
    elim (cases_Bool (nat_le (column + length (form column byte rest)) (limit rest))) [
      | inl fits ↦
          let low = leb-true (column + length (form column byte rest)) (limit rest) fits in
          rw (fits, append_assoc)
          (lined_form column (column + length (form column byte rest)) byte rest (packed (ending_bytes eol) (column + length (form column byte rest)) rest ++ text) (small 0) refl
          (packed_lined eol rest (column + length (form column byte rest)) text is (λ i. small (suc i)) (omega (arith, low, most.0)) (λ n. omega (arith, low, most.2 n)) ended))
      | inr tight ↦
          let short = form_short 0 byte rest in
          let following : List ℕ = packed (ending_bytes eol) (length (form 0 byte rest)) rest in
          let begun : Lined 0 (cut (form 0 byte rest ++ (following ++ text))) =
          lined_form 0 (length (form 0 byte rest)) byte rest (following ++ text) (small 0) (sym (zero-add (length (form 0 byte rest))))
          (packed_lined eol rest (length (form 0 byte rest)) text is (λ i. small (suc i)) (omega (arith, short)) (λ _. omega (arith, short)) ended) in
          rw tight (rw (append_assoc (ending_bytes eol) (form 0 byte rest ++ following) text, append_assoc (form 0 byte rest) following text)
          (lined_byte (column + 1) column 61 (ending_bytes eol ++ (form 0 byte rest ++ (following ++ text))) refl refl refl (λ _. refl)
          (ended_after eol (form 0 byte rest ++ (following ++ text)) is begun (column + 1) (omega (arith, r refl)))))
    ]

-- the lines after the first, each after an ending
ends_lined : (eol : Ending) (lines : List (List ℕ)) → eol ≢ Missing → AreBytes lines → Ended (flat_map (λ line. ending_bytes eol ++ packed (ending_bytes eol) 0 line) lines)
ends_lined eol [] is ls column l = l
ends_lined eol (line ∷ lines) is ls column l =
    let following : List ℕ = flat_map (λ line. ending_bytes eol ++ packed (ending_bytes eol) 0 line) lines in
    rw (append_assoc (ending_bytes eol) (packed (ending_bytes eol) 0 line) following)
    (ended_after eol (packed (ending_bytes eol) 0 line ++ following) is
    (packed_lined eol line 0 following is ls.0 (omega arith) (λ _. omega arith) (ends_lined eol lines is ls.1)) column l)

lines_lined : (eol : Ending) (lines : List (List ℕ)) → eol ≢ Missing → AreBytes lines → Lined 0 (cut (join_by (packed (ending_bytes eol) 0) (ending_bytes eol) lines))
lines_lined eol [] is ls = omega arith
lines_lined eol (line ∷ lines) is ls = packed_lined eol line 0 (flat_map (λ line. ending_bytes eol ++ packed (ending_bytes eol) 0 line) lines) is ls.0 (omega arith) (λ _. omega arith) (ends_lined eol lines is ls.1)

pub qp_safe : (eol : Ending) (bytes : List ℕ) → eol ≢ Missing → IsBytes bytes → AreSafe (cut (qp_encoded eol bytes))
qp_safe eol bytes is small = lined_safe (cut (qp_encoded eol bytes)) (lines_lined eol (logical_lines eol bytes) is (bytes_logical eol bytes small))
