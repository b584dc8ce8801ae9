-- How many bytes a quoted-printable text stands for.
use Rattle.std.proofs.Common.{◌≡◌, ◌<◌, ◌≤◌, ◌+◌, ◌-◌, ℕ, suc, false, List, [], ◌∷◌, ◌++◌, refl, ap, sym, ◌∙◌, length, length-append, drop, take, arith, inl, inr, Some, None}
use Rattle.std.proofs.lemmas.Bool.{cases_Bool}
use Rattle.std.specs.List.{flat_map}
use Rattle.mk_line.specs.Ascii.{is_blank}
use Rattle.mk_line.specs.Lines.{TextLine, ending_bytes, printed_line, text_of}
use Rattle.mk_line.specs.Marks.{trimmed, trimmed_before}
use Rattle.mk_line.specs.Parting.{has_byte}
use Rattle.mk_code.specs.QuotedPrintable.{line_unquoted, pair_at, unquoted}
use Rattle.mk_code.proofs.Unquoting.{step_soft, step_pair, step_lone, step_last}

-- the steps of the loop over a line
pub size_soft : (ending rest front following : List ℕ) → rest ≡ front ++ 61 ∷ following → has_byte 61 front ≡ false → length following ≡ 0 → length front ≡ length (unquoted ending rest)
size_soft ending rest front following e h none = ap length (step_soft ending rest [] front front following e h refl none)

pub size_pair : (ending rest front following : List ℕ) (byte : ℕ) → rest ≡ front ++ 61 ∷ following → has_byte 61 front ≡ false → Some byte ≡ pair_at following
    → length front + 1 + length (unquoted ending (take (length following - 2) (drop 2 following))) ≡ length (unquoted ending rest)
size_pair ending rest front following byte e h f =
    let back = unquoted ending (take (length following - 2) (drop 2 following)) in
    let same : (front ++ byte ∷ []) ++ back ≡ unquoted ending rest = step_pair ending rest [] front (front ++ byte ∷ []) front following byte e h refl f refl in
    omega (arith, ap length same, length-append (front ++ byte ∷ []) back, length-append front (byte ∷ []))

pub size_lone : (ending rest front following : List ℕ) → rest ≡ front ++ 61 ∷ following → has_byte 61 front ≡ false → 0 < length following → None ≡ pair_at following
    → length front + 1 + length (unquoted ending following) ≡ length (unquoted ending rest)
size_lone ending rest front following e h some f =
    let same : (front ++ 61 ∷ []) ++ unquoted ending following ≡ unquoted ending rest = step_lone ending rest [] front (front ++ 61 ∷ []) front following e h refl some f refl in
    omega (arith, ap length same, length-append (front ++ 61 ∷ []) (unquoted ending following), length-append front (61 ∷ []))

pub size_last : (ending rest : List ℕ) → has_byte 61 rest ≡ false → length rest + length ending ≡ length (unquoted ending rest)
size_last ending rest h = sym (length-append rest ending) ∙ ap length (step_last ending rest [] rest (rest ++ ending) h refl refl)

-- blanks at the end are bytes of the content
before_short : (x : ℕ) (ys : List ℕ) → length (trimmed_before x ys) ≤ suc (length ys)
before_short x [] = elim (cases_Bool (is_blank x)) [ inl t ↦ rw t (omega arith) | inr f ↦ rw f (omega arith) ]
before_short x (y ∷ ys) = omega arith

pub trimmed_short : (content : List ℕ) → length (trimmed content) ≤ length content
trimmed_short [] = omega arith
trimmed_short (x ∷ xs) = omega (arith, before_short x (trimmed xs), trimmed_short xs)

-- a step of the loop over the lines
pub size_line : (now after : List TextLine) (l : TextLine) (ending : List ℕ) (size all found : ℕ) → now ≡ l ∷ after → ending ≡ ending_bytes l.ending → found ≡ length (unquoted ending (trimmed l.content)) → size + length (flat_map line_unquoted now) ≡ all
    → size + found + length (flat_map line_unquoted after) ≡ all
size_line now after l ending size all found e f p so_far =
    let here : found ≡ length (line_unquoted l) = p ∙ ap (λ xs. length (unquoted xs (trimmed l.content))) f in
    let parts : length (flat_map line_unquoted now) ≡ length (line_unquoted l ++ flat_map line_unquoted after) = ap (λ ls. length (flat_map line_unquoted ls)) e in
    omega (arith, so_far, here, parts, length-append (line_unquoted l) (flat_map line_unquoted after))

pub line_fits : (now after : List TextLine) (l : TextLine) (ending : List ℕ) (size most found : ℕ) → now ≡ l ∷ after → ending ≡ ending_bytes l.ending → found ≤ length l.content + length ending → size + length (text_of now) ≤ most
    → size + found + length (text_of after) ≤ most
line_fits now after l ending size most found e f few so_far =
    let parts : length (text_of now) ≡ length (printed_line l ++ text_of after) = ap (λ ls. length (text_of ls)) e in
    omega (arith, so_far, few, ap length f, parts, length-append (printed_line l) (text_of after), length-append l.content (ending_bytes l.ending))
