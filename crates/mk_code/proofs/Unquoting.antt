-- Decoding quoted-printable line by line and escape by escape.
use Rattle.std.proofs.Common.{◌≡◌, ◌==◌, ◌&&◌, ◌<◌, ◌-◌, ℕ, true, false, List, [], ◌∷◌, ◌++◌, refl, ap, sym, ◌∙◌, length, take, drop, arith, append_assoc, None, Some}
use Rattle.std.proofs.lemmas.Bool.{or_parts}
use Rattle.std.proofs.lemmas.List.{take_rest, nil_from_length, append-nil}
use Rattle.std.specs.Prelude.{Bool, if◌then◌else◌}
use Rattle.mk_line.specs.Marks.{trimmed}
use Rattle.mk_line.specs.Parting.{has_byte}
use Rattle.std.specs.List.{flat_map}
use Rattle.mk_line.specs.Lines.{TextLine, ending_bytes}
use Rattle.mk_code.specs.QuotedPrintable.{is_hex_digit, pair_value, pair_at, unquoted, line_unquoted}

-- a byte other than `=` stands for itself
pub unquoted_other : (ending : List ℕ) (byte : ℕ) (bytes : List ℕ) → (byte == 61) ≡ false → unquoted ending (byte ∷ bytes) ≡ byte ∷ unquoted ending bytes
unquoted_other ending byte [] h = rw h refl
unquoted_other ending byte (next ∷ []) h = refl
unquoted_other ending byte (high ∷ low ∷ bytes) h = rw h refl

unquoted_run : (ending front rest : List ℕ) → has_byte 61 front ≡ false → unquoted ending (front ++ rest) ≡ front ++ unquoted ending rest
unquoted_run ending [] rest h = refl
unquoted_run ending (x ∷ xs) rest h =
    let both = or_parts (x == 61) (has_byte 61 xs) h in
    unquoted_other ending x (xs ++ rest) both.0 ∙ ap (λ ys. x ∷ ys) (unquoted_run ending xs rest both.1)

-- `=` and two digits
pair_of : (b : Bool) (x y : ℕ) → (if b then Some x else None) ≡ Some y → (b ≡ true) × (x ≡ y)
pair_of true x y h = (refl, cc h)
pair_of false x y h = absurd (cc h)

no_pair_of : (b : Bool) (x : ℕ) → (if b then Some x else None) ≡ None → b ≡ false
no_pair_of true x h = absurd (cc h)
no_pair_of false x h = refl

unquoted_pair : (ending following : List ℕ) (byte : ℕ) → Some byte ≡ pair_at following → unquoted ending (61 ∷ following) ≡ byte ∷ unquoted ending (drop 2 following)
unquoted_pair ending [] byte h = absurd (cc h)
unquoted_pair ending (high ∷ []) byte h = absurd (cc h)
unquoted_pair ending (high ∷ low ∷ bytes) byte h =
    let found = pair_of (is_hex_digit high && is_hex_digit low) (pair_value high low) byte (sym h) in
    rw (found.0, found.1) refl

-- `=` alone
unquoted_lone : (ending following : List ℕ) → 0 < length following → None ≡ pair_at following → unquoted ending (61 ∷ following) ≡ 61 ∷ unquoted ending following
unquoted_lone ending [] o h = absurd (omega (arith, o))
unquoted_lone ending (next ∷ []) o h = refl
unquoted_lone ending (high ∷ low ∷ bytes) o h = rw (no_pair_of (is_hex_digit high && is_hex_digit low) (pair_value high low) (sym h)) refl

-- the steps of the loop over a line
front_first : (ending rest out out1 front following : List ℕ) → rest ≡ front ++ 61 ∷ following → has_byte 61 front ≡ false → out1 ≡ out ++ front → out1 ++ unquoted ending (61 ∷ following) ≡ out ++ unquoted ending rest
front_first ending rest out out1 front following e h p =
    rw (e, p) (append_assoc out front (unquoted ending (61 ∷ following)) ∙ ap (λ xs. out ++ xs) (sym (unquoted_run ending front (61 ∷ following) h)))

pub step_soft : (ending rest out out1 front following : List ℕ) → rest ≡ front ++ 61 ∷ following → has_byte 61 front ≡ false → out1 ≡ out ++ front → length following ≡ 0 → out1 ≡ out ++ unquoted ending rest
step_soft ending rest out out1 front following e h p none =
    let empty = nil_from_length following none in
    sym (append-nil out1) ∙ (ap (λ xs. out1 ++ unquoted ending (61 ∷ xs)) (sym empty) ∙ front_first ending rest out out1 front following e h p)

pub step_pair : (ending rest out out1 out2 front following : List ℕ) (byte : ℕ) → rest ≡ front ++ 61 ∷ following → has_byte 61 front ≡ false → out1 ≡ out ++ front → Some byte ≡ pair_at following → out2 ≡ out1 ++ byte ∷ [] → out2 ++ unquoted ending (take (length following - 2) (drop 2 following)) ≡ out ++ unquoted ending rest
step_pair ending rest out out1 out2 front following byte e h p f q =
    ap (λ xs. out2 ++ unquoted ending xs) (take_rest following 2)
    ∙ (ap (λ xs. xs ++ unquoted ending (drop 2 following)) q
    ∙ (append_assoc out1 (byte ∷ []) (unquoted ending (drop 2 following))
    ∙ (ap (λ xs. out1 ++ xs) (sym (unquoted_pair ending following byte f))
    ∙ front_first ending rest out out1 front following e h p)))

pub step_lone : (ending rest out out1 out2 front following : List ℕ) → rest ≡ front ++ 61 ∷ following → has_byte 61 front ≡ false → out1 ≡ out ++ front → 0 < length following → None ≡ pair_at following → out2 ≡ out1 ++ 61 ∷ [] → out2 ++ unquoted ending following ≡ out ++ unquoted ending rest
step_lone ending rest out out1 out2 front following e h p o f q =
    ap (λ xs. xs ++ unquoted ending following) q
    ∙ (append_assoc out1 (61 ∷ []) (unquoted ending following)
    ∙ (ap (λ xs. out1 ++ xs) (sym (unquoted_lone ending following o f))
    ∙ front_first ending rest out out1 front following e h p))

pub step_last : (ending rest out out1 out2 : List ℕ) → has_byte 61 rest ≡ false → out1 ≡ out ++ rest → out2 ≡ out1 ++ ending → out2 ≡ out ++ unquoted ending rest
step_last ending rest out out1 out2 h p q =
    rw (q, p) (append_assoc out rest ending ∙ ap (λ xs. out ++ xs) (sym (unquoted_run ending rest [] h) ∙ ap (unquoted ending) (append-nil rest)))

-- a step of the loop over the lines
pub step_line : (now after : List TextLine) (l : TextLine) (ending out out1 : List ℕ) → now ≡ l ∷ after → ending ≡ ending_bytes l.ending → out1 ≡ out ++ unquoted ending (trimmed l.content) → out1 ++ flat_map line_unquoted after ≡ out ++ flat_map line_unquoted now
step_line now after l ending out out1 e f p =
    ap (λ xs. xs ++ flat_map line_unquoted after) (p ∙ ap (λ xs. out ++ unquoted xs (trimmed l.content)) f)
    ∙ (append_assoc out (line_unquoted l) (flat_map line_unquoted after)
    ∙ ap (λ ls. out ++ flat_map line_unquoted ls) (sym e))
