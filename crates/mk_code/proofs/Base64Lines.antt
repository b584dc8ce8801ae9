-- Letters in lines.
use Rattle.std.proofs.Common.{◌≡◌, ◌<◌, ◌≤◌, ◌+◌, ◌-◌, ◌*◌, ◌/◌, ◌%◌, ℕ, suc, zero, List, [], ◌∷◌, ◌++◌, refl, ap, sym, ◌∙◌, length, take, drop, arith, append_assoc, length-append, length-drop, replicate, Result, Ok, Err, OnOk, is_ok, if◌then◌else◌}
use Rattle.std.proofs.lemmas.List.{length-replicate, length-take-le, take-append-drop}
use Rattle.std.specs.Int.{div_ceil}
use Rattle.base64.specs.Engines.{standard}
use Rattle.base64.specs.GeneralPurpose.{encode_of}
use Rattle.base64.specs.Rfc4648.{encode_symbols, padding_len}
use Rattle.base64.proofs.EngineFacts.{encode_of-append}
use Rattle.base64.proofs.RoundTrip.{length-encode_symbols}
use Rattle.mk_line.specs.declared.cutting.Ending.{Ending}
use Rattle.mk_line.specs.declared.cutting.Ending.TheVariants.{Crlf, Lf, Missing}
use Rattle.mk_line.specs.Lines.{ending_bytes}
use Rattle.mk_code.specs.Base64Text.{base64_encoded, lined}

-- what fits on a line stays
line_short : (eol text : List ℕ) (n : ℕ) → length text ≤ n → lined eol n text ≡ text
unfolding lined
line_short eol [] n l = refl
line_short eol (x ∷ xs) zero l = absurd (omega (arith, l))
line_short eol (x ∷ xs) (suc n) l = ap (λ ys. x ∷ ys) (line_short eol xs n (omega (arith, l)))

-- how many letters bytes take
length_encoded : (bytes : List ℕ) → length (encode_of standard bytes) ≡ (4 * length bytes + 2) / 3 + (3 - length bytes % 3) % 3
length_encoded bytes =
    length-append (encode_symbols standard.encode_table bytes) (replicate (padding_len (length bytes)) standard.padding.value)
    ∙ (λ i. length-encode_symbols standard.encode_table bytes i + length-replicate (padding_len (length bytes)) standard.padding.value i)

-- whole lines before what follows them
lines_full : (eol lines : List ℕ) (byte : ℕ) (rest : List ℕ) (n k : ℕ) → length lines ≡ n + 76 * k → lined eol n (lines ++ byte ∷ rest) ≡ lined eol n lines ++ (eol ++ lined eol 76 (byte ∷ rest))
unfolding lined
lines_full eol [] byte rest zero k l = refl
lines_full eol [] byte rest (suc n) k l = absurd (omega (arith, l))
lines_full eol (x ∷ xs) byte rest zero zero l = absurd (omega (arith, l))
lines_full eol (x ∷ xs) byte rest zero (suc k) l =
    ap (λ ys. eol ++ (x ∷ ys)) (lines_full eol xs byte rest 75 k (omega (arith, l)))
    ∙ sym (append_assoc eol (x ∷ lined eol 75 xs) (eol ++ lined eol 76 (byte ∷ rest)))
lines_full eol (x ∷ xs) byte rest (suc n) k l = ap (λ ys. x ∷ ys) (lines_full eol xs byte rest n k (omega (arith, l)))

lines_before : (eol lines rest : List ℕ) (k : ℕ) → length lines ≡ 76 + 76 * k → 0 < length rest → lined eol 76 (lines ++ rest) ≡ lined eol 76 lines ++ (eol ++ lined eol 76 rest)
lines_before eol lines [] k l o = absurd (omega (arith, o))
lines_before eol lines (byte ∷ rest) k l o = lines_full eol lines byte rest 76 k l

line_before : (eol line rest : List ℕ) → length line ≡ 76 → 0 < length rest → lined eol 76 (line ++ rest) ≡ line ++ (eol ++ lined eol 76 rest)
line_before eol line rest l o =
    lines_before eol line rest 0 (omega (arith, l)) o ∙ ap (λ xs. xs ++ (eol ++ lined eol 76 rest)) (line_short eol line 76 (omega (arith, l)))

-- how long letters in lines are
lined_long : (eol text : List ℕ) (n : ℕ) → n ≤ 76 → length (lined eol n text) ≡ length text + (length text + 75 - n) / 76 * length eol
unfolding lined
lined_long eol [] n few =
    let none : (75 - n) / 76 ≡ 0 = omega (arith, few) in
    rw none (omega arith)
lined_long eol (x ∷ xs) zero few =
    let rest = lined_long eol xs 75 (omega arith) in
    let more : (length (x ∷ xs) + 75 - 0) / 76 ≡ (length xs + 75 - 75) / 76 + 1 = omega arith in
    rw more (omega (arith, rest, length-append eol (x ∷ lined eol 75 xs)))
lined_long eol (x ∷ xs) (suc n) few =
    let rest = lined_long eol xs n (omega (arith, few)) in
    let same : length (x ∷ xs) + 75 - suc n ≡ length xs + 75 - n = omega arith in
    rw same (omega (arith, rest))

pub ending_short : (eol : Ending) (ending : List ℕ) → ending ≡ ending_bytes eol → length ending ≤ 2
ending_short Crlf ending e = omega (arith, ap length e)
ending_short Lf ending e = omega (arith, ap length e)
ending_short Missing ending e = omega (arith, ap length e)

-- the room for them, as it is computed
pub room_told : (bytes ending : List ℕ) (groups fewer : ℕ) → groups ≡ div_ceil (length bytes) 3 → fewer ≡ groups * 4 - 1 → groups * 4 + fewer / 76 * length ending ≡ length (lined ending 76 (encode_of standard bytes))
room_told bytes ending groups fewer e f =
    let text = encode_of standard bytes in
    let same : groups * 4 ≡ length text = omega (arith, e, length_encoded bytes) in
    let few : fewer ≡ length text + 75 - 76 = omega (arith, same, f) in
    sym (lined_long ending text 76 (omega arith) ∙ (λ i. sym same i + sym few i / 76 * length ending))

-- a step of the loop over lines, and its end
pub line_pushed : (ending rest out out1 out2 line more : List ℕ) → 76 < length rest → line ≡ take 76 rest → more ≡ drop 76 rest
    → out1 ≡ out ++ line → out2 ≡ out1 ++ ending → out2 ++ lined ending 76 more ≡ out ++ lined ending 76 rest
line_pushed ending rest out out1 out2 line more g e f p q =
    let size : length line ≡ 76 = ap length e ∙ length-take-le 76 rest (omega (arith, g)) in
    let some : 0 < length more = omega (arith, g, ap length f, length-drop 76 rest) in
    ap (λ xs. xs ++ lined ending 76 more) (q ∙ ap (λ xs. xs ++ ending) p)
    ∙ (append_assoc (out ++ line) ending (lined ending 76 more)
    ∙ (append_assoc out line (ending ++ lined ending 76 more)
    ∙ ap (λ xs. out ++ xs) (sym (line_before ending line more size some) ∙ ap (lined ending 76) ((λ i. e i ++ f i) ∙ take-append-drop 76 rest))))

pub line_ended : (ending rest out out1 : List ℕ) → length rest ≤ 76 → out1 ≡ out ++ rest → out1 ≡ out ++ lined ending 76 rest
line_ended ending rest out out1 l p = p ∙ ap (λ xs. out ++ xs) (sym (line_short ending rest 76 l))

-- a step of the loop over blocks of 32 lines, and its end
pub block_pushed : (eol : Ending) (ending rest out out1 out2 letters block more : List ℕ) → ending ≡ ending_bytes eol → 1824 < length rest → block ≡ take 1824 rest → more ≡ drop 1824 rest
    → letters ≡ encode_of standard block → out1 ≡ out ++ lined ending 76 letters → out2 ≡ out1 ++ ending → out2 ++ base64_encoded eol more ≡ out ++ base64_encoded eol rest
block_pushed eol ending rest out out1 out2 letters block more g l e f r p q =
    let here = encode_of standard block in
    let following = encode_of standard more in
    let size : length block ≡ 1824 = ap length e ∙ length-take-le 1824 rest (omega (arith, l)) in
    let size_more : length more ≡ length rest - 1824 = ap length f ∙ length-drop 1824 rest in
    let full : length here ≡ 76 + 76 * 31 = omega (arith, size, length_encoded block) in
    let some : 0 < length following = omega (arith, l, size_more, length_encoded more) in
    let whole : encode_of standard rest ≡ here ++ following =
    ap (encode_of standard) (sym (take-append-drop 1824 rest) ∙ (λ i. sym e i ++ sym f i)) ∙ encode_of-append standard block more (omega (arith, size)) in
    ap (λ xs. xs ++ base64_encoded eol more) (q ∙ (ap (λ xs. xs ++ ending) p ∙ (λ i. (out ++ lined (g i) 76 (r i)) ++ g i)))
    ∙ (append_assoc (out ++ lined (ending_bytes eol) 76 here) (ending_bytes eol) (base64_encoded eol more)
    ∙ (append_assoc out (lined (ending_bytes eol) 76 here) (ending_bytes eol ++ base64_encoded eol more)
    ∙ ap (λ xs. out ++ xs) (sym (lines_before (ending_bytes eol) here following 31 full some) ∙ ap (lined (ending_bytes eol) 76) (sym whole))))

pub block_ended : (eol : Ending) (ending letters rest out out1 : List ℕ) → ending ≡ ending_bytes eol → letters ≡ encode_of standard rest → out1 ≡ out ++ lined ending 76 letters → out1 ≡ out ++ base64_encoded eol rest
block_ended eol ending letters rest out out1 g r p = p ∙ (λ i. out ++ lined (g i) 76 (r i))

-- what follows where there is memory
pub on_ok : {A E : Type 0} (r : Result A E) (P Q : Type 0) → OnOk r P → (P → Q) → OnOk r Q
on_ok (Ok x) P Q h f = f h
on_ok (Err e) P Q h f = tt

-- the same where what is new is told for both
pub on_ok_if : {A E : Type 0} (r : Result A E) (new longer same : List ℕ) (Q : Type 0) → new ≡ (if is_ok r then longer else same) → (new ≡ longer → Q) → OnOk r Q
on_ok_if (Ok x) new longer same Q h f = f h
on_ok_if (Err e) new longer same Q h f = tt
