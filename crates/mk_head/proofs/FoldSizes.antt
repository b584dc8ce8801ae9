-- A folded field ends at the first line feed that no blank follows.
use Rattle.std.proofs.Common.{◌≡◌, ◌==◌, ◌&&◌, ◌||◌, ◌+◌, ◌<◌, ◌≤◌, ◌^◌, ◌%◌, if◌then◌else◌, cond, eqb, bit_and, ℕ, suc, zero, Bool, true, false, not, List, [], ◌∷◌, ◌++◌, map, length, take, drop, slice_index, Some, None, refl, sym, ap, ap₂, ◌∙◌, arith, inl, inr, length-drop}
use Rattle.std.proofs.lemmas.Bool.{cases_Bool, eqb-true, false_from_ne_true}
use Rattle.std.proofs.lemmas.Bool.Decides.{eqb_tells}
use Rattle.std.proofs.lemmas.List.{drop-drop}
use Rattle.std.proofs.lemmas.Simd.{mask_l-mod, first_set_mask_l, length-chunk, length-zip2}
use Rattle.std.proofs.lemmas.List.Sums.{prefix_len-le-length}
use Rattle.std.specs.Int.{w64, trailing_zeros}
use Rattle.std.specs.List.{prefix_len}
use Rattle.memchr.specs.Find.{IsFirstByte, is_byte}
use lib.Lanes.{chunk, zip2, mask_l, top}
use Rattle.mk_line.specs.Ascii.{is_blank}
use Rattle.mk_line.specs.Kinds.{is_continuation}
use Rattle.mk_line.specs.Lines.{TextLine, text_line, text_of, is_lf, is_nil, with_byte, onto_first, cut}
use Rattle.mk_line.specs.declared.cutting.Ending.TheVariants.{Crlf}
use Rattle.mk_line.proofs.Cuts.{cut_other, printed_with}
use Rattle.mk_head.specs.Split.{is_more}
use Rattle.mk_head.specs.Fields.{continuations}
use Rattle.mk_head.specs.inner.Folds.{folded, fold_size, is_end}

-- a CR is no blank, nor is a line feed
more_if : (t : Bool) (byte : ℕ) (l : TextLine) → (t ≡ true → byte ≡ 13) → is_more (if t then text_line [] Crlf else text_line (byte ∷ l.content) l.ending) ≡ is_blank byte
more_if true byte l h = ap is_blank (sym (h refl))
more_if false byte l h = refl

and_right : (a b : Bool) → (a && b) ≡ true → b ≡ true
and_right true b h = h
and_right false b h = cc

continued_onto : (byte : ℕ) (ls : List TextLine) → continuations (onto_first byte ls) ≡ (if is_blank byte then folded (onto_first byte ls) else [])
continued_onto byte [] = elim (cases_Bool (is_blank byte)) [ inl t ↦ rw t refl | inr f ↦ rw f refl ]
continued_onto byte (l ∷ ls) =
    let more : is_more (with_byte byte l) ≡ is_blank byte = more_if ((is_lf l.ending && is_nil l.content) && byte == 13) byte l (λ e. eqb-true byte 13 (and_right (is_lf l.ending && is_nil l.content) (byte == 13) e)) in
    elim (cases_Bool (is_blank byte)) [
      | inl t ↦ rw (more, t) refl
      | inr f ↦ rw (more, f) refl
    ]

-- the continuations that a text begins with, by its first byte
continued : (bytes : List ℕ) → continuations (cut bytes) ≡ (if is_continuation bytes then folded (cut bytes) else [])
continued [] = refl
continued (byte ∷ bytes) = elim (eqb_tells byte 10) [
  | inl h ↦ rw h.1 refl
  | inr h ↦ rw (cut_other byte bytes h.0) (continued_onto byte (cut bytes))
]

-- a byte before a text makes its first line longer
onto_folded : (byte : ℕ) (ls : List TextLine) → length (text_of (folded (onto_first byte ls))) ≡ 1 + length (text_of (folded ls))
onto_folded byte [] = refl
onto_folded byte (l ∷ ls) = omega (arith, ap length (ap (λ xs. xs ++ text_of (continuations ls)) (printed_with byte l.content l.ending)))

fed : (bytes : List ℕ) (n : ℕ) (t : Bool) → is_continuation bytes ≡ t → n ≡ length (text_of (folded (cut bytes))) → (if not t then 1 else 1 + n) ≡ 1 + length (text_of (continuations (cut bytes)))
fed bytes n true e h = let more : continuations (cut bytes) ≡ folded (cut bytes) = continued bytes ∙ rw e refl in omega (arith, h, ap (λ ls. length (text_of ls)) more)
fed bytes n false e h = let none : continuations (cut bytes) ≡ [] = continued bytes ∙ rw e refl in omega (arith, ap (λ ls. length (text_of ls)) none)

one_more : (n : ℕ) → 1 + n ≡ suc n
one_more n = omega arith

-- the bytes up to that line feed are those of the first line and of the continuations
pub fold_lines : (text : List ℕ) → fold_size text ≡ length (text_of (folded (cut text)))
fold_lines [] = refl
fold_lines (byte ∷ bytes) = elim (eqb_tells byte 10) [
  | inl h ↦ rw h.1 (fed bytes (fold_size bytes) (is_continuation bytes) refl (fold_lines bytes) ∙ one_more (length (text_of (continuations (cut bytes)))))
  | inr h ↦ rw h.0 (omega (arith, fold_lines bytes, onto_folded byte (cut bytes)))
]

pub fold_within : (text : List ℕ) → fold_size text ≤ length text
fold_within [] = omega arith
fold_within (byte ∷ bytes) = elim (cases_Bool (byte == 10 && not (is_continuation bytes))) [
  | inl t ↦ rw t (omega arith)
  | inr f ↦ rw f (omega (arith, fold_within bytes))
]

-- bytes at the start that are no line feeds are passed
fold_passed : (n : ℕ) (text : List ℕ) → n ≤ length text → ((k : ℕ) → k < n → (slice_index text k == 10) ≡ false) → fold_size text ≡ n + fold_size (drop n text)
fold_passed zero text l h = omega arith
fold_passed (suc n) [] l h = absurd (omega (arith, l))
fold_passed (suc n) (x ∷ xs) l h = rw (h 0 (omega arith)) (omega (arith, fold_passed n xs (omega (arith, l)) (λ k q. h (suc k) (omega arith))))

pub fold_found : (text : List ℕ) (n : ℕ) → IsFirstByte (is_byte 10) text (Some n) → fold_size text ≡ n + fold_size (drop n text)
fold_found text n h = fold_passed n text (omega (arith, h.0.high)) (λ k l. false_from_ne_true (slice_index text k == 10) (h.0.before k (omega arith) l))

pub fold_unfound : (text : List ℕ) → IsFirstByte (is_byte 10) text None → fold_size text ≡ length text + fold_size (drop (length text) text)
fold_unfound text h = fold_passed (length text) text (omega arith) (λ k l. false_from_ne_true (slice_index text k == 10) (h k (omega arith) l))

-- a vector of pairs that has a mark where a byte ends the field
marked_pair : (p q r : Bool) → top 7 (bit_and (cond p 255 0) (bit_and (cond (not q) 255 0) (cond (not r) 255 0))) ≡ (p && not (q || r))
marked_pair true true true = refl
marked_pair true true false = refl
marked_pair true false true = refl
marked_pair true false false = refl
marked_pair false true true = refl
marked_pair false true false = refl
marked_pair false false true = refl
marked_pair false false false = refl

abbrev feed_lane : ℕ → ℕ
feed_lane x = cond (eqb x 10) 255 0

abbrev other_lane : ℕ → ℕ
other_lane y = bit_and (cond (not (eqb y 32)) 255 0) (cond (not (eqb y 9)) 255 0)

marked_pairs : (a b : List ℕ) → map (top 7) (zip2 bit_and (map feed_lane a) (map other_lane b)) ≡ zip2 is_end a b
marked_pairs [] b = refl
marked_pairs (x ∷ a) [] = refl
marked_pairs (x ∷ a) (y ∷ b) = ap₂ (λ m ms. m ∷ ms) (marked_pair (x == 10) (y == 32) (y == 9)) (marked_pairs a b)

same_map : (ms : List Bool) → map (λ t. t) ms ≡ ms
same_map [] = refl
same_map (m ∷ ms) = ap (λ xs. m ∷ xs) (same_map ms)

-- where none of the pairs at the start ends the field, and where the first that does comes
pairs_passed : (n : ℕ) (xs : List ℕ) → n < length xs → prefix_len not (zip2 is_end (take n xs) (take n (drop 1 xs))) ≡ n → fold_size xs ≡ n + fold_size (drop n xs)
pairs_passed zero xs l e = omega arith
pairs_passed (suc n) [] l e = absurd (omega (arith, l))
pairs_passed (suc n) (x ∷ []) l e = absurd (omega (arith, l))
pairs_passed (suc n) (x ∷ y ∷ xs) l e = elim (cases_Bool (is_end x y)) [
  | inl t ↦ let none : 0 ≡ suc n = (rw t at e) in absurd (omega (arith, none))
  | inr f ↦
      let more : 1 + prefix_len not (zip2 is_end (take n (y ∷ xs)) (take n xs)) ≡ suc n = (rw f at e) in
      let rest = pairs_passed n (y ∷ xs) (omega (arith, l)) (omega arith) in
      rw f (omega (arith, rest))
]

pairs_end : (n : ℕ) (xs : List ℕ) (r : ℕ) → n < length xs → prefix_len not (zip2 is_end (take n xs) (take n (drop 1 xs))) ≡ r → r < n → fold_size xs ≡ r + 1
pairs_end zero xs r l e s = absurd (omega (arith, s))
pairs_end (suc n) [] r l e s = absurd (omega (arith, l))
pairs_end (suc n) (x ∷ []) r l e s = absurd (omega (arith, l))
pairs_end (suc n) (x ∷ y ∷ xs) r l e s = elim (cases_Bool (is_end x y)) [
  | inl t ↦ let none : 0 ≡ r = (rw t at e) in rw t (omega (arith, none))
  | inr f ↦
      let more : 1 + prefix_len not (zip2 is_end (take n (y ∷ xs)) (take n xs)) ≡ r = (rw f at e) in
      let rest = pairs_end n (y ∷ xs) (prefix_len not (zip2 is_end (take n (y ∷ xs)) (take n xs))) (omega (arith, l)) refl (omega (arith, more, s)) in
      rw f (omega (arith, rest, more))
]

zip_few : (n : ℕ) (xs ys : List ℕ) → length (zip2 is_end (take n xs) ys) ≤ n
zip_few zero xs ys = omega arith
zip_few (suc n) [] ys = omega arith
zip_few (suc n) (x ∷ xs) [] = omega arith
zip_few (suc n) (x ∷ xs) (y ∷ ys) = omega (arith, zip_few n xs ys)

run_few : (r : ℕ) (ms : List Bool) → prefix_len not ms ≡ r → length ms ≤ 32 → r ≤ 32
run_few r ms e h = omega (arith, e, h, prefix_len-le-length not ms)

-- a mask of these marks tells how many bytes come before the first
lanes_marked : (text : List ℕ) (at r : ℕ) (z : List ℕ) → at + 32 < length text
    → r ≡ (if mask_l (map (top 7) z) % 2 ^ 64 == 0 then 32 else trailing_zeros w64 (mask_l (map (top 7) z) % 2 ^ 64))
    → map (top 7) z ≡ zip2 is_end (chunk at 32 text) (chunk (at + 1) 32 text)
    → r ≡ prefix_len not (zip2 is_end (chunk at 32 text) (chunk (at + 1) 32 text))
lanes_marked text at r z room e lanes =
    let ms = zip2 is_end (chunk at 32 text) (chunk (at + 1) 32 text) in
    let here : length (chunk at 32 text) ≡ 32 = length-chunk at 32 text (omega arith) in
    let next : length (chunk (at + 1) 32 text) ≡ 32 = length-chunk (at + 1) 32 text (omega arith) in
    let long : length ms ≡ 32 = length-zip2 is_end (chunk at 32 text) (chunk (at + 1) 32 text) (here ∙ sym next) ∙ here in
    let mask : mask_l (map (top 7) z) % 2 ^ 64 ≡ mask_l (map (λ t. t) ms) =
    ap (λ l. mask_l l % 2 ^ 64) lanes ∙ (mask_l-mod ms 64 (omega arith) ∙ ap mask_l (sym (same_map ms))) in
    e ∙ (ap (λ m. if m == 0 then 32 else trailing_zeros w64 m) mask ∙ first_set_mask_l (λ t. t) ms 32 long (omega arith))

-- the chunk after a place, by what stands from the place on
next_chunk : (at : ℕ) (text : List ℕ) → chunk (at + 1) 32 text ≡ take 32 (drop 1 (drop at text))
next_chunk at text = ap (take 32) (ap (λ k. drop k text) (omega arith) ∙ sym (drop-drop 1 at text))

-- the vector that is computed of the thirty-two bytes at a place and of those one place on
pub lanes_ends : (text : List ℕ) (at r : ℕ) → at + 32 < length text
    → (z : List ℕ) → r ≡ (if mask_l (map (top 7) z) % 2 ^ 64 == 0 then 32 else trailing_zeros w64 (mask_l (map (top 7) z) % 2 ^ 64))
    → z ≡ zip2 bit_and (map feed_lane (chunk at 32 text)) (map other_lane (chunk (at + 1) 32 text))
    → (r < 32 → fold_size (drop at text) ≡ r + 1) × (r ≡ 32 → fold_size (drop at text) ≡ 32 + fold_size (drop (at + 32) text)) × (r ≤ 32)
lanes_ends text at r room z e made =
    let marks : map (top 7) z ≡ zip2 is_end (chunk at 32 text) (chunk (at + 1) 32 text) =
    ap (map (top 7)) made ∙ marked_pairs (chunk at 32 text) (chunk (at + 1) 32 text) in
    let found = lanes_marked text at r z room e marks in
    let run : prefix_len not (zip2 is_end (take 32 (drop at text)) (take 32 (drop 1 (drop at text)))) ≡ r =
    ap (λ ys. prefix_len not (zip2 is_end (chunk at 32 text) ys)) (sym (next_chunk at text)) ∙ sym found in
    let left : 32 < length (drop at text) = omega (arith, length-drop at text) in (
      λ less. pairs_end 32 (drop at text) r left run less,
      λ all. pairs_passed 32 (drop at text) left (run ∙ all) ∙ ap (λ xs. 32 + fold_size xs) (drop-drop 32 at text ∙ ap (λ k. drop k text) (omega arith)),
      run_few r (zip2 is_end (take 32 (drop at text)) (take 32 (drop 1 (drop at text)))) run (zip_few 32 (drop at text) (take 32 (drop 1 (drop at text)))),
    )
