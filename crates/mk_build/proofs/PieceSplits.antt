-- What goes of bytes that are cut at an ending, or after whole lines of base64.
use Rattle.std.proofs.Common.{◌≡◌, ◌≢◌, ◌==◌, ◌&&◌, ◌<◌, ◌*◌, if◌then◌else◌, ℕ, Bool, suc, zero, true, false, List, [], ◌∷◌, ◌++◌, IfSome, None, Option, Some, refl, ap, sym, ◌∙◌, length, take, drop, arith, append_assoc, length-append, length-drop}
use Rattle.std.proofs.lemmas.List.{length-take-le, take-append-drop}
use lib.Seq.{drop-append_seam, take-append_seam}
use Rattle.std.proofs.lemmas.List.Concat.{flat_map-append}
use Rattle.std.specs.List.{flat_map, join_by}
use denote.Ref.{Bor}
use Rattle.mk_line.specs.declared.cutting.Ending.{Ending}
use Rattle.mk_line.specs.declared.cutting.Ending.TheVariants.{Crlf, Lf, Missing}
use Rattle.mk_line.specs.Lines.{ending_bytes}
use Rattle.mk_code.specs.Base64Text.{base64_encoded}
use Rattle.mk_code.specs.QuotedPrintable.{before_lines, logical_lines, packed, qp_encoded}
use Rattle.mk_build.specs.declared.pieces.Coding.{Coding}
use Rattle.mk_build.specs.declared.pieces.Coding.TheVariants.{Qp, Base64, Plain}
use Rattle.mk_build.specs.inner.PieceViews.{coded, gap}
use Rattle.mk_code.proofs.Base64Lines.{block_pushed}
use Rattle.mk_code.proofs.LogicalLines.{joined_next, logical_some}

-- a block of 32 lines before the rest
block_before : (eol : Ending) (x y : List ℕ) → length x ≡ 1824 → 0 < length y → base64_encoded eol (x ++ y) ≡ base64_encoded eol x ++ (ending_bytes eol ++ base64_encoded eol y)
block_before eol x y s m =
    let long : 1824 < length (x ++ y) = omega (arith, length-append x y, s, m) in
    let front : x ≡ take 1824 (x ++ y) = sym (take-append_seam x y) ∙ ap (λ n. take n (x ++ y)) s in
    let back : y ≡ drop 1824 (x ++ y) = sym (drop-append_seam x y) ∙ ap (λ n. drop n (x ++ y)) s in
    sym (block_pushed eol (ending_bytes eol) (x ++ y) [] (base64_encoded eol x) (base64_encoded eol x ++ ending_bytes eol) _ x y refl long front back refl refl refl)
    ∙ append_assoc (base64_encoded eol x) (ending_bytes eol) (base64_encoded eol y)

-- and so many blocks
blocks_before : (eol : Ending) (k : ℕ) (x y : List ℕ) → length x ≡ 1824 * suc k → 0 < length y → base64_encoded eol (x ++ y) ≡ base64_encoded eol x ++ (ending_bytes eol ++ base64_encoded eol y)
blocks_before eol zero x y s m = block_before eol x y (omega (arith, s)) m
blocks_before eol (suc k) x y s m =
    let u = take 1824 x in
    let v = drop 1824 x in
    let end = ending_bytes eol in
    let one : length u ≡ 1824 = length-take-le 1824 x (omega (arith, s)) in
    let more : length v ≡ 1824 * suc k = omega (arith, length-drop 1824 x, s) in
    let whole : u ++ v ≡ x = take-append-drop 1824 x in
    let here : base64_encoded eol x ≡ base64_encoded eol u ++ (end ++ base64_encoded eol v) = ap (base64_encoded eol) (sym whole) ∙ block_before eol u v one (omega (arith, more)) in
    ap (base64_encoded eol) (ap (λ t. t ++ y) (sym whole) ∙ append_assoc u v y)
    ∙ (block_before eol u (v ++ y) one (omega (arith, length-append v y, more))
    ∙ (ap (λ t. base64_encoded eol u ++ (end ++ t)) (blocks_before eol k v y more m)
    ∙ (sym (three (base64_encoded eol u) end (base64_encoded eol v) (end ++ base64_encoded eol y)) ∙ ap (λ t. t ++ (end ++ base64_encoded eol y)) (sym here))))
  where
    three : (a b c t : List ℕ) → (a ++ (b ++ c)) ++ t ≡ a ++ (b ++ (c ++ t))
    three a b c t = simp append_assoc

-- bytes cut after 1024 whole lines
pub b64_cut : (eol : Ending) (a b : List ℕ) → length a ≡ 58_368 → 0 < length b → base64_encoded eol (a ++ b) ≡ base64_encoded eol a ++ (ending_bytes eol ++ base64_encoded eol b)
b64_cut eol a b s m = blocks_before eol 31 a b (omega (arith, s)) m

-- lines after those that a byte stands before
if_append : (t : Bool) (xs ys zs : List (List ℕ)) → (if t then xs ++ zs else ys ++ zs) ≡ (if t then xs else ys) ++ zs
if_append true xs ys zs = refl
if_append false xs ys zs = refl

before_append : (eol : Ending) (byte : ℕ) (xs ys : List (List ℕ)) → xs ≢ [] → before_lines eol byte (xs ++ ys) ≡ before_lines eol byte xs ++ ys
before_append eol byte [] ys n = absurd (n refl)
before_append Lf byte (line ∷ lines) ys n = if_append (byte == 10) ([] ∷ line ∷ lines) ((byte ∷ line) ∷ lines) ys
before_append Crlf byte ([] ∷ lines) ys n = refl
before_append Crlf byte ((next ∷ line) ∷ lines) ys n = if_append (byte == 13 && next == 10) ([] ∷ line ∷ lines) ((byte ∷ next ∷ line) ∷ lines) ys
before_append Missing byte (line ∷ lines) ys n = refl

-- an ending at the start is an empty line
feed_before : (lines : List (List ℕ)) → lines ≢ [] → before_lines Lf 10 lines ≡ [] ∷ lines
feed_before [] h = absurd (h refl)
feed_before (line ∷ lines) h = refl

feed_onto : (line : List ℕ) (lines : List (List ℕ)) → before_lines Crlf 10 (line ∷ lines) ≡ (10 ∷ line) ∷ lines
feed_onto [] lines = refl
feed_onto (x ∷ xs) lines = refl

crlf_before : (lines : List (List ℕ)) → lines ≢ [] → before_lines Crlf 13 (before_lines Crlf 10 lines) ≡ [] ∷ lines
crlf_before [] h = absurd (h refl)
crlf_before (line ∷ lines) h = ap (before_lines Crlf 13) (feed_onto line lines)

after_ending : (eol : Ending) (b : List ℕ) → eol ≢ Missing → logical_lines eol (ending_bytes eol ++ b) ≡ [] ∷ logical_lines eol b
after_ending Lf b n = feed_before (logical_lines Lf b) (logical_some Lf b)
after_ending Crlf b n = crlf_before (logical_lines Crlf b) (logical_some Crlf b)
after_ending Missing b n = absurd (n refl)

-- bytes cut at an ending have the logical lines of both
logical_apart : (eol : Ending) (a b : List ℕ) → eol ≢ Missing → logical_lines eol (a ++ (ending_bytes eol ++ b)) ≡ logical_lines eol a ++ logical_lines eol b
logical_apart eol [] b n = after_ending eol b n
logical_apart eol (x ∷ xs) b n =
    ap (before_lines eol x) (logical_apart eol xs b n) ∙ before_append eol x (logical_lines eol xs) (logical_lines eol b) (logical_some eol xs)

join_append : (f : List ℕ → List ℕ) (sep : List ℕ) (xs ys : List (List ℕ)) → xs ≢ [] → ys ≢ [] → join_by f sep (xs ++ ys) ≡ join_by f sep xs ++ (sep ++ join_by f sep ys)
join_append f sep [] ys n m = absurd (n refl)
join_append f sep (x ∷ xs) ys n m =
    let more : List ℕ → List ℕ = λ y. sep ++ f y in
    ap (λ t. f x ++ t) (flat_map-append more xs ys ∙ ap (λ t. flat_map more xs ++ t) (joined_next f sep ys m))
    ∙ sym (append_assoc (f x) (flat_map more xs) (sep ++ join_by f sep ys))

-- and go as both do, with an ending between
pub qp_cut : (eol : Ending) (a b : List ℕ) → eol ≢ Missing → qp_encoded eol (a ++ (ending_bytes eol ++ b)) ≡ qp_encoded eol a ++ (ending_bytes eol ++ qp_encoded eol b)
qp_cut eol a b n =
    let f : List ℕ → List ℕ = packed (ending_bytes eol) 0 in
    ap (join_by f (ending_bytes eol)) (logical_apart eol a b n)
    ∙ join_append f (ending_bytes eol) (logical_lines eol a) (logical_lines eol b) (logical_some eol a) (logical_some eol b)

-- the same by what a cut gives
pub qp_split : (coding : Coding) (eol : Ending) (bytes : List ℕ) (r : Option (Bor (List ℕ) × Bor (List ℕ))) → coding ≡ Qp → eol ≢ Missing → IfSome r (λ p. bytes ≡ p.0.now ++ (ending_bytes eol ++ p.1.now))
    → IfSome r (λ p. coded coding eol bytes ≡ coded coding eol p.0.now ++ (ending_bytes (gap coding eol) ++ coded coding eol p.1.now))
qp_split coding eol bytes None e n h = tt
qp_split coding eol bytes (Some p) e n h = rw e (ap (qp_encoded eol) h ∙ qp_cut eol p.0.now p.1.now n)

pub b64_split : (coding : Coding) (eol : Ending) (bytes : List ℕ) (r : Option (Bor (List ℕ) × Bor (List ℕ))) → coding ≡ Base64 → IfSome r (λ p. bytes ≡ p.0.now ++ p.1.now) → IfSome r (λ p. length p.0.now ≡ 58_368) → IfSome r (λ p. 0 < length p.1.now)
    → IfSome r (λ p. coded coding eol bytes ≡ coded coding eol p.0.now ++ (ending_bytes (gap coding eol) ++ coded coding eol p.1.now))
b64_split coding eol bytes None e h s m = tt
b64_split coding eol bytes (Some p) e h s m = rw e (ap (base64_encoded eol) h ∙ b64_cut eol p.0.now p.1.now s m)

pub plain_split : (coding : Coding) (eol : Ending) (bytes : List ℕ) (r : Option (Bor (List ℕ) × Bor (List ℕ))) → coding ≡ Plain → IfSome r (λ p. bytes ≡ p.0.now ++ p.1.now)
    → IfSome r (λ p. coded coding eol bytes ≡ coded coding eol p.0.now ++ (ending_bytes (gap coding eol) ++ coded coding eol p.1.now))
plain_split coding eol bytes None e h = tt
plain_split coding eol bytes (Some p) e h = rw e h
