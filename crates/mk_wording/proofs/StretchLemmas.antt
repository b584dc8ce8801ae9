-- Stretches one by one.
use Rattle.std.proofs.Common.{◌≡◌, ◌==◌, ◌&&◌, ◌≤◌, if◌then◌else◌, ℕ, suc, zero, true, false, List, [], ◌∷◌, refl, ap, sym, ◌∙◌, inl, inr, length, take, drop, arith, subst}
use Rattle.std.proofs.lemmas.Bool.{cases_Bool, eqb-true}
use Rattle.mk_line.specs.Ascii.{backslash, closing, opening, quote}
use Rattle.mk_line.specs.Lines.{is_nil}
use Rattle.mk_head.specs.Values.{Scan, Plain, Quoted, QuotedEscaped, Comment, CommentEscaped, is_plain, out_of, scan}
use Rattle.mk_wording.specs.Scanned.{before_mark, from_mark, is_one_of}
use Rattle.mk_wording.specs.inner.ScanViews.{closing_of, inside_of}
use Rattle.mk_wording.specs.Stretches.{Stretch, begin_comment, is_in_comment, parenthesis, push_inside, push_outside, stretches}
use Rattle.mk_wording.specs.inner.StretchViews.{stretches_after}

-- the stretches from the closing parenthesis of a comment on
abbrev stretches_from : List ℕ → List Stretch
stretches_from [] = []
stretches_from (byte ∷ bytes) = stretches Plain bytes

out_inside : (depth : ℕ) → is_plain (out_of depth) ≡ false → is_in_comment (out_of depth) ≡ true
out_inside zero h = cc
out_inside (suc depth) h = refl

pub stays_inside : (s : Scan) (b : ℕ) → is_in_comment s ≡ true → is_plain (scan s b) ≡ false → is_in_comment (scan s b) ≡ true
stays_inside Plain b h f = cc
stays_inside Quoted b h f = cc
stays_inside QuotedEscaped b h f = cc
stays_inside (CommentEscaped depth) b h f = refl
stays_inside (Comment depth) b h f =
    elim (cases_Bool (b == backslash)) [
      | inl x ↦ rw x refl
      | inr x ↦ elim (cases_Bool (b == opening)) [
        | inl y ↦ rw (x, y) refl
        | inr y ↦ elim (cases_Bool (b == closing)) [
          | inl z ↦ rw (x, y, z) (out_inside depth (rw (x, y, z) at f))
          | inr z ↦ rw (x, y, z) refl
        ]
      ]
    ]

pub inside_step : (s : Scan) → is_in_comment s ≡ true → (v : List ℕ)
    → stretches s v ≡ record { outside = []; begin = []; inside = inside_of s v; end = take 1 (closing_of s v) } ∷ stretches_from (closing_of s v)
inside_step s h [] = refl
inside_step s h (b ∷ bs) =
    elim (cases_Bool (is_plain (scan s b))) [
      | inl t ↦ rw (h, t) refl
      | inr f ↦ rw (h, f) (ap (push_inside b) (inside_step (scan s b) (stays_inside s b h f) bs))
    ]

other_way : (b : ℕ) → is_one_of parenthesis b ≡ false → (b == opening) ≡ false
other_way b h =
    elim (cases_Bool (b == opening)) [
      | inl t ↦ let bad : true ≡ false = subst (λ x. is_one_of parenthesis x ≡ false) (eqb-true b opening t) h in absurd (cc bad)
      | inr f ↦ f
    ]

stays_outside : (s : Scan) (b : ℕ) → is_in_comment s ≡ false → (is_plain s && is_one_of parenthesis b) ≡ false → is_in_comment (scan s b) ≡ false
stays_outside Plain b h f =
    elim (cases_Bool (b == quote)) [
      | inl x ↦ rw x refl
      | inr x ↦ rw (x, other_way b f) refl
    ]
stays_outside Quoted b h f =
    elim (cases_Bool (b == backslash)) [
      | inl x ↦ rw x refl
      | inr x ↦ elim (cases_Bool (b == quote)) [ inl y ↦ rw (x, y) refl | inr y ↦ rw (x, y) refl ]
    ]
stays_outside QuotedEscaped b h f = refl
stays_outside (Comment depth) b h f = cc
stays_outside (CommentEscaped depth) b h f = cc

-- the first stretch of a text by its parts
abbrev pub first_of : List ℕ → List ℕ → Stretch
first_of outside comment = record { outside = outside; begin = take 1 comment; inside = inside_of (Comment 0) (drop 1 comment); end = take 1 (closing_of (Comment 0) (drop 1 comment)) }

outside_step : (s : Scan) → is_in_comment s ≡ false → (v : List ℕ)
    → stretches s v ≡ first_of (before_mark parenthesis s v) (from_mark parenthesis s v) ∷ stretches_from (closing_of (Comment 0) (drop 1 (from_mark parenthesis s v)))
outside_step s h [] = refl
outside_step s h (b ∷ bs) =
    elim (cases_Bool (is_plain s && is_one_of parenthesis b)) [
      | inl t ↦ rw (h, t) (ap (begin_comment b) (inside_step (Comment 0) refl bs))
      | inr f ↦ rw (h, f) (ap (push_outside b) (outside_step (scan s b) (stays_outside s b h f) bs))
    ]

-- the first byte of a text, and what stands after it
pub first_taken : (v : List ℕ) (n : ℕ) → n ≡ (if is_nil v then 0 else 1) → take n v ≡ take 1 v
first_taken [] n h = rw h refl
first_taken (x ∷ xs) n h = rw h refl

pub first_dropped : (v : List ℕ) (n : ℕ) → n ≡ (if is_nil v then 0 else 1) → drop n v ≡ drop 1 v
first_dropped [] n h = rw h refl
first_dropped (x ∷ xs) n h = rw h refl

from_closing : (v : List ℕ) → stretches_from v ≡ stretches_after (take 1 v) (drop 1 v)
from_closing [] = refl
from_closing (x ∷ xs) = refl

-- the first stretch as it was found
pub first_found : (text outside comment begin holds inside closing end rest : List ℕ) (n m : ℕ)
    → outside ≡ before_mark parenthesis Plain text → comment ≡ from_mark parenthesis Plain text
    → n ≡ (if is_nil comment then 0 else 1) → begin ≡ take n comment → holds ≡ drop n comment
    → inside ≡ inside_of (Comment 0) holds → closing ≡ closing_of (Comment 0) holds
    → m ≡ (if is_nil closing then 0 else 1) → end ≡ take m closing → rest ≡ drop m closing
    → stretches Plain text ≡ record { outside = outside; begin = begin; inside = inside; end = end } ∷ stretches_after end rest
first_found text outside comment begin holds inside closing end rest n m eo ec en eb eh ei el em ee er =
    let b : begin ≡ take 1 comment = eb ∙ first_taken comment n en in
    let h : holds ≡ drop 1 comment = eh ∙ first_dropped comment n en in
    let e : end ≡ take 1 closing = ee ∙ first_taken closing m em in
    let r : rest ≡ drop 1 closing = er ∙ first_dropped closing m em in
    let i : inside ≡ inside_of (Comment 0) (drop 1 comment) = ei ∙ ap (inside_of (Comment 0)) h in
    let l : closing ≡ closing_of (Comment 0) (drop 1 comment) = el ∙ ap (closing_of (Comment 0)) h in
    outside_step Plain refl text
    ∙ ((λ j. first_of (sym eo j) (sym ec j) ∷ stretches_from (closing_of (Comment 0) (drop 1 (sym ec j))))
    ∙ ((λ j. record { outside = outside; begin = sym b j; inside = sym i j; end = take 1 (sym l j) } ∷ stretches_from (sym l j))
    ∙ (ap (λ ss. record { outside = outside; begin = begin; inside = inside; end = take 1 closing } ∷ ss) (from_closing closing)
    ∙ (λ j. record { outside = outside; begin = begin; inside = inside; end = sym e j } ∷ stretches_after (sym e j) (sym r j)))))

closing_less : (s : Scan) (v : List ℕ) → length (closing_of s v) ≤ length v
closing_less s [] = omega arith
closing_less s (b ∷ bs) = elim (cases_Bool (is_plain (scan s b))) [
  | inl t ↦ rw t (omega arith)
  | inr f ↦ rw f (let less : length (closing_of (scan s b) bs) ≤ length bs = closing_less (scan s b) bs in omega (arith, less))
]
