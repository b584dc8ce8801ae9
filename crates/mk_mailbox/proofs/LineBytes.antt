-- The bytes of a line: its content, and its line feed.
use Rattle.std.proofs.Common.{◌≡◌, ◌≢◌, ◌==◌, ◌<◌, ◌+◌, ◌-◌, ◌++◌, ℕ, zero, suc, Bool, true, false, List, [], ◌∷◌, None, Some, refl, ap, sym, ◌∙◌, inl, inr, length, take, slice_index, append_assoc, arith, length-append}
use Rattle.std.proofs.Math.Seq.{take-length, take-append_seam}
use Rattle.std.proofs.lemmas.Bool.{cases_Bool, eqb-true, eq-eqb, false_from_ne_true, or_parts}
use Rattle.std.proofs.lemmas.List.{get_or-take, length-take-le, take_more}
use Rattle.memchr.specs.Find.{IsFirstByte, is_byte}
use Rattle.mk_line.specs.declared.cutting.Ending.TheVariants.{Crlf}
use Rattle.mk_line.specs.Lines.{ended, ends_in_return, has_line_feed, text_line}
use Rattle.mk_line.proofs.Cuts.{ended_lf, no_feed}
use Rattle.mk_mailbox.specs.inner.Gathered.{IsOneLine, IsWholeLine}

-- a CR before the line feed is no content
ended_return : (content : List ℕ) → ended (content ++ 13 ∷ []) ≡ text_line content Crlf
ended_return [] = refl
ended_return (byte ∷ bytes) = rw (ended_return bytes) refl

pub ended_before : (bytes content : List ℕ) → bytes ≡ content ++ 13 ∷ [] → content ≡ (ended bytes).content
ended_before bytes content e = sym (ap (λ b. (ended b).content) e ∙ ap (λ l. l.content) (ended_return content))

return_before : (bytes : List ℕ) → ends_in_return bytes ≡ true → (front : List ℕ) × (bytes ≡ front ++ 13 ∷ [])
return_before [] h = cc
return_before (byte ∷ []) h = ([], ap (λ b. b ∷ []) (eqb-true byte 13 h))
return_before (byte ∷ next ∷ bytes) h = let f = return_before (next ∷ bytes) h in (byte ∷ f.0, ap (λ bs. byte ∷ bs) f.1)

pub ended_without : (bytes : List ℕ) → ((front : List ℕ) → bytes ≢ front ++ 13 ∷ []) → bytes ≡ (ended bytes).content
ended_without bytes h =
    elim (cases_Bool (ends_in_return bytes)) [
      | inl t ↦ let f = return_before bytes t in absurd (h f.0 f.1)
      | inr n ↦ sym (ap (λ l. l.content) (ended_lf bytes n))
    ]

-- the last byte tells whether a line has its line feed
feed_in : (line : List ℕ) (k : ℕ) → has_line_feed line ≡ false → slice_index line k ≢ 10
feed_in [] k h e = cc
feed_in (byte ∷ bytes) zero h e = not_both (byte == 10) (eq-eqb byte 10 e) (or_parts (byte == 10) (has_line_feed bytes) h).0
  where
    not_both : (t : Bool) → t ≡ true → t ≡ false → ⊥
    not_both true a b = cc
    not_both false a b = cc
feed_in (byte ∷ bytes) (suc k) h e = feed_in bytes k (or_parts (byte == 10) (has_line_feed bytes) h).1 e

front_of_line : (before : List ℕ) (n : ℕ) → n ≡ length before → take n (before ++ 10 ∷ []) ≡ before
front_of_line before n e = ap (λ k. take k (before ++ 10 ∷ [])) e ∙ take-append_seam before (10 ∷ [])

pub whole_is : (line content : List ℕ) → IsOneLine line → slice_index line (length line - 1) ≡ 10 → content ≡ (ended (take (length line - 1) line)).content → IsWholeLine line content
whole_is line content one last e =
    elim one [
      | inl none ↦ absurd (feed_in line (length line - 1) none last)
      | inr w ↦
          let size : length line ≡ length (w.0 ++ 10 ∷ []) = ap length w.1 in
          let front : take (length line - 1) line ≡ w.0 = ap (take (length line - 1)) w.1 ∙ front_of_line w.0 (length line - 1) (omega (arith, size, length-append w.0 (10 ∷ []))) in
          record { before = w.0; parts = w.1; no_feed = w.2; content_is = e ∙ ap (λ b. (ended b).content) front }
    ]

-- the bytes up to the first line feed are one line, and so are bytes without one
in_front : (bytes : List ℕ) (end k : ℕ) → k < end → (slice_index (take end bytes) k == 10) ≡ true → (slice_index bytes k == 10) ≡ true
in_front bytes end k l t = ap (λ b. b == 10) (sym (get_or-take end bytes k 0 l)) ∙ t

no_feed_before : (bytes : List ℕ) (end : ℕ) → IsFirstByte (is_byte 10) bytes (Some end) → has_line_feed (take end bytes) ≡ false
no_feed_before bytes end h =
    no_feed (take end bytes)
    (λ k l. let less : k < end = omega (arith, l, length-take-le end bytes (omega (arith, h.0.high))) in
    false_from_ne_true (slice_index (take end bytes) k == 10) (λ t. h.0.before k (omega arith) less (in_front bytes end k less t)))

pub line_to_feed : (bytes : List ℕ) (end : ℕ) → IsFirstByte (is_byte 10) bytes (Some end) → IsOneLine (take (end + 1) bytes)
line_to_feed bytes end h =
    inr (take end bytes, take_more bytes end 0 h.0.high ∙ ap (λ b. take end bytes ++ b ∷ []) (eqb-true (slice_index bytes end) 10 h.1), no_feed_before bytes end h)

pub line_without : (bytes : List ℕ) → IsFirstByte (is_byte 10) bytes None → IsOneLine (take (length bytes) bytes)
line_without bytes h = inl (ap has_line_feed (take-length bytes) ∙ no_feed bytes (λ k l. false_from_ne_true (slice_index bytes k == 10) (h k (omega arith) l)))

-- more bytes of a line
no_feed_joined : (xs ys : List ℕ) → has_line_feed xs ≡ false → has_line_feed ys ≡ false → has_line_feed (xs ++ ys) ≡ false
no_feed_joined [] ys h k = k
no_feed_joined (x ∷ xs) ys h k = let p = or_parts (x == 10) (has_line_feed xs) h in rw p.0 (no_feed_joined xs ys p.1 k)

pub one_line_on : (line more : List ℕ) → has_line_feed line ≡ false → IsOneLine more → IsOneLine (line ++ more)
one_line_on line more h one =
    elim one [
      | inl none ↦ inl (no_feed_joined line more h none)
      | inr w ↦ inr (line ++ w.0, ap (λ x. line ++ x) w.1 ∙ sym (append_assoc line w.0 (10 ∷ [])), no_feed_joined line w.0 h w.2)
    ]
