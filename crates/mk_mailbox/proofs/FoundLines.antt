-- What a search for a line feed and `From ` says of the lines before it: none of them is a From-line.
use Rattle.std.proofs.Common.{◌≡◌, ◌==◌, ◌&&◌, ◌<◌, ◌≤◌, ◌+◌, ◌++◌, ℕ, suc, zero, true, false, not, List, [], ◌∷◌, None, Some, refl, ap, sym, ◌∙◌, inl, inr, length, take, drop, slice_index, codes, nat_eq, append_assoc, take-append-drop, add-zero, arith}
use Rattle.std.specs.List.{starts_with}
use Rattle.std.proofs.lemmas.Bool.{cases_Bool, and_parts, eqb-true}
use Rattle.std.proofs.lemmas.Bool.Decides.{eqb_tells}
use Rattle.std.proofs.lemmas.List.{get_or-take, length-take-le, take_more}
use Rattle.memchr.specs.Find.{FindsNeedle, IsLastByte, OccursAt, is_byte}
use Rattle.mk_line.specs.Kinds.{is_from_line, is_field_start}
use Rattle.mk_line.specs.Lines.{TextLine, cut, ending_bytes, ends_open, onto_first, text_of}
use Rattle.mk_line.proofs.Cuts.{text_cut}
use Rattle.mk_mailbox.specs.inner.Gathered.{AreQuiet, feed_and_from, none_from}
use Rattle.mk_mailbox.proofs.QuietLines.{ends_fed}

abbrev from : List ℕ
from = codes "From "

-- what begins with some bytes has them at its first places
begins_at : (p xs : List ℕ) → starts_with nat_eq xs p ≡ true → (length p ≤ length xs) × ((j : ℕ) → j < length p → slice_index xs j ≡ slice_index p j)
begins_at [] xs h = (omega arith, λ j l. absurd (omega (arith, l)))
begins_at (y ∷ p) [] h = cc
begins_at (y ∷ p) (x ∷ xs) h =
    let both = and_parts (nat_eq y x) (starts_with nat_eq xs p) h in
    let again = begins_at p xs both.1 in
    (omega (arith, again.0), reads y x p xs (sym (eqb-true y x both.0)) again.1)
  where
    reads : (y x : ℕ) (p xs : List ℕ) → x ≡ y → ((j : ℕ) → j < length p → slice_index xs j ≡ slice_index p j) → (j : ℕ) → j < length (y ∷ p) → slice_index (x ∷ xs) j ≡ slice_index (y ∷ p) j
    reads y x p xs e again zero l = e
    reads y x p xs e again (suc j) l = again j (omega (arith, l))

-- a feed before such bytes
fed_here : (x : ℕ) (p xs : List ℕ) → x ≡ 10 → starts_with nat_eq xs p ≡ true → OccursAt (x ∷ xs) (10 ∷ p) 0
fed_here x p xs e h =
    let at = begins_at p xs h in
    record { fits = omega (arith, at.0); reads = reads x p xs e at.1 }
  where
    reads : (x : ℕ) (p xs : List ℕ) → x ≡ 10 → ((j : ℕ) → j < length p → slice_index xs j ≡ slice_index p j) → (j : ℕ) → j < length (10 ∷ p) → slice_index (x ∷ xs) (0 + j) ≡ slice_index (10 ∷ p) j
    reads x p xs e at zero l = e
    reads x p xs e at (suc j) l = let place : 0 + suc j ≡ suc j = omega arith in ap (slice_index (x ∷ xs)) place ∙ at j (omega (arith, l))

suc_on : (k j : ℕ) → suc k + j ≡ suc (k + j)
suc_on k j = omega arith

later_place : (x : ℕ) (xs p : List ℕ) (k : ℕ) → OccursAt xs p k → OccursAt (x ∷ xs) p (suc k)
later_place x xs p k h = record { fits = omega (arith, h.fits); reads = λ j l. ap (slice_index (x ∷ xs)) (suc_on k j) ∙ h.reads j l }

unfed_after : (x : ℕ) (p xs : List ℕ) → x ≡ 10 → ¬ OccursAt (x ∷ xs) (10 ∷ p) 0 → starts_with nat_eq xs p ≡ false
unfed_after x p xs e h =
    elim (cases_Bool (starts_with nat_eq xs p)) [
      | inl t ↦ absurd (h (fed_here x p xs e t))
      | inr f ↦ f
    ]

-- what begins so goes on beginning so
prefix_kept : (p a b : List ℕ) → starts_with nat_eq a p ≡ true → starts_with nat_eq (a ++ b) p ≡ true
prefix_kept [] a b h = refl
prefix_kept (y ∷ p) [] b h = cc
prefix_kept (y ∷ p) (x ∷ a) b h =
    let both = and_parts (nat_eq y x) (starts_with nat_eq a p) h in
    rw (both.0, prefix_kept p a b both.1) refl

prefix_none : (p a b : List ℕ) → starts_with nat_eq (a ++ b) p ≡ false → starts_with nat_eq a p ≡ false
prefix_none p a b h =
    elim (cases_Bool (starts_with nat_eq a p)) [
      | inl t ↦ let there = prefix_kept p a b t in cc
      | inr f ↦ f
    ]

-- the first line of a text that doesn't begin so is no From-line
quiet_line : (xs : List ℕ) (l : TextLine) (ls : List TextLine) → xs ≡ text_of (l ∷ ls) → starts_with nat_eq xs from ≡ false → is_from_line l.content ≡ false
quiet_line xs l ls e h =
    let whole : xs ≡ l.content ++ (ending_bytes l.ending ++ text_of ls) = e ∙ append_assoc l.content (ending_bytes l.ending) (text_of ls) in
    ap (λ t. t && not (is_field_start l.content)) (prefix_none from l.content (ending_bytes l.ending ++ text_of ls) (sym (ap (λ ys. starts_with nat_eq ys from) whole) ∙ h))

-- the lines but the first
abbrev after_first : List TextLine → List TextLine
after_first [] = []
after_first (l ∷ ls) = ls

quiet_lines : (xs : List ℕ) (ls : List TextLine) → xs ≡ text_of ls → starts_with nat_eq xs from ≡ false → none_from (after_first ls) ≡ true → none_from ls ≡ true
quiet_lines xs [] e h q = refl
quiet_lines xs (l ∷ ls) e h q = rw (quiet_line xs l ls e h) q

quiet_cut : (xs : List ℕ) → starts_with nat_eq xs from ≡ false → none_from (after_first (cut xs)) ≡ true → none_from (cut xs) ≡ true
quiet_cut xs h q = quiet_lines xs (cut xs) (sym (text_cut xs)) h q

after_onto : (x : ℕ) (ls : List TextLine) → after_first (onto_first x ls) ≡ after_first ls
after_onto x [] = refl
after_onto x (l ∷ ls) = refl

after_fed : (x : ℕ) (xs : List ℕ) → (x == 10) ≡ true → after_first (cut (x ∷ xs)) ≡ cut xs
after_fed x xs t = rw t refl

after_other : (x : ℕ) (xs : List ℕ) → (x == 10) ≡ false → after_first (cut (x ∷ xs)) ≡ after_first (cut xs)
after_other x xs f = rw f (after_onto x (cut xs))

quiet_after : (xs : List ℕ) → ((k : ℕ) → ¬ OccursAt xs feed_and_from k) → none_from (after_first (cut xs)) ≡ true
quiet_after [] h = refl
quiet_after (x ∷ xs) h =
    let again = quiet_after xs (λ k o. h (suc k) (later_place x xs feed_and_from k o)) in
    elim (eqb_tells x 10) [
      | inl t ↦ ap none_from (after_fed x xs t.0) ∙ quiet_cut xs (unfed_after x from xs t.1 (h 0)) again
      | inr f ↦ ap none_from (after_other x xs f.0) ∙ again
    ]

-- what occurs in the front of a text occurs in it
front_occurs : (text p : List ℕ) (n k : ℕ) → n ≤ length text → OccursAt (take n text) p k → (k + length p ≤ n) × OccursAt text p k
front_occurs text p n k w o =
    let size = length-take-le n text w in
    let within : k + length p ≤ n = omega (arith, o.fits, size) in (
      within,
      record {
        fits = omega (arith, within, w);
        reads = λ j l. sym (get_or-take n text (k + j) 0 (omega (arith, l, within))) ∙ o.reads j l;
      },
    )

quiet_front : (text : List ℕ) (n : ℕ) → n ≤ length text → starts_with nat_eq text from ≡ false → ((k : ℕ) → k + 6 ≤ n → ¬ OccursAt text feed_and_from k) → none_from (cut (take n text)) ≡ true
quiet_front text n w s h =
    quiet_cut (take n text)
    (prefix_none from (take n text) (drop n text) (ap (λ xs. starts_with nat_eq xs from) (take-append-drop n text) ∙ s))
    (quiet_after (take n text) (λ k o. let there = front_occurs text feed_and_from n k w o in h k there.0 there.1))

-- bytes up to a feed are whole lines
pub whole_to : (text : List ℕ) (n : ℕ) → n < length text → slice_index text n ≡ 10 → ends_open (take (n + 1) text) ≡ false
whole_to text n l e = ap ends_open (take_more text n 0 l ∙ ap (λ b. take n text ++ b ∷ []) e) ∙ ends_fed (take n text)

pub whole_to_last : (text : List ℕ) (n : ℕ) → IsLastByte (is_byte 10) text (Some n) → ends_open (take (n + 1) text) ≡ false
whole_to_last text n h = whole_to text n h.0.high (eqb-true (slice_index text n) 10 h.1)

-- what the search answers
pub found : (text : List ℕ) (n : ℕ) → starts_with nat_eq text from ≡ false → FindsNeedle text feed_and_from 0 (Some n) → AreQuiet (take (n + 1) text)
found text n s h = record {
  whole = whole_to text n (omega (arith, h.1.fits)) (fed text n h.1);
  quiet = quiet_front text (n + 1) (omega (arith, h.1.fits)) s (λ k l. h.0.before k (omega arith) (omega (arith, l)));
}
  where
    fed : (text : List ℕ) (n : ℕ) → OccursAt text feed_and_from n → slice_index text n ≡ 10
    fed text n o = ap (slice_index text) (sym (add-zero n)) ∙ o.reads 0 (omega arith)

pub unfound : (text : List ℕ) (n : ℕ) → starts_with nat_eq text from ≡ false → FindsNeedle text feed_and_from 0 None → n ≤ length text → ends_open (take n text) ≡ false → AreQuiet (take n text)
unfound text n s h w e = record {
  whole = e;
  quiet = quiet_front text n w s (λ k l o. h k (omega arith) (omega (arith, o.fits)) o);
}
