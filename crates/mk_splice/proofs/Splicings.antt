-- Steps in memory, taken back splice by splice.
use Rattle.std.proofs.Common.{◌≡◌, ◌+◌, ◌-◌, ◌≤◌, ◌<◌, ◌++◌, ℕ, List, [], ◌∷◌, refl, ap, sym, ◌∙◌, subst, length, take, drop, map, get_or, max, arith}
use Rattle.std.proofs.lemmas.List.{drop_more, take_more, map-append}
use Rattle.mk_splice.specs.declared.splicing.Splice.{Splice as SpliceIn}
use Rattle.mk_splice.specs.Splices.{Splice, Stands, spliced, back_one, back_step, GoesBack}
use Rattle.mk_splice.specs.Peaks.{most_back, most_forth, size_back}
use Rattle.mk_splice.specs.Views.{splice_of}
use Rattle.mk_splice.proofs.Bytes.{length-spliced}

-- the last splice of a step, which is taken back first
back_last : (ss : List Splice) (s : Splice) (x : List ℕ) → back_step (ss ++ s ∷ []) x ≡ back_step ss (back_one s x)
back_last [] s x = refl
back_last (r ∷ ss) s x = ap (back_one r) (back_last ss s x)

goes_last : (ss : List Splice) (s : Splice) (x : List ℕ) → GoesBack (ss ++ s ∷ []) x → GoesBack ss (back_one s x) × Stands s.place s.new x
goes_last [] s x h = (tt, h.1)
goes_last (r ∷ ss) s x h =
    let p = goes_last ss s x h.0 in
    ((p.0, subst (λ y. Stands r.place r.new y) (back_last ss s x) h.1), p.1)

size_last : (ss : List Splice) (s : Splice) (n : ℕ) → size_back (ss ++ s ∷ []) n ≡ size_back ss (n - length s.new + length s.old)
size_last [] s n = refl
size_last (r ∷ ss) s n = ap (λ k. k - length r.new + length r.old) (size_last ss s n)

most_last : (ss : List Splice) (s : Splice) (n : ℕ) → most_back (ss ++ s ∷ []) n ≡ max n (most_back ss (n - length s.new + length s.old))
most_last [] s n = refl
most_last (r ∷ ss) s n = omega (arith, most_last ss s n, size_last ss s n)

-- a text is as long on the way as it is at the start
pub most_start : (ss : List Splice) (n : ℕ) → n ≤ most_back ss n
most_start [] n = omega arith
most_start (s ∷ ss) n = omega (arith, most_start ss n)

pub most_start_forth : (ss : List Splice) (n : ℕ) → n ≤ most_forth ss n
most_start_forth [] n = omega arith
most_start_forth (s ∷ ss) n = omega arith

less_one : (n : ℕ) → 0 < n → n - 1 + 1 ≡ n
less_one n h = omega arith

pub taken_last : (ss : List SpliceIn) (left : ℕ) (s : SpliceIn) → 0 < left → left ≤ length ss → s ≡ get_or ss (left - 1) s → map splice_of (take left ss) ≡ map splice_of (take (left - 1) ss) ++ splice_of s ∷ []
taken_last ss left s o l e =
    ap (λ n. map splice_of (take n ss)) (sym (less_one left o))
    ∙ (ap (map splice_of) (take_more ss (left - 1) s (omega arith) ∙ ap (λ r. take (left - 1) ss ++ r ∷ []) (sym e))
    ∙ map-append splice_of (take (left - 1) ss) (s ∷ []))

-- one turn of taking a step back
pub record LastBack (ss : List SpliceIn) (left : ℕ) (s : SpliceIn) (x : List ℕ) : Type 0 where
  pub stands : Stands s.place s.new.items x
  pub goes : GoesBack (map splice_of (take (left - 1) ss)) (back_one (splice_of s) x)
  pub made : back_step (map splice_of (take left ss)) x ≡ back_step (map splice_of (take (left - 1) ss)) (back_one (splice_of s) x)

pub last_back : (ss : List SpliceIn) (left : ℕ) (s : SpliceIn) (x : List ℕ) → 0 < left → left ≤ length ss → s ≡ get_or ss (left - 1) s → GoesBack (map splice_of (take left ss)) x → LastBack ss left s x
last_back ss left s x o l e g =
    let whole = taken_last ss left s o l e in
    let p = goes_last (map splice_of (take (left - 1) ss)) (splice_of s) x (subst (λ ss. GoesBack ss x) whole g) in
    record {
      stands = p.1;
      goes = p.0;
      made = ap (λ ss. back_step ss x) whole ∙ back_last (map splice_of (take (left - 1) ss)) (splice_of s) x;
    }

-- how long the text gets from that turn on
pub most_turn : (ss : List SpliceIn) (left : ℕ) (s : SpliceIn) (n : ℕ) → 0 < left → left ≤ length ss → s ≡ get_or ss (left - 1) s
    → most_back (map splice_of (take left ss)) n ≡ max n (most_back (map splice_of (take (left - 1) ss)) (n - length s.new.items + length s.old.items))
most_turn ss left s n o l e = ap (λ ss. most_back ss n) (taken_last ss left s o l e) ∙ most_last (map splice_of (take (left - 1) ss)) (splice_of s) n

-- the text after that turn
pub back_so : (s : SpliceIn) (x y old : List ℕ) (count : ℕ) → y ≡ spliced s.place count old x → count ≡ length s.new.items → old ≡ s.old.items → y ≡ back_one (splice_of s) x
back_so s x y old count e n o = e ∙ (ap (λ k. spliced s.place k old x) n ∙ ap (λ b. spliced s.place (length s.new.items) b x) o)

-- how long it is then
pub length-back : (s : SpliceIn) (x y : List ℕ) → Stands s.place s.new.items x → y ≡ back_one (splice_of s) x → length y ≡ length x - length s.new.items + length s.old.items
length-back s x y h e = omega (arith, ap length e, length-spliced s.place (length s.new.items) s.old.items x h.within, h.within)

-- the same of a step that is made again
pub most_next : (ss : List SpliceIn) (i : ℕ) (s : SpliceIn) (n : ℕ) → i < length ss → s ≡ get_or ss i s
    → most_forth (map splice_of (drop i ss)) n ≡ max n (most_forth (map splice_of (drop (i + 1) ss)) (n - length s.old.items + length s.new.items))
most_next ss i s n l e = ap (λ ss. most_forth (map splice_of ss) n) (drop_more ss i s l ∙ ap (λ r. r ∷ drop (i + 1) ss) (sym e))

-- the length on the way: too long, and the longest so far
pub too_long : (limit most now next rest left all : ℕ) → left ≡ max now rest → next ≤ rest → max most left ≡ all → limit ≤ next → limit ≤ all
too_long limit most now next rest left all e s h l = omega arith

pub longest_so_far : (most now next rest left all : ℕ) → left ≡ max now rest → next ≤ rest → now ≤ most → max most left ≡ all → max (max most next) rest ≡ all
longest_so_far most now next rest left all e s p h = omega arith
